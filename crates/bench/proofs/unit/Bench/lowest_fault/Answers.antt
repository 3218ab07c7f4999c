use Rattle.std.proofs.Common.{◌≡◌, Bool, cond, List, [], ◌∷◌, Some, refl, ap, ◌∙◌, rules, tests}
use Rattle.std.specs.List.{find}
use Rattle.std.proofs.lemmas.Iterator.{YieldsList-from_slice}
use Rattle.std.proofs.lemmas.Iterator.Search.{find_from_yields_List}
use Rattle.registers.specs.declared.register.Register.{Register}
use Rattle.registers.specs.Address.{registers}
use Rattle.bench.specs.Checking.{faulty, first_faulty}
use Rattle.bench.proofs.unit.Bench.lowest_fault.Goals as goal

first_is_found : (bad : Register → Bool) (rs : List Register) → find bad rs ≡ first_faulty bad rs
unfolding first_faulty
first_is_found bad [] = refl
first_is_found bad (r ∷ rs) = ap (cond (bad r) (Some r)) (first_is_found bad rs)

pub returns : goal.returns
returns c =
    let bad = faulty c.args.width c.args.self.now.registers in
    c.copied.ensures
    ∙ find_from_yields_List bad _ _ c.find.result c.find.ensures.ran (YieldsList-from_slice registers cc) (λ x b q k. search (rules, tests))
    ∙ first_is_found bad registers
