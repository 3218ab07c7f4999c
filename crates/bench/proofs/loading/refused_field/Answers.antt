use Rattle.std.proofs.Common.{◌≡◌, Bool, true, false, cond, Some, List, [], ◌∷◌, ℕ, refl, ap, ◌∙◌, rules, tests}
use Rattle.std.specs.List.{find}
use Rattle.std.specs.Option.{option_map}
use Rattle.std.proofs.lemmas.Iterator.Search.{find_from_yields_List}
use Rattle.registers.specs.declared.register.Register.{Register}
use Rattle.registers.specs.Address.{registers}
use Rattle.commands.specs.declared.refusal.Refusal.TheVariants.{NotAllowed}
use Rattle.commands.specs.Refusals.{first_of}
use Rattle.profile.specs.Reading.{bytes_of}
use Rattle.bench.specs.Loading.{field, refuses, field_refusals}
use Rattle.bench.proofs.Items.{from_array, same}
use Rattle.bench.proofs.loading.refused_field.Goals as goal

-- the refusal of the first register that refuses is the first refusal
first_refused : (p : List ℕ) (rs : List Register)
    → option_map (λ r. NotAllowed r) (find (λ r. refuses r (field p r)) rs) ≡ first_of (field_refusals p rs)
first_refused p [] = refl
first_refused p (r ∷ rs) = by (refuses r (field p r)) (first_refused p rs)
  where
    by : (b : Bool) → option_map (λ r. NotAllowed r) (find (λ r. refuses r (field p r)) rs) ≡ first_of (field_refusals p rs)
        → option_map (λ r. NotAllowed r) (cond b (Some r) (find (λ r. refuses r (field p r)) rs)) ≡ cond b (Some (NotAllowed r)) (first_of (field_refusals p rs))
    by true e = refl
    by false e = e

pub returns : goal.returns
returns c =
    let p = bytes_of c.args.profile.now in
    let h = find_from_yields_List (λ r. refuses r (field p r)) _ _ c.find.result c.find.ensures.ran (from_array registers cc) (λ x b q k. search (rules, tests)) in
    ap (option_map (λ r. NotAllowed r)) (same c.find.result ∙ h) ∙ first_refused p registers
