use Rattle.std.proofs.Common.{◌≡◌, Bool, ◌&&◌, nat_lt, refl, ◌∙◌, rules, tests}
use Rattle.std.proofs.lemmas.Iterator.{YieldsList-from_slice}
use Rattle.std.proofs.lemmas.Iterator.Search.{any_from_yields_List}
use Rattle.registers.specs.Pipes.{index_of, pipes}
use Rattle.registers.specs.declared.pipe.Pipe.{Pipe}
use Rattle.registers.specs.declared.pipe.Pipe.TheVariants.{P0, P1, P2, P3, P4, P5}
use Rattle.bench.specs.Checking.{same_address, some_pipe, lower}
use Rattle.bench.proofs.unit.Bench.is_taken.Goals as goal

below : (p : Pipe) (holds : Pipe → Bool) → some_pipe pipes (λ q. nat_lt (index_of q) (index_of p) && holds q) ≡ some_pipe (lower p) holds
below P0 h = refl
below P1 h = refl
below P2 h = refl
below P3 h = refl
below P4 h = refl
below P5 h = refl

pub returns : goal.returns
returns c =
    let f = c.args.self.now.registers in
    any_from_yields_List (λ q. nat_lt (index_of q) (index_of c.args.pipe) && same_address f c.args.pipe q) _ _ _ c.any.ensures.ran
    (YieldsList-from_slice pipes cc) (λ x b q k. search (rules, tests))
    ∙ below c.args.pipe (same_address f c.args.pipe)
