use Rattle.std.proofs.Common.{◌∙◌, rules, tests}
use Rattle.std.proofs.lemmas.Iterator.{YieldsList-from_slice}
use Rattle.std.proofs.lemmas.Iterator.Search.{find_from_yields_List}
use Rattle.frames.specs.Calls.{address_bytes}
use Rattle.registers.specs.Pipes.{pipes}
use Rattle.unit.specs.Hearing.{on_pipe}
use Rattle.unit.proofs.state.State.pipe_of.Goals as goal

pub returns : goal.returns
returns c =
    c.copied.ensures
    ∙ find_from_yields_List (on_pipe c.args.self.now.registers (address_bytes c.args.address.now)) _ _ c.find.result c.find.ensures.ran
    (YieldsList-from_slice pipes cc) (λ x b q k. search (rules, tests))
