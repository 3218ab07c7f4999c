use Rattle.std.proofs.Common.{sym, ◌∙◌, rules, tests}
use Rattle.std.proofs.lemmas.Bool.{cond-true}
use Rattle.std.proofs.lemmas.Iterator.{YieldsList-from_slice}
use Rattle.std.proofs.lemmas.Iterator.Search.{any_from_yields_List}
use Rattle.registers.specs.Pipes.{pipes}
use Rattle.registers.specs.declared.pipe.Pipe.TheVariants.{P0}
use Rattle.bench.specs.Checking.{is_receiver, unanswered, some_pipe}
use Rattle.bench.proofs.unit.Bench.en_aa_fault.Goals as goal

pub returns-then-is_receiver : goal.returns-then-is_receiver
returns-then-is_receiver c =
    let f = c.args.self.now.registers in
    any_from_yields_List (unanswered f) _ _ _ c.any.ensures.ran (YieldsList-from_slice pipes cc) (λ x b q k. search (rules, tests))
    ∙ sym (cond-true (is_receiver f) (some_pipe pipes (unanswered f)) (unanswered f P0) (sym c.if-is_receiver.ensures))
