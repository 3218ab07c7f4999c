-- The lines so far were taken, and those of what is left come after them.
use Rattle.std.proofs.Common.{ℕ, List}
use Rattle.script.specs.Feeding.{Takes}
use Rattle.script.proofs.Lines.{Leaves}
use Rattle.script.proofs.feeding.feed_lines.Given as goal

abbrev pub invariant-loop : goal.invariant-loop
invariant-loop g l =
    (ls : List (List ℕ)) × Leaves (g.R.Read.remaining l.fn.input) ls (g.R.Read.remaining l.input)
    × Takes ls l.fn.console l.console (g.W.Write.contents l.fn.out) (g.W.Write.contents l.out)
