use Rattle.std.proofs.Common.{◌≡◌}
use Rattle.embed.specs.Cells.{each, writing}
use Rattle.embed.proofs.repeating.cells_again.Round.write_all.Given as goal

abbrev pub invariant-loop-before : goal.invariant-loop-before
invariant-loop-before l = l.self ≡ each writing l.before l.initial.self
