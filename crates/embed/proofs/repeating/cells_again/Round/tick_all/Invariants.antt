use Rattle.std.proofs.Common.{◌≡◌}
use Rattle.embed.specs.Cells.{each, ticking}
use Rattle.embed.proofs.repeating.cells_again.Round.tick_all.Given as goal

abbrev pub invariant-loop-before : goal.invariant-loop-before
invariant-loop-before l = l.self ≡ each ticking l.before l.initial.self
