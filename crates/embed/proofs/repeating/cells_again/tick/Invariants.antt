use Rattle.std.proofs.Common.{◌≡◌}
use Rattle.embed.specs.Cells.{ticks_of}
use Rattle.embed.proofs.repeating.cells_again.tick.Given as goal

abbrev pub invariant-loop : goal.invariant-loop
invariant-loop l = l.cell.inside ≡ ticks_of l.unit l.counter l.initial.cell.inside
