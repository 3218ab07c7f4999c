use Rattle.std.proofs.Common.{◌≡◌}
use Rattle.embed.specs.Cells.{each, sender_up}
use Rattle.embed.proofs.repeating.cells_again.power_up_senders.Given as goal

abbrev pub invariant-loop-before : goal.invariant-loop-before
invariant-loop-before l = l.cell.inside ≡ each (sender_up l.ticks) l.before l.initial.cell.inside
