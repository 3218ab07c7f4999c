use Rattle.desk.proofs.TicksOfCell.{CellSoFar}
use Rattle.desk.proofs.cell_calls.ticks.Given as goal

abbrev pub invariant-loop-taken : goal.invariant-loop-taken
invariant-loop-taken g l = CellSoFar g.C.Check.W g.C.Check.meaning l.unit l.times.count l.taken l.initial.cell.inside l.cell.inside
