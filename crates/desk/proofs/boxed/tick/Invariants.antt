use Rattle.desk.proofs.InARow.{SoFar}
use Rattle.desk.proofs.boxed.tick.Given as goal

abbrev pub invariant-loop-taken : goal.invariant-loop-taken
invariant-loop-taken g l = SoFar g.C.Check.W g.C.Check.meaning l.times.count l.taken l.initial.unit.state l.unit.state
