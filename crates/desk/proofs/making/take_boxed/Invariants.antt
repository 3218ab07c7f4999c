use Rattle.desk.proofs.BoxedFirst.{Taking}
use Rattle.desk.proofs.making.take_boxed.Given as goal

abbrev pub invariant-loop-i : goal.invariant-loop-i
invariant-loop-i g l = Taking l.initial.slots l.i l.units.items l.slots
