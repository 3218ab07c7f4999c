use Rattle.std.proofs.Common.{◌≡◌, ◌≤◌, length, vec_len}
use Rattle.desk.specs.Making.{with_boxed}
use Rattle.desk.proofs.making.put_back.Given as goal

abbrev pub decreases-loop-unit : goal.decreases-loop-unit
decreases-loop-unit g l = vec_len l.units

abbrev pub invariant-loop-unit : goal.invariant-loop-unit
invariant-loop-unit g l = record {
  rest : with_boxed l.units.items l.slots ≡ with_boxed l.initial.units.items l.initial.slots;
  few : length l.units.items ≤ length l.slots;
}
