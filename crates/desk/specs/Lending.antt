-- The unit on the bench, lent.
use Rattle.std.specs.Prelude.{Ok, Err, Result}
use Rattle.std.specs.Borrow.{LendsIfOk, MutBor, Fml, RattleType}
use Rattle.bench.specs.declared.unit.Bench.{Bench}
use Rattle.bench.specs.contracts.unit.Bench as of_bench
use Rattle.requests.specs.declared.lines.Lack.{Lack}
use Rattle.requests.specs.declared.lines.Lack.TheVariants.{IsBoxed}
use Rattle.desk.specs.declared.slot.AnyUnit.{AnyUnit}
use Rattle.desk.specs.declared.slot.AnyUnit.TheVariants as unit
use Rattle.desk.specs.contracts.slot.AnyUnit.{the_row}

-- the unit, if it is on the bench
abbrev pub on_bench : {C : Type 0} → AnyUnit C → Result Bench Lack
on_bench (unit.Bench b) = Ok b
on_bench (unit.Boxed u) = Err IsBoxed

-- once the borrow r ends, the bench unit is what was left behind r
abbrev pub LendsBench : (C : RattleType) → MutBor (AnyUnit C.Denot) → Result (MutBor Bench) Lack → Fml
LendsBench C s r = LendsIfOk (the_row C) of_bench.the_row s r unit.Bench s.now
