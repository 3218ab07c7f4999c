-- A unit that was on the bench.
use Rattle.std.proofs.Common.{◌≡◌, ℕ, Ok, ap, arith}
use Rattle.bench.specs.declared.unit.Bench.{Bench}
use Rattle.desk.specs.declared.slot.AnyUnit.{AnyUnit}
use Rattle.desk.specs.declared.slot.AnyUnit.TheVariants as unit
use Rattle.desk.specs.Lending.{on_bench}

pub is_bench : {C : Type 0} (s : AnyUnit C) (b : Bench) → on_bench s ≡ Ok b → s ≡ unit.Bench b
is_bench (unit.Bench b) d e = let same : b ≡ d = cc in ap unit.Bench same
is_bench (unit.Boxed u) d e = let z : ◌≡◌ {A = ℕ} 0 1 = cc in absurd (omega arith)
