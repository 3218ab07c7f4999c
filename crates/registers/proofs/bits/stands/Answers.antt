use Rattle.std.proofs.Common.{◌≡◌, ℕ, ◌/◌, ◌%◌, ◌^◌, ◌<◌, ◌≤◌, eqb, sym, ap, ◌∙◌, arith, pow_mono}
use native.Mathlib.Nat.{div-eq_of_lt}
use Rattle.std.proofs.lemmas.Bool.{le-ltb}
use Rattle.registers.proofs.bits.stands.Goals as goal

above : (k v : ℕ) → 8 ≤ k → v < 256 → v / 2 ^ k ≡ 0
above k v h l = let m : 256 ≤ 2 ^ k = pow_mono h in div-eq_of_lt (omega arith)

pub returns-else-place-lt8 : goal.returns-else-place-lt8
returns-else-place-lt8 c =
    le-ltb c.args.place 8 (omega arith)
    ∙ sym (ap (λ (n : ℕ). eqb (n % 2) 1) (above c.args.place c.args.byte (omega arith) (omega arith)))
