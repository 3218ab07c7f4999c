-- The bits that are fixed by boxing, by their mask.
use Rattle.std.proofs.Common.{◌≡◌, ℕ, zero, suc, ◌+◌, ◌%◌, ◌<◌, Bool, true, ◌&&◌, eqb, sym, refl, ap, ◌∙◌, arith}
use Rattle.std.specs.Bool.{beq}
use Rattle.std.specs.Cmp.{booleans_Decides}
use Rattle.std.specs.Int.{bit_at}
use Rattle.std.specs.Int.Bits.{bit_and, bit_xor}
use Rattle.std.proofs.lemmas.Bool.Decides.{Decides-below_and}
use Rattle.std.proofs.lemmas.Nat.{xor_of_8}
use Rattle.std.proofs.lemmas.Nat.Bits.{bit_at_xor, bit_at-lt}
use Rattle.registers.specs.Bits.{bit}
use Rattle.unit.specs.Commanding.{alike, as_it_stands}

alike_sum : (x y : ℕ) → x < 2 → y < 2 → alike (eqb x 1) (eqb y 1) ≡ eqb ((x + y) % 2) 0
alike_sum zero zero h k = refl
alike_sum zero (suc zero) h k = refl
alike_sum (suc zero) zero h k = refl
alike_sum (suc zero) (suc zero) h k = refl
alike_sum (suc (suc x)) y h k = absurd (omega (arith, h))
alike_sum zero (suc (suc y)) h k = absurd (omega (arith, k))
alike_sum (suc zero) (suc (suc y)) h k = absurd (omega (arith, k))

alike_xor : (a b k : ℕ) → alike (bit k a) (bit k b) ≡ eqb (bit_at (bit_xor a b) k) 0
alike_xor a b k = alike_sum (bit_at a k) (bit_at b k) (bit_at-lt a k) (bit_at-lt b k) ∙ sym (ap (λ (n : ℕ). eqb n 0) (bit_at_xor a b k))

abbrev clear : ℕ → Bool
clear x = eqb (bit_at x 7) 0 && (eqb (bit_at x 3) 0 && (eqb (bit_at x 2) 0 && (eqb (bit_at x 0) 0 && true)))

-- the mask has just these places: tested at each byte
alike_at : ℕ → Bool
alike_at n = beq (clear n) (eqb (bit_and n 0x8D) 0)

below : ℕ → Bool
below zero = true
below (suc n) = alike_at n && below n

cleared : (x : ℕ) → x < 256 → clear x ≡ eqb (bit_and x 0x8D) 0
unfolding below alike_at
cleared =
    (Decides-below_and alike_at (λ n. clear n ≡ eqb (bit_and n 0x8D) 0) below (λ n. booleans_Decides (clear n) (eqb (bit_and n 0x8D) 0)) refl (λ _. refl) 256).0 refl

pub masked : (a b : ℕ) → a < 256 → b < 256 → as_it_stands a b ≡ eqb (bit_and (bit_xor a b) 0x8D) 0
masked a b h k = rw (alike_xor a b 7, alike_xor a b 3, alike_xor a b 2, alike_xor a b 0) (cleared (bit_xor a b) (xor_of_8 a b h k))
