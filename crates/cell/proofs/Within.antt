-- Which patterns lie within a frame.
use Rattle.std.proofs.Common.{◌≡◌, ℕ, zero, suc, ◌+◌, ◌-◌, ◌*◌, ◌/◌, ◌%◌, ◌^◌, ◌<◌, ◌≤◌, Bool, true, false, ◌&&◌, eqb, ltb, List, ◌∷◌, sym, refl, ap, ◌∙◌, inl, inr, one-add, arith}
use native.Mathlib.Nat.{mod-one}
use Rattle.std.proofs.lemmas.Nat.{mod-pow-add, pow_pos}
use Rattle.std.proofs.lemmas.Bool.{cases_lt}
use Rattle.std.proofs.lemmas.Bool.Decides.{nat_tests}
use Rattle.checks.specs.Bits.{bit, word}
use Rattle.cell.specs.Air.{inside}

more : (p k : ℕ) → p % 2 ^ suc k ≡ (p / 2 ^ k % 2) * 2 ^ k + p % 2 ^ k
more p k = rw (← one-add k) (mod-pow-add p 1 k)

-- a place that the frame has takes any bit
head_in : (b : Bool) (ys : List Bool) (start count : ℕ) → start < count → inside (b ∷ ys) start count ≡ inside ys (suc start) count
unfolding inside
head_in false ys start count h = refl
head_in true ys start count h = let e : ltb start count ≡ true = grind (arith, nat_tests) in ap (λ (t : Bool). t && inside ys (suc start) count) e

head_zero : (b q r : ℕ) → eqb q 1 ≡ false → q < 2 → q * b + r ≡ r
head_zero b zero r e l = omega arith
head_zero b (suc zero) r e l = cc
head_zero b (suc (suc q)) r e l = absurd (omega arith)

wrong : (q : ℕ) → eqb (suc (suc q)) 1 ≡ true → ⊥
wrong q e = grind (arith, nat_tests)

head_one : (b q r : ℕ) → eqb q 1 ≡ true → 0 < b → eqb (q * b + r) 0 ≡ false
head_one b zero r e l = cc
head_one b (suc zero) r e l = let p : 0 < 1 * b + r = omega arith in grind (arith, nat_tests)
head_one b (suc (suc q)) r e l = absurd (wrong q e)

-- past the frame's end there is no bit
past_step :
    (k p start count : ℕ) (b : Bool) → bit p k ≡ b → count ≤ start → inside (word k p) (suc start) count ≡ eqb (p % 2 ^ k) 0
    → inside (b ∷ word k p) start count ≡ eqb (p % 2 ^ suc k) 0
unfolding inside
past_step k p start count false e h i =
    let q = p / 2 ^ k % 2 in
    i ∙ sym (ap (λ (n : ℕ). eqb n 0) (more p k ∙ head_zero (2 ^ k) q (p % 2 ^ k) e (omega arith)))
past_step k p start count true e h i =
    let q = p / 2 ^ k % 2 in
    let out : ltb start count ≡ false = grind (arith, nat_tests) in
    ap (λ (t : Bool). t && inside (word k p) (suc start) count) out
    ∙ sym (ap (λ (n : ℕ). eqb n 0) (more p k) ∙ head_one (2 ^ k) q (p % 2 ^ k) e (pow_pos k))

past : (k p start count : ℕ) → count ≤ start → inside (word k p) start count ≡ eqb (p % 2 ^ k) 0
unfolding word inside
past zero p start count h = sym (ap (λ (n : ℕ). eqb n 0) (mod-one p))
past (suc k) p start count h = past_step k p start count (bit p k) refl h (past k p (suc start) count (omega arith))

-- among the bits that the frame has from the start bit on
pub within : (k p start count : ℕ) → inside (word k p) start count ≡ eqb (p % 2 ^ (k - (count - start))) 0
unfolding word inside
within zero p start count =
    let e : 0 - (count - start) ≡ 0 = omega arith in
    sym (ap (λ (n : ℕ). eqb (p % 2 ^ n) 0) e ∙ ap (λ (n : ℕ). eqb n 0) (mod-one p))
within (suc k) p start count =
    elim (cases_lt start count) [
      | inl l ↦
          let e : k - (count - suc start) ≡ suc k - (count - start) = omega arith in
          head_in (bit p k) (word k p) start count l ∙ within k p (suc start) count ∙ ap (λ (n : ℕ). eqb (p % 2 ^ n) 0) e
      | inr m ↦
          let e : suc k ≡ suc k - (count - start) = omega arith in
          past (suc k) p start count m ∙ ap (λ (n : ℕ). eqb (p % 2 ^ n) 0) e
    ]
