-- The bits of a number: which of it they depend on, and how they join.
-- Assumes nothing.
use Rattle.std.proofs.Common.{◌≡◌, ℕ, zero, suc, ◌+◌, ◌-◌, ◌*◌, ◌/◌, ◌%◌, ◌^◌, ◌<◌, ◌≤◌, Bool, false, List, ◌∷◌, ◌++◌, take, nat_eq, refl, sym, ◌∙◌, ap, ap₂, subst, arith, mod-eq_of_lt}
use Rattle.std.proofs.Math.Nat.{zero-add, div-eq_of_lt}
use Rattle.std.proofs.Math.Pow.{mod-mod-pow}
use Rattle.std.proofs.lemmas.Nat.{shr-shr, shr_high, mod_low, field_of}
use Rattle.checks.specs.Bits.{bit, word}

pub bit_above : (n i : ℕ) → n < 2 ^ i → bit n i ≡ false
bit_above n i h = ap (λ (m : ℕ). nat_eq (m % 2) 1) (div-eq_of_lt h)

pub mod_less : (n k w : ℕ) → k ≤ w → n % 2 ^ w % 2 ^ k ≡ n % 2 ^ k
mod_less n k w h =
    let q : (w - k) + k ≡ w = omega arith in
    subst (λ (m : ℕ). n % 2 ^ m % 2 ^ k ≡ n % 2 ^ k) q (mod-mod-pow n (w - k) k)

mod_same : (n m j k : ℕ) → j ≤ k → n % 2 ^ k ≡ m % 2 ^ k → n % 2 ^ j ≡ m % 2 ^ j
mod_same n m j k h e = sym (mod_less n j k h) ∙ ap (λ (x : ℕ). x % 2 ^ j) e ∙ mod_less m j k h

-- the low k bits depend on the number modulo 2 ^ k
pub word_low : (k n m : ℕ) → n % 2 ^ k ≡ m % 2 ^ k → word k n ≡ word k m
unfolding word
word_low zero n m e = refl
word_low (suc k) n m e =
    let q : suc k ≡ 1 + k = omega arith in
    let e' : n % 2 ^ (1 + k) ≡ m % 2 ^ (1 + k) = subst (λ (j : ℕ). n % 2 ^ j ≡ m % 2 ^ j) q e in
    ap₂ (λ (x : Bool) (xs : List Bool). x ∷ xs)
    (ap (λ (x : ℕ). nat_eq x 1) (sym (field_of n 1 k) ∙ ap (λ (x : ℕ). x / 2 ^ k) e' ∙ field_of m 1 k))
    (word_low k n m (mod_same n m k (suc k) (omega arith) e))

-- a number behind another
pub word_join : (m k a b : ℕ) → b < 2 ^ k → word (m + k) (a * 2 ^ k + b) ≡ word m a ++ word k b
unfolding word
word_join zero k a b h =
    ap (λ (n : ℕ). word n (a * 2 ^ k + b)) (zero-add k)
    ∙ word_low k (a * 2 ^ k + b) b (mod_low a k b h ∙ sym (mod-eq_of_lt h))
word_join (suc m) k a b h =
    let q : suc m + k ≡ suc (m + k) = omega arith in
    let q' : m + k ≡ k + m = omega arith in
    ap (λ (n : ℕ). word n (a * 2 ^ k + b)) q
    ∙ ap₂ (λ (x : Bool) (xs : List Bool). x ∷ xs)
    (ap (λ (n : ℕ). nat_eq (n % 2) 1)
    (ap (λ (i : ℕ). (a * 2 ^ k + b) / 2 ^ i) q' ∙ sym (shr-shr (a * 2 ^ k + b) k m) ∙ ap (λ (n : ℕ). n / 2 ^ m) (shr_high a k b h)))
    (word_join m k a b h)

-- the first bits of a number
pub word_first : (n k b : ℕ) → k ≤ n → take k (word n b) ≡ word k (b / 2 ^ (n - k))
unfolding word
word_first n zero b h = refl
word_first zero (suc k) b h = absurd (omega (arith, h))
word_first (suc n) (suc k) b h =
    let e : n - k + k ≡ n = omega (arith, h) in
    let q : suc n - suc k ≡ n - k = omega arith in
    ap₂ (λ (x : Bool) (xs : List Bool). x ∷ xs)
    (ap (λ (m : ℕ). nat_eq (m % 2) 1) (ap (λ (i : ℕ). b / 2 ^ i) (sym e) ∙ sym (shr-shr b (n - k) k)))
    (word_first n k b (omega (arith, h)))
    ∙ ap (λ (i : ℕ). word (suc k) (b / 2 ^ i)) (sym q)
