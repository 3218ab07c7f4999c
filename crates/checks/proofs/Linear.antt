-- A run is linear over exclusive or, in the register and in the string, whatever the width and the polynomial.
-- Assumes nothing.
use Rattle.std.proofs.Common.{◌≡◌, ℕ, zero, suc, pred, ◌*◌, ◌/◌, ◌%◌, ◌^◌, ◌<◌, Bool, true, false, cond, List, [], ◌∷◌, length, bit_xor, nat_eq, refl, sym, ◌∙◌, ap, ap₂, arith, mod-lt, pow_pos, lit<}
use Rattle.std.proofs.Math.Nat.{add-zero}
use Rattle.std.proofs.lemmas.Nat.{xor_shr, xor_mod, xor_block, xor_comm}
use Rattle.std.specs.Int.Bits.{xor_assoc, xor_self, xor_zero_l}
use Rattle.checks.specs.Bits.{bit, word}
use Rattle.checks.specs.Crc.{differs, step, run}
use Rattle.checks.proofs.Words.{bit_above}

pub xor_shl : (k r s : ℕ) → bit_xor r s * 2 ^ k ≡ bit_xor (r * 2 ^ k) (s * 2 ^ k)
xor_shl k r s =
    sym (add-zero (bit_xor r s * 2 ^ k)) ∙ sym (xor_block k r s 0 0 (pow_pos k) (pow_pos k))
    ∙ ap₂ (λ (a b : ℕ). bit_xor a b) (add-zero (r * 2 ^ k)) (add-zero (s * 2 ^ k))

shift_xor : (w r s : ℕ) → bit_xor r s * 2 % 2 ^ w ≡ bit_xor (r * 2 % 2 ^ w) (s * 2 % 2 ^ w)
shift_xor w r s = ap (λ (n : ℕ). n % 2 ^ w) (xor_shl 1 r s) ∙ xor_mod (r * 2) (s * 2) w

one_bit : (a b : ℕ) → a < 2 → b < 2 → nat_eq (bit_xor a b) 1 ≡ differs (nat_eq a 1) (nat_eq b 1)
one_bit zero zero ha hb = refl
one_bit zero (suc zero) ha hb = refl
one_bit (suc zero) zero ha hb = refl
one_bit (suc zero) (suc zero) ha hb = refl
one_bit (suc (suc a)) b ha hb = absurd (omega (arith, ha))
one_bit zero (suc (suc b)) ha hb = absurd (omega (arith, hb))
one_bit (suc zero) (suc (suc b)) ha hb = absurd (omega (arith, hb))

bit_of_xor : (r s i : ℕ) → bit (bit_xor r s) i ≡ differs (bit r i) (bit s i)
bit_of_xor r s i =
    ap (λ (n : ℕ). nat_eq (n % 2) 1) (xor_shr r s i) ∙ ap (λ (n : ℕ). nat_eq n 1) (xor_mod (r / 2 ^ i) (s / 2 ^ i) 1)
    ∙ one_bit (r / 2 ^ i % 2) (s / 2 ^ i % 2) (mod-lt (r / 2 ^ i) (lit< tt)) (mod-lt (s / 2 ^ i) (lit< tt))

regrouped : (a b c d : Bool) → differs (differs a b) (differs c d) ≡ differs (differs a c) (differs b d)
regrouped false false c d = refl
regrouped false true false d = refl
regrouped false true true true = refl
regrouped false true true false = refl
regrouped true false false true = refl
regrouped true false false false = refl
regrouped true false true true = refl
regrouped true false true false = refl
regrouped true true false true = refl
regrouped true true false false = refl
regrouped true true true true = refl
regrouped true true true false = refl

abbrev mix : (w p : ℕ) → Bool → ℕ → ℕ
mix w p b r = cond b (bit_xor (r * 2 % 2 ^ w) p) (r * 2 % 2 ^ w)

-- combined in twice, the polynomial is gone
both_off : (x y p : ℕ) → bit_xor x y ≡ bit_xor (bit_xor x p) (bit_xor y p)
both_off x y p =
    sym
    (xor_assoc x p (bit_xor y p)
    ∙ ap (λ (n : ℕ). bit_xor x n)
    (ap (λ (n : ℕ). bit_xor p n) (xor_comm y p) ∙ sym (xor_assoc p p y) ∙ ap (λ (n : ℕ). bit_xor n y) (xor_self p) ∙ xor_zero_l y))

mix_xor : (w p : ℕ) (b c : Bool) (r s : ℕ) → mix w p (differs b c) (bit_xor r s) ≡ bit_xor (mix w p b r) (mix w p c s)
mix_xor w p true true r s = shift_xor w r s ∙ both_off (r * 2 % 2 ^ w) (s * 2 % 2 ^ w) p
mix_xor w p true false r s =
    ap (λ (n : ℕ). bit_xor n p) (shift_xor w r s ∙ xor_comm (r * 2 % 2 ^ w) (s * 2 % 2 ^ w))
    ∙ xor_assoc (s * 2 % 2 ^ w) (r * 2 % 2 ^ w) p ∙ xor_comm (s * 2 % 2 ^ w) (bit_xor (r * 2 % 2 ^ w) p)
mix_xor w p false true r s =
    ap (λ (n : ℕ). bit_xor n p) (shift_xor w r s) ∙ xor_assoc (r * 2 % 2 ^ w) (s * 2 % 2 ^ w) p
mix_xor w p false false r s = shift_xor w r s

step_xor : (w p r s : ℕ) (x y : Bool) → step w p (bit_xor r s) (differs x y) ≡ bit_xor (step w p r x) (step w p s y)
step_xor w p r s x y =
    ap (λ (z : Bool). mix w p z (bit_xor r s))
    (ap (λ (t : Bool). differs t (differs x y)) (bit_of_xor r s (pred w)) ∙ regrouped (bit r (pred w)) (bit s (pred w)) x y)
    ∙ mix_xor w p (differs (bit r (pred w)) x) (differs (bit s (pred w)) y) r s

pub run_xor :
    (w p k r s a b : ℕ) → run w p (bit_xor r s) (word k (bit_xor a b)) ≡ bit_xor (run w p r (word k a)) (run w p s (word k b))
unfolding word
run_xor w p zero r s a b = refl
run_xor w p (suc k) r s a b =
    ap (λ (n : ℕ). run w p n (word k (bit_xor a b)))
    (ap (step w p (bit_xor r s)) (bit_of_xor a b k) ∙ step_xor w p r s (bit a k) (bit b k))
    ∙ run_xor w p k (step w p r (bit a k)) (step w p s (bit b k)) a b

-- a register beside another meets zeros
pub apart : (w p r t : ℕ) (s : List Bool) → run w p (bit_xor r t) s ≡ bit_xor (run w p r (word (length s) 0)) (run w p t s)
unfolding word
apart w p r t [] = refl
apart w p r t (x ∷ s) =
    ap (λ (n : ℕ). run w p n s) (step_xor w p r t false x) ∙ apart w p (step w p r false) (step w p t x) s
    ∙ ap (λ (y : Bool). bit_xor (run w p (step w p r y) (word (length s) 0)) (run w p (step w p t x) s))
    (sym (bit_above 0 (length s) (pow_pos (length s))))
