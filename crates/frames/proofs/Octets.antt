-- Numbers and bytes from bits, and back.
use Rattle.std.proofs.Common.{◌≡◌, ℕ, zero, suc, ◌+◌, ◌*◌, ◌/◌, ◌%◌, ◌^◌, ◌<◌, ◌≤◌, Bool, true, false, eqb, List, [], ◌∷◌, ◌++◌, length, get_or, take, drop, replicate, sym, refl, ap, ◌∙◌, ap₂, mul-le-mul_right, mod-eq_of_lt, mul_assoc, add-mul, suc-add, pow-suc, zero-add, one-add, arith, take-add, pow_mono}
use native.Mathlib.Nat.{mod-one, zero-div, zero-mod}
use lib.Seq.{paste, drop-nil}
use Rattle.std.proofs.lemmas.Nat.{mod-pow-add}
use Rattle.std.proofs.lemmas.List.{length-take, take_at, drop_at, take-append-le, drop-append-le, length-take-le, length-drop, get_or-drop, drop-drop}
use Rattle.std.proofs.lemmas.List.Edits.{paste_all}
use Rattle.std.proofs.lemmas.Bool.Decides.{nat_tests}
use Rattle.checks.specs.Bits.{bit, word, bits}
use Rattle.frames.specs.Octets.{digit, number_after, number, octets}
use Rattle.checks.specs.Places.{length_word}

digit_bit : (x : ℕ) → digit (eqb (x % 2) 1) ≡ x % 2
digit_bit x = grind (arith, nat_tests)

number_word : (a n v : ℕ) → number_after a (word n v) ≡ a * 2 ^ n + v % 2 ^ n
unfolding number_after word
number_word a zero v = rw mod-one (omega arith)
number_word a (suc n) v =
    let q = v / 2 ^ n % 2 in
    let e : v % 2 ^ suc n ≡ q * 2 ^ n + v % 2 ^ n = rw (← one-add n) (mod-pow-add v 1 n) in
    let s : (a * 2 + q) * 2 ^ n ≡ a * 2 * 2 ^ n + q * 2 ^ n = add-mul (a * 2) q (2 ^ n) in
    let m : a * 2 * 2 ^ n ≡ a * (2 * 2 ^ n) = mul_assoc a 2 (2 ^ n) in
    let p : 2 ^ suc n ≡ 2 * 2 ^ n = omega (arith, pow-suc 2 n) in
    number_word (a * 2 + digit (bit v n)) n v
    ∙ ap (λ (b : ℕ). (a * 2 + b) * 2 ^ n + v % 2 ^ n) (digit_bit (v / 2 ^ n))
    ∙ rw (e, p) (omega (arith, s, m))

-- a number is what its bits write
pub number_back : (n v : ℕ) → v < 2 ^ n → number (word n v) ≡ v
number_back n v h = number_word 0 n v ∙ omega (arith, mod-eq_of_lt h)

-- bytes are what their bits fill
pub octets_back : (xs : List ℕ) → ((i : ℕ) → get_or xs i 0 < 256) → octets (length xs) (bits xs) ≡ xs
unfolding octets bits
octets_back [] h = refl
octets_back (x ∷ xs) h =
    ap₂ (λ (y : ℕ) (ys : List ℕ). y ∷ ys)
    (ap number (take_at (word 8 x) (bits xs) 8 (length_word 8 x)) ∙ number_back 8 x (h 0))
    (ap (octets (length xs)) (drop_at (word 8 x) (bits xs) 8 (length_word 8 x)) ∙ octets_back xs (λ i. h (suc i)))

octets_append : (k j : ℕ) (s t : List Bool) → length s ≡ 8 * k → octets (k + j) (s ++ t) ≡ octets k s ++ octets j t
unfolding octets
octets_append zero j [] t e = rw zero-add
octets_append zero j (b ∷ s) t e = absurd (omega arith)
octets_append (suc k) j s t e =
    let h : 8 ≤ length s = omega arith in
    let l : length (drop 8 s) ≡ 8 * k = omega (arith, length-drop 8 s) in
    rw (suc-add k j, take-append-le 8 s t h, drop-append-le 8 s t h)
    (ap (λ (ys : List ℕ). number (take 8 s) ∷ ys) (octets_append k j (drop 8 s) t l))

pub bits_drop : (k : ℕ) (xs : List ℕ) → drop (8 * k) (bits xs) ≡ bits (drop k xs)
unfolding bits
bits_drop zero xs = refl
bits_drop (suc k) [] = drop-nil (8 * suc k)
bits_drop (suc k) (x ∷ xs) =
    let e : 8 * suc k ≡ 8 + 8 * k = omega arith in
    rw (e, ← drop-drop (8 * k) 8 (word 8 x ++ bits xs), drop_at (word 8 x) (bits xs) 8 (length_word 8 x)) (bits_drop k xs)

-- a write of whole bytes at the front leaves the later ones
pub front_octets : (xs ys : List ℕ) (s : List Bool) (k : ℕ) → ((i : ℕ) → get_or xs i 0 < 256) → ((i : ℕ) → get_or ys i 0 < 256)
    → length s ≡ 8 * k → k ≤ length xs → length ys ≡ length xs → bits ys ≡ paste (bits xs) 0 s (8 * k) → ys ≡ octets k s ++ drop k xs
front_octets xs ys s k hx hy e l n p =
    let z : 0 + 8 * k ≡ 8 * k = omega arith in
    let w : bits ys ≡ s ++ bits (drop k xs) =
    p ∙ paste_all (bits xs) 0 s (8 * k) (sym e)
    ∙ ap (λ (u : List Bool). s ++ u) (ap (λ (m : ℕ). drop m (bits xs)) z ∙ bits_drop k xs) in
    let m : length ys ≡ k + length (drop k xs) = omega (arith, length-drop k xs) in
    sym (octets_back ys hy) ∙ ap₂ octets m w ∙ octets_append k (length (drop k xs)) s (bits (drop k xs)) e
    ∙ ap (λ (u : List ℕ). octets k s ++ u)
    (octets_back (drop k xs) (λ i. rw get_or-drop (hx (k + i))))

-- ---- bits from numbers

one_more : (a b : ℕ) (x y : Bool) → a * 2 + digit x ≡ b * 2 + digit y → (a ≡ b) × (x ≡ y)
one_more a b true true e = (omega (arith, e), refl)
one_more a b false false e = (omega (arith, e), refl)
one_more a b true false e = absurd (omega (arith, e))
one_more a b false true e = absurd (omega (arith, e))

same_after : (xs ys : List Bool) → length xs ≡ length ys → (a b : ℕ) → number_after a xs ≡ number_after b ys → (a ≡ b) × (xs ≡ ys)
unfolding number_after
same_after [] [] l a b e = (e, refl)
same_after [] (y ∷ ys) l a b e = absurd (omega (arith, l))
same_after (x ∷ xs) [] l a b e = absurd (omega (arith, l))
same_after (x ∷ xs) (y ∷ ys) l a b e =
    let ih = same_after xs ys (omega (arith, l)) (a * 2 + digit x) (b * 2 + digit y) e in
    let h = one_more a b x y ih.0 in
    (h.0, ap₂ (λ (z : Bool) (zs : List Bool). z ∷ zs) h.1 ih.1)

below_after : (xs : List Bool) (a : ℕ) → number_after a xs < suc a * 2 ^ length xs
unfolding number_after
below_after [] a = omega arith
below_after (x ∷ xs) a =
    let p = 2 ^ length xs in
    let d : suc (a * 2 + digit x) ≤ suc a * 2 = digit_le x in
    let m : suc (a * 2 + digit x) * p ≤ suc a * 2 * p = mul-le-mul_right p d in
    let e : suc a * 2 * p ≡ suc a * (2 * p) = mul_assoc (suc a) 2 p in
    let q : 2 ^ suc (length xs) ≡ 2 * p = omega (arith, pow-suc 2 (length xs)) in
    rw q (omega (arith, below_after xs (a * 2 + digit x), m, e))
  where
    digit_le : (y : Bool) → suc (a * 2 + digit y) ≤ suc a * 2
    digit_le true = omega arith
    digit_le false = omega arith

pub number_below : (xs : List Bool) (k : ℕ) → length xs ≤ k → number xs < 2 ^ k
number_below xs k h =
    let m : 2 ^ length xs ≤ 2 ^ k = pow_mono h in
    omega (arith, below_after xs 0, m)

-- bits are those of the number that they write
pub word_number : (k : ℕ) (xs : List Bool) → length xs ≡ k → word k (number xs) ≡ xs
word_number k xs h =
    (same_after (word k (number xs)) xs (length_word k (number xs) ∙ sym h) 0 0
    (number_back k (number xs) (number_below xs k (omega arith)))).1

-- bits are those of the bytes that they fill
pub bits_octets : (k : ℕ) (xs : List Bool) → 8 * k ≤ length xs → bits (octets k xs) ≡ take (8 * k) xs
unfolding octets bits
bits_octets zero xs h = refl
bits_octets (suc k) xs h =
    let l : length (take 8 xs) ≡ 8 = length-take-le 8 xs (omega arith) in
    let e : 8 * suc k ≡ 8 + 8 * k = omega arith in
    rw (e, take-add 8 (8 * k) xs)
    (ap₂ (λ (u v : List Bool). u ++ v) (word_number 8 (take 8 xs) l) (bits_octets k (drop 8 xs) (omega (arith, length-drop 8 xs))))

number_on : (a : ℕ) (xs ys : List Bool) → number_after a (xs ++ ys) ≡ number_after (number_after a xs) ys
unfolding number_after
number_on a [] ys = refl
number_on a (x ∷ xs) ys = number_on (a * 2 + digit x) xs ys

-- the number that bits write with more behind them
pub number_append : (xs ys : List Bool) (k : ℕ) → length ys ≡ k → number (xs ++ ys) ≡ number xs * 2 ^ k + number ys
number_append xs ys k l =
    number_on 0 xs ys ∙ sym (ap (number_after (number xs)) (word_number k ys l)) ∙ number_word (number xs) k (number ys)
    ∙ ap (λ (n : ℕ). number xs * 2 ^ k + n) (mod-eq_of_lt (number_below ys k (omega (arith, l))))

pub octets_front : (k : ℕ) (s t : List Bool) → 8 * k ≤ length s → octets k (s ++ t) ≡ octets k s
unfolding octets
octets_front zero s t e = refl
octets_front (suc k) s t e =
    let h : 8 ≤ length s = omega arith in
    let l : 8 * k ≤ length (drop 8 s) = omega (arith, length-drop 8 s) in
    rw (take-append-le 8 s t h, drop-append-le 8 s t h)
    (ap (λ (ys : List ℕ). number (take 8 s) ∷ ys) (octets_front k (drop 8 s) t l))

pub length_octets : (k : ℕ) (xs : List Bool) → length (octets k xs) ≡ k
unfolding octets
length_octets zero xs = refl
length_octets (suc k) xs = ap suc (length_octets k (drop 8 xs))

pub octets_bytes : (k : ℕ) (xs : List Bool) (i : ℕ) → get_or (octets k xs) i 0 < 256
unfolding octets
octets_bytes zero xs i = omega arith
octets_bytes (suc k) xs zero = number_below (take 8 xs) 8 (omega (arith, length-take 8 xs))
octets_bytes (suc k) xs (suc i) = octets_bytes k (drop 8 xs) i

zeros : (k : ℕ) → word k 0 ≡ replicate k false
unfolding word
zeros zero = refl
zeros (suc k) = ap₂ (λ (x : Bool) (xs : List Bool). x ∷ xs) (ap (λ (n : ℕ). eqb (n % 2) 1) (zero-div (2 ^ k))) (zeros k)

pub number_of_word : (k v : ℕ) → number (word k v) ≡ v % 2 ^ k
number_of_word k v = number_word 0 k v ∙ omega arith

-- as many low bits are the same where the numbers that they write are
pub same_number : (k u v : ℕ) → u % 2 ^ k ≡ v % 2 ^ k → word k u ≡ word k v
same_number k u v e =
    (same_after (word k u) (word k v) (length_word k u ∙ sym (length_word k v)) 0 0
    (number_of_word k u ∙ e ∙ sym (number_of_word k v))).1

-- the low bits of a multiple of their power are 0
pub word_low : (k v : ℕ) → v % 2 ^ k ≡ 0 → word k v ≡ replicate k false
word_low k v e = same_number k v 0 (e ∙ sym (zero-mod (2 ^ k))) ∙ zeros k
