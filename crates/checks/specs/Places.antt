-- The bits of a byte string by their place.
-- Assumes nothing.
use Rattle.std.specs.Prelude.{◌≡◌, ℕ, zero, suc, ◌+◌, ◌-◌, ◌*◌, ◌/◌, ◌%◌, ◌^◌, ◌<◌, ◌≤◌, Bool, false, List, [], ◌∷◌, ◌++◌, length, get_or, take, nat_eq, slice_index, slice_index_or, refl}
use Rattle.std.proofs.Common.{sym, ◌∙◌, ap, inl, inr, arith, length-append}
use Rattle.std.proofs.Math.Nat.{zero-div}
use Rattle.std.proofs.lemmas.Bool.{cases_lt}
use Rattle.std.proofs.lemmas.List.{append_assoc, get_or_append_left, take_more, take_all, take-append-le}
use Rattle.std.proofs.Math.Seq.{take-append-add}
use Rattle.checks.specs.Crc.{step, run}
use Rattle.checks.specs.Bits.{bit, word, bits}

pub bit_of_word : (k b i : ℕ) → i < k → slice_index_or (word k b) i false ≡ bit b (k - 1 - i)
unfolding word
bit_of_word zero b i h = absurd (omega (arith, h))
bit_of_word (suc k) b zero h = let q : k ≡ suc k - 1 - 0 = omega arith in ap (λ (n : ℕ). bit b n) q
bit_of_word (suc k) b (suc i) h =
    let q : k - 1 - i ≡ suc k - 1 - suc i = omega arith in
    let l : i < k = omega (arith, h) in
    bit_of_word k b i l ∙ ap (λ (n : ℕ). bit b n) q

pub length_word : (k b : ℕ) → length (word k b) ≡ k
unfolding word
length_word zero b = refl
length_word (suc k) b = ap suc (length_word k b)

-- the same where a string follows
word_at : (k b : ℕ) (rest : List Bool) (i : ℕ) → i < k → slice_index_or (word k b ++ rest) i false ≡ bit b (k - suc i)
word_at k b rest i h =
    let q : k - 1 - i ≡ k - suc i = omega arith in
    get_or_append_left (word k b) rest false i (omega (arith, h, length_word k b)) ∙ bit_of_word k b i h ∙ ap (λ (n : ℕ). bit b n) q

word_past : (k b : ℕ) (rest : List Bool) (j : ℕ) → slice_index_or (word k b ++ rest) (k + j) false ≡ slice_index_or rest j false
unfolding word
word_past zero b rest j = let q : 0 + j ≡ j = omega arith in ap (λ (n : ℕ). get_or rest n false) q
word_past (suc k) b rest j =
    let q : suc k + j ≡ suc (k + j) = omega arith in
    ap (λ (n : ℕ). get_or (word (suc k) b ++ rest) n false) q ∙ word_past k b rest j

pub length_bits : (bs : List ℕ) → length (bits bs) ≡ 8 * length bs
unfolding bits
length_bits [] = refl
length_bits (b ∷ bs) =
    let n : length (bits bs) ≡ 8 * length bs = length_bits bs in
    length-append (word 8 b) (bits bs) ∙ omega (arith, n, length_word 8 b)

-- also past the end, where both sides read a 0
pub bits_at : (bs : List ℕ) (i : ℕ) → slice_index_or (bits bs) i false ≡ bit (slice_index bs (i / 8)) (7 - i % 8)
unfolding bits
bits_at [] i = sym (ap (λ (n : ℕ). nat_eq (n % 2) 1) (zero-div (2 ^ (7 - i % 8))))
bits_at (b ∷ bs) i =
    elim (cases_lt i 8) [
      | inl l ↦
          let q : i / 8 ≡ 0 = omega arith in
          let m : 8 - suc i ≡ 7 - i % 8 = omega arith in
          word_at 8 b (bits bs) i l ∙ ap (λ (n : ℕ). bit b n) m
          ∙ ap (λ (n : ℕ). bit (slice_index (b ∷ bs) n) (7 - i % 8)) (sym q)
      | inr l ↦
          let j : ℕ = i - 8 in
          let p : i ≡ 8 + j = omega arith in
          let q : suc (j / 8) ≡ i / 8 = omega arith in
          let m : j % 8 ≡ i % 8 = omega arith in
          ap (λ (n : ℕ). get_or (word 8 b ++ bits bs) n false) p ∙ word_past 8 b (bits bs) j ∙ bits_at bs j
          ∙ ap (λ (n : ℕ). bit (slice_index bs (j / 8)) (7 - n)) m
          ∙ ap (λ (n : ℕ). bit (slice_index (b ∷ bs) n) (7 - i % 8)) q
    ]

-- one more bit of the string is one more step
pub run_append : (w p r : ℕ) (a b : List Bool) → run w p r (a ++ b) ≡ run w p (run w p r a) b
run_append w p r [] b = refl
run_append w p r (x ∷ a) b = run_append w p (step w p r x) a b

pub run_more :
    (w p r : ℕ) (s : List Bool) (i : ℕ) → i < length s
    → run w p r (take (i + 1) s) ≡ step w p (run w p r (take i s)) (slice_index_or s i false)
run_more w p r s i h = ap (run w p r) (take_more s i false h) ∙ run_append w p r (take i s) (slice_index_or s i false ∷ [])

-- the same of a byte string's bits
pub run_more_of_bytes :
    (w p r : ℕ) (bs : List ℕ) (i : ℕ) → i < 8 * length bs
    → run w p r (take (i + 1) (bits bs)) ≡ step w p (run w p r (take i (bits bs))) (slice_index_or (bits bs) i false)
run_more_of_bytes w p r bs i h = run_more w p r (bits bs) i (omega (arith, h, length_bits bs))

-- the first bits, up to a place within byte i
pub bits_more :
    (bs : List ℕ) (i count : ℕ) → i < length bs → count ≤ 8
    → take (8 * i + count) (bits bs) ≡ take (8 * i) (bits bs) ++ take count (word 8 (slice_index bs i))
unfolding bits
bits_more [] i count h le = absurd (omega (arith, h))
bits_more (b ∷ bs) zero count h le =
    let q : 8 * 0 + count ≡ count = omega arith in
    ap (λ (n : ℕ). take n (word 8 b ++ bits bs)) q ∙ take-append-le count (word 8 b) (bits bs) (omega (arith, length_word 8 b))
bits_more (b ∷ bs) (suc i) count h le =
    let w = length_word 8 b in
    let q : 8 * suc i + count ≡ length (word 8 b) + (8 * i + count) = omega (arith, w) in
    let p : 8 * suc i ≡ length (word 8 b) + 8 * i = omega (arith, w) in
    ap (λ (n : ℕ). take n (word 8 b ++ bits bs)) q ∙ take-append-add (word 8 b) (bits bs) (8 * i + count)
    ∙ ap (λ (s : List Bool). word 8 b ++ s) (bits_more bs i count (omega (arith, h)) le)
    ∙ sym (append_assoc (word 8 b) (take (8 * i) (bits bs)) (take count (word 8 (slice_index bs i))))
    ∙ ap (λ (s : List Bool). s ++ take count (word 8 (slice_index bs i)))
    (sym (ap (λ (n : ℕ). take n (word 8 b ++ bits bs)) p ∙ take-append-add (word 8 b) (bits bs) (8 * i)))

-- a byte's first bits are as many more steps
pub run_byte :
    (w p r : ℕ) (bs : List ℕ) (i count : ℕ) → i < length bs → count ≤ 8
    → run w p r (take (8 * i + count) (bits bs)) ≡ run w p (run w p r (take (8 * i) (bits bs))) (take count (word 8 (slice_index bs i)))
run_byte w p r bs i count h le =
    ap (run w p r) (bits_more bs i count h le) ∙ run_append w p r (take (8 * i) (bits bs)) (take count (word 8 (slice_index bs i)))

pub take_past : (bs : List ℕ) (i n : ℕ) → length bs ≤ i / 8 → i ≤ n → take i (bits bs) ≡ take n (bits bs)
take_past bs i n h l =
    take_all i (bits bs) (omega (arith, length_bits bs)) ∙ sym (take_all n (bits bs) (omega (arith, length_bits bs)))
