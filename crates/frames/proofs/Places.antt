-- Places of bits in bytes.
use Rattle.std.proofs.Common.{◌≡◌, ℕ, zero, suc, ◌+◌, ◌-◌, ◌*◌, ◌<◌, Bool, List, [], ◌∷◌, ◌++◌, length, get_or, set, sym, refl, ap, ◌∙◌, arith}
use lib.Seq.{paste}
use Rattle.std.proofs.lemmas.List.Edits.{paste-paste}
use Rattle.std.proofs.lemmas.List.{append_assoc, append-nil, set-append_left, set-append_right}
use Rattle.checks.specs.Bits.{word, bits}
use Rattle.checks.specs.Places.{length_word}

-- a byte with one bit changed changes that bit
pub set_bits : (xs : List ℕ) (i j k y : ℕ) (b : Bool) → i < length xs → j < 8 → k ≡ 8 * i + j
    → word 8 y ≡ set (word 8 (get_or xs i 0)) j b → bits (set xs i y) ≡ set (bits xs) k b
unfolding bits
set_bits [] i j k y b h l e f = absurd (omega arith)
set_bits (x ∷ xs) zero j k y b h l e f =
    let s : k ≡ j = omega arith in
    rw s (ap (λ (u : List Bool). u ++ bits xs) f ∙ sym (set-append_left (word 8 x) (bits xs) j b (omega (arith, length_word 8 x))))
set_bits (x ∷ xs) (suc i) j k y b h l e f =
    ap (λ (u : List Bool). word 8 x ++ u) (set_bits xs i j (k - 8) y b (omega arith) l (omega arith) f)
    ∙ sym (set-append_right (word 8 x) (bits xs) 8 k b (length_word 8 x) (omega arith))

pub bits_append : (xs ys : List ℕ) → bits (xs ++ ys) ≡ bits xs ++ bits ys
unfolding bits
bits_append [] ys = refl
bits_append (x ∷ xs) ys = ap (λ (l : List Bool). word 8 x ++ l) (bits_append xs ys) ∙ sym (append_assoc (word 8 x) (bits xs) (bits ys))

pub bits_one : (x : ℕ) → bits (x ∷ []) ≡ word 8 x
unfolding bits
bits_one x = append-nil (word 8 x)

-- a write right after what was written from the start on
pub then_put : (d s t now next : List Bool) (n m : ℕ) → n ≡ length s → m ≡ length t
    → now ≡ paste d 0 s n → next ≡ paste now n t m → next ≡ paste d 0 (s ++ t) (n + m)
then_put d s t now next n m e f g h =
    let z : 0 + n ≡ n = omega arith in
    let p = paste-paste d 0 s t n m e f (omega arith) in
    cc
