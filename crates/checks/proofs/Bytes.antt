-- The bits of byte strings that are joined or cut.
-- Assumes nothing.
use Rattle.std.proofs.Common.{◌≡◌, ℕ, zero, suc, ◌+◌, ◌*◌, Bool, List, [], ◌∷◌, ◌++◌, length, take, refl, sym, ◌∙◌, ap, arith, append_assoc}
use Rattle.std.proofs.Math.Seq.{take-append-add}
use Rattle.std.proofs.lemmas.List.{take_all}
use Rattle.checks.specs.Bits.{word, bits}
use Rattle.checks.specs.Places.{length_word, length_bits}

pub bits_append : (a b : List ℕ) → bits (a ++ b) ≡ bits a ++ bits b
unfolding bits
bits_append [] b = refl
bits_append (x ∷ a) b =
    ap (λ (s : List Bool). word 8 x ++ s) (bits_append a b) ∙ sym (append_assoc (word 8 x) (bits a) (bits b))

pub bits_take : (bs : List ℕ) (k : ℕ) → take (8 * k) (bits bs) ≡ bits (take k bs)
unfolding bits
bits_take [] zero = refl
bits_take [] (suc k) = take_all (8 * suc k) (bits []) (omega (arith, length_bits []))
bits_take (b ∷ bs) zero = refl
bits_take (b ∷ bs) (suc k) =
    let q : 8 * suc k ≡ length (word 8 b) + 8 * k = omega (arith, length_word 8 b) in
    ap (λ (n : ℕ). take n (word 8 b ++ bits bs)) q ∙ take-append-add (word 8 b) (bits bs) (8 * k)
    ∙ ap (λ (s : List Bool). word 8 b ++ s) (bits_take bs k)
