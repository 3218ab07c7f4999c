-- A table of the 256 bytes' texts.
use Rattle.std.proofs.Common.{◌≡◌, ℕ, zero, suc, ◌+◌, ◌<◌, true, List, [], ◌∷◌, length, slice_index_or, Bor, sym, ap, ◌∙◌, arith}
use Rattle.std.proofs.lemmas.Bool.{and_parts}
use Rattle.std.proofs.lemmas.Slice.Eq.{bytes_eq-Decides}
use Rattle.words.specs.Numbers.{byte_shown, all_behind_blanks}

pub behind_blank_at : (xs : List (Bor (List ℕ))) (b i : ℕ) (d : Bor (List ℕ)) → all_behind_blanks xs b ≡ true → i < length xs → (slice_index_or xs i d).now ≡ 32 ∷ byte_shown (b + i)
behind_blank_at [] b i d h lt = absurd (omega (arith, lt))
behind_blank_at (x ∷ xs) b zero d h lt =
    let e : b + 0 ≡ b = omega arith in
    (bytes_eq-Decides x.now (32 ∷ byte_shown b)).0 (and_parts _ _ h).0 ∙ ap (λ n. 32 ∷ byte_shown n) (sym e)
behind_blank_at (x ∷ xs) b (suc i) d h lt =
    let e : b + 1 + i ≡ b + suc i = omega arith in
    behind_blank_at xs (b + 1) i d (and_parts _ _ h).1 (omega (arith, lt)) ∙ ap (λ n. 32 ∷ byte_shown n) e
