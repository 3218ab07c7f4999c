-- One turn of the reading of bytes that are written together.
use Rattle.std.proofs.Common.{◌≡◌, ℕ, List, [], ◌∷◌, ◌++◌, length, cond, Some, None, Option, sym, ap, ◌∙◌, arith, ne_eqb}
use Rattle.words.specs.Numbers.{pair_of, byte_of, together_after}

abbrev turn : List ℕ → List ℕ → Option ℕ → Option (List ℕ)
turn acc cs o = elim o [ Some b ↦ together_after (acc ++ b ∷ []) cs | None ↦ None ]

pub goes_on : (acc left digits more : List ℕ) (b : ℕ) (acc' : List ℕ) → left ≡ digits ++ more → Some b ≡ byte_of digits → acc' ≡ acc ++ b ∷ [] → together_after acc left ≡ together_after acc' more
goes_on acc left [] more b acc' cut e new = absurd cc
goes_on acc left (a ∷ []) more b acc' cut e new = absurd cc
goes_on acc left (a ∷ c ∷ []) more b acc' cut e new = ap (together_after acc) cut ∙ ap (turn acc more) (sym e) ∙ ap (λ l. together_after l more) (sym new)
goes_on acc left (a ∷ c ∷ d ∷ ds) more b acc' cut e new =
    let long = ne_eqb (length (a ∷ c ∷ d ∷ ds)) 2 (λ h. omega (arith, h)) in
    let none : byte_of (a ∷ c ∷ d ∷ ds) ≡ None = ap (λ t. cond t (pair_of a c) None) long in
    absurd cc
