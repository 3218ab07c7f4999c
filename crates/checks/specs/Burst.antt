-- The law that makes a check worth its bits.
use Rattle.std.specs.Prelude.{◌≡◌, ℕ, ◌≤◌, Bool, List, ◌++◌, length, ◌≢◌}
use Rattle.checks.specs.Bits.{word}

-- t is some bit string with its own check of w bits appended
abbrev pub EndsInOwnCheck : ℕ → (List Bool → ℕ) → List Bool → Type 0
EndsInOwnCheck w f t = (s : List Bool) × (t ≡ s ++ word w (f s))

-- At least one bit changes, d to e between a and b, all changes within w consecutive bits:
-- what ended in its own check then no longer does.
abbrev pub Burst : ℕ → (List Bool → ℕ) → Type 0
Burst w f =
    (a d e b : List Bool) → length d ≡ length e → length d ≤ w → (d ≢ e)
    → EndsInOwnCheck w f (a ++ (d ++ b)) → EndsInOwnCheck w f (a ++ (e ++ b)) → ⊥
