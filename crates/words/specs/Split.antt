-- The words of a line: what stands between blanks, as far as a '#'.
use Rattle.std.specs.Prelude.{◌≡◌, ℕ, ◌<◌, Bool, true, false, cond, not, ◌&&◌, List, [], ◌∷◌, ◌++◌, map, length, ◌==◌}
use Rattle.std.specs.Borrow.{Bor}

-- space, tab, carriage return, line feed
abbrev pub blank : ℕ → Bool
blank c = cond (c == 32) true (cond (c == 9) true (cond (c == 13) true (c == 10)))

-- a word so far, where it ends
abbrev pub ended : List ℕ → List (List ℕ)
ended [] = []
ended (c ∷ w) = (c ∷ w) ∷ []

abbrev pub words_after : List ℕ → List ℕ → List (List ℕ)
words_after w [] = ended w
words_after w (c ∷ cs) = cond (c == 35) (ended w) (cond (blank c) (ended w ++ words_after [] cs) (words_after (w ++ c ∷ []) cs))

abbrev pub words_of : List ℕ → List (List ℕ)
words_of line = words_after [] line

-- a byte of a word
abbrev pub plain : ℕ → Bool
plain c = not (c == 35) && not (blank c)

abbrev pub AllPlain : List ℕ → Type 0
AllPlain [] = Unit {0}
AllPlain (c ∷ w) = (plain c ≡ true) × AllPlain w

-- where a word may stop
abbrev pub Stops : List ℕ → Type 0
Stops [] = Unit {0}
Stops (c ∷ cs) = plain c ≡ false

-- a line and its words: blanks are left out, a '#' ends the line, and a word is as long as it can be
pub data Cut : List ℕ → List (List ℕ) → Type 0 where
  end : Cut [] []
  comment : {cs : List ℕ} → Cut (35 ∷ cs) []
  skip : {c : ℕ} {cs : List ℕ} {ws : List (List ℕ)} → blank c ≡ true → Cut cs ws → Cut (c ∷ cs) ws
  word : {w cs : List ℕ} {ws : List (List ℕ)} → 0 < length w → AllPlain w → Stops cs → Cut cs ws → Cut (w ++ cs) (w ∷ ws)

-- what words that are lent say
abbrev pub texts : List (Bor (List ℕ)) → List (List ℕ)
texts ws = map (λ x. x.now) ws
