-- A script as a whole: its lines, what they print and what the console is after them.
use Rattle.std.specs.Prelude.{◌≡◌, ℕ, List, [], ◌∷◌, ◌++◌, ◌==◌, if◌then◌else◌, Option, IfSome}
use Rattle.std.specs.Io.KnownBytes.{Appends}
use Rattle.words.specs.Split.{words_of}
use Rattle.script.specs.declared.feeding.Halt.{Halt}
use Rattle.script.specs.declared.feeding.Halt.TheVariants.{Input, Output, Memory}
use Rattle.script.specs.declared.running.Console.{Console}
use Rattle.script.specs.Console.{SameTally, printed, after}

-- a byte before the first line, or as a line of its own where there is none
abbrev pub onto_first : ℕ → List (List ℕ) → List (List ℕ)
onto_first x [] = (x ∷ []) ∷ []
onto_first x (l ∷ ls) = (x ∷ l) ∷ ls

-- a newline ends its line; a last line may have none, and behind the last newline there is no line
abbrev pub lines_of : List ℕ → List (List ℕ)
lines_of [] = []
lines_of (x ∷ xs) = if x == 10 then (x ∷ []) ∷ lines_of xs else onto_first x (lines_of xs)

-- the console after lines, one after the other
abbrev pub after_lines : Console → List (List ℕ) → Console
after_lines c [] = c
after_lines c (l ∷ ls) = after_lines (after c (words_of l)) ls

-- what they print
abbrev pub printed_lines : Console → List (List ℕ) → List ℕ
printed_lines c [] = []
printed_lines c (l ∷ ls) = printed c (words_of l) ++ printed_lines (after c (words_of l)) ls

-- these are the lines of the bytes, where those are known; these are the first of them
abbrev pub AreLines : Option (List ℕ) → List (List ℕ) → Type 0
AreLines known ls = IfSome known (λ xs. ls ≡ lines_of xs)

abbrev pub AreFirstLines : Option (List ℕ) → List (List ℕ) → Type 0
AreFirstLines known ls = IfSome known (λ xs. (more : List (List ℕ)) × (lines_of xs ≡ ls ++ more))

-- the lines were taken, each once and in order, and the known bytes of the output grew by what they print
abbrev pub Takes : List (List ℕ) → Console → Console → Option (List ℕ) → Option (List ℕ) → Type 0
Takes ls old new before later = (new ≡ after_lines old ls) × Appends before later (printed_lines old ls)

-- the same, and then one more line was taken, and a front of what it prints was written
abbrev pub TakesAndCuts : List (List ℕ) → List ℕ → Console → Console → Option (List ℕ) → Option (List ℕ) → Type 0
TakesAndCuts ls line old new before later = (new ≡ after_lines old (ls ++ line ∷ []))
    × ((front : List ℕ) × (rest : List ℕ) × (printed (after_lines old ls) (words_of line) ≡ front ++ rest) × Appends before later (printed_lines old ls ++ front))

-- What stands where a run ends early. Where the input fails, or has more lines than can be counted, the first lines were taken. Where the
-- output fails, so was the line whose result could not be written. Where memory runs out,
-- the first lines were taken, and no other is counted.
abbrev pub Stops : Halt → Option (List ℕ) → Console → Console → Option (List ℕ) → Option (List ℕ) → Type 0
Stops (Input e) known old new before later = (ls : List (List ℕ)) × AreFirstLines known ls × Takes ls old new before later
Stops (Output e) known old new before later = (ls : List (List ℕ)) × (line : List ℕ) × AreFirstLines known (ls ++ line ∷ []) × TakesAndCuts ls line old new before later
Stops Memory known old new before later = (ls : List (List ℕ)) × AreFirstLines known ls
    × Appends before later (printed_lines old ls) × SameTally new (after_lines old ls)
