-- Lines that are taken one by one are the lines of the whole, and so are the console and the text after them.
use Rattle.std.proofs.Common.{◌≡◌, ℕ, ◌<◌, Bool, true, false, cond, eqb, List, [], ◌∷◌, ◌++◌, length, Option, None, Some, IfSome, refl, sym, ap, ◌∙◌, subst, arith, append_assoc, append-nil}
use Rattle.std.specs.Io.BufRead.{take_through, drop_through, DropsThrough}
use Rattle.std.specs.Io.KnownBytes.{Appends, IsAtEnd}
use Rattle.std.proofs.KnownBytes.{Appends-nil, Appends-trans}
use Rattle.words.specs.Split.{words_of}
use Rattle.script.specs.declared.running.Console.{Console}
use Rattle.script.specs.Console.{SameTally, printed, after}
use Rattle.script.specs.Feeding.{onto_first, lines_of, after_lines, printed_lines, AreLines, AreFirstLines, Takes, TakesAndCuts}

-- ---- lines

-- the bytes are these lines, and then those of what is left
abbrev pub Leaves : Option (List ℕ) → List (List ℕ) → Option (List ℕ) → Type 0
Leaves None ls left = Unit {0}
Leaves (Some xs) ls None = ⊥
Leaves (Some xs) ls (Some ys) = lines_of xs ≡ ls ++ lines_of ys

pub Leaves-none : (a : Option (List ℕ)) → Leaves a [] a
Leaves-none None = tt
Leaves-none (Some xs) = refl

pub AreLines-of_end : (a b : Option (List ℕ)) (ls : List (List ℕ)) → Leaves a ls b → IsAtEnd b → AreLines a ls
AreLines-of_end None b ls h end = tt
AreLines-of_end (Some xs) None ls h end = absurd h
AreLines-of_end (Some xs) (Some ys) ls h end = sym (h ∙ ap (λ zs. ls ++ lines_of zs) end ∙ append-nil ls)

pub AreFirstLines-of_left : (a b : Option (List ℕ)) (ls : List (List ℕ)) → Leaves a ls b → AreFirstLines a ls
AreFirstLines-of_left None b ls h = tt
AreFirstLines-of_left (Some xs) None ls h = absurd h
AreFirstLines-of_left (Some xs) (Some ys) ls h = (lines_of ys, h)

first_by_test : (b : Bool) (x : ℕ) (xs : List ℕ) → onto_first x (lines_of xs) ≡ (x ∷ take_through 10 xs) ∷ lines_of (drop_through 10 xs)
    → cond b ((x ∷ []) ∷ lines_of xs) (onto_first x (lines_of xs)) ≡ cond b (x ∷ []) (x ∷ take_through 10 xs) ∷ lines_of (cond b xs (drop_through 10 xs))
first_by_test true x xs h = refl
first_by_test false x xs h = h

-- the first line goes through the first newline
lines_of-first : (x : ℕ) (xs : List ℕ) → lines_of (x ∷ xs) ≡ take_through 10 (x ∷ xs) ∷ lines_of (drop_through 10 (x ∷ xs))
lines_of-first x [] = first_by_test (eqb x 10) x [] refl
lines_of-first x (y ∷ ys) = first_by_test (eqb x 10) x (y ∷ ys) (ap (onto_first x) (lines_of-first y ys))

-- a line that was read, and is not empty, is the next one
pub Leaves-more : (a b c : Option (List ℕ)) (ls : List (List ℕ)) (old line : List ℕ) → Leaves a ls b → old ≡ [] → 0 < length line
    → IfSome b (λ ys. line ≡ old ++ take_through 10 ys) → DropsThrough b c 10 → Leaves a (ls ++ line ∷ []) c
Leaves-more None b c ls old line h none some read rest = tt
Leaves-more (Some xs) None c ls old line h none some read rest = absurd h
Leaves-more (Some xs) (Some []) c ls old line h none some read rest = absurd (omega (arith, ap length (read ∙ ap (λ l. l ++ []) none)))
Leaves-more (Some xs) (Some (y ∷ ys)) c ls old line h none some read rest =
    let left = drop_through 10 (y ∷ ys) in
    let is_line : line ≡ take_through 10 (y ∷ ys) = read ∙ ap (λ l. l ++ take_through 10 (y ∷ ys)) none in
    let split : lines_of xs ≡ (ls ++ line ∷ []) ++ lines_of left =
    h ∙ ap (λ ks. ls ++ ks) (lines_of-first y ys ∙ ap (λ l. l ∷ lines_of left) (sym is_line)) ∙ sym (append_assoc ls (line ∷ []) (lines_of left)) in
    subst (Leaves (Some xs) (ls ++ line ∷ [])) (sym rest) split

-- ---- the console and the output

after_lines-append : (c : Console) (ls : List (List ℕ)) (l : List ℕ) → after_lines c (ls ++ l ∷ []) ≡ after (after_lines c ls) (words_of l)
after_lines-append c [] l = refl
after_lines-append c (k ∷ ls) l = after_lines-append (after c (words_of k)) ls l

printed_lines-append : (c : Console) (ls : List (List ℕ)) (l : List ℕ) → printed_lines c (ls ++ l ∷ []) ≡ printed_lines c ls ++ printed (after_lines c ls) (words_of l)
printed_lines-append c [] l = append-nil (printed c (words_of l))
printed_lines-append c (k ∷ ls) l =
    ap (λ t. printed c (words_of k) ++ t) (printed_lines-append (after c (words_of k)) ls l)
    ∙ sym (append_assoc (printed c (words_of k)) _ _)

pub Takes-none : (c : Console) (a : Option (List ℕ)) → Takes [] c c a a
Takes-none c a = (refl, Appends-nil a)

pub Takes-more : (ls : List (List ℕ)) (line text : List ℕ) (old mid new : Console) (a b c : Option (List ℕ)) → Takes ls old mid a b
    → new ≡ after mid (words_of line) → text ≡ printed mid (words_of line) → Appends b c text → Takes (ls ++ line ∷ []) old new a c
Takes-more ls line text old mid new a b c took step says grown =
    let at = λ (k : Console). after k (words_of line) in
    let says' : text ≡ printed (after_lines old ls) (words_of line) = says ∙ ap (λ k. printed k (words_of line)) took.0 in (
      step ∙ ap at took.0 ∙ sym (after_lines-append old ls line),
      subst (Appends a c) (ap (λ t. printed_lines old ls ++ t) says' ∙ sym (printed_lines-append old ls line)) (Appends-trans a b c _ _ took.1 grown),
    )

pub Cuts-at : (ls : List (List ℕ)) (line text front rest : List ℕ) (old mid new : Console) (a b c : Option (List ℕ)) → Takes ls old mid a b
    → new ≡ after mid (words_of line) → text ≡ printed mid (words_of line) → text ≡ front ++ rest → Appends b c front → TakesAndCuts ls line old new a c
Cuts-at ls line text front rest old mid new a b c took step says split grown = (
  step ∙ ap (λ (k : Console). after k (words_of line)) took.0 ∙ sym (after_lines-append old ls line),
  (front, rest, ap (λ (k : Console). printed k (words_of line)) (sym took.0) ∙ sym says ∙ split, Appends-trans a b c _ _ took.1 grown),
)

pub SameTally-at : (new mid at : Console) → SameTally new mid → mid ≡ at → SameTally new at
SameTally-at new mid at same is = subst (SameTally new) is same
