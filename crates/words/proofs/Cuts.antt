-- The words of a line, from its front: blanks are passed by, and a word goes as far as its bytes are plain.
use Rattle.std.proofs.Common.{◌≡◌, ℕ, suc, ◌+◌, ◌-◌, ◌<◌, ◌≤◌, Bool, true, false, cond, not, ◌&&◌, eqb, ltb, List, [], ◌∷◌, ◌++◌, length, get_or, take, drop, drop-cons, Option, Some, None, refl, sym, ap, ◌∙◌, append_assoc, arith, eq-eqb, ne_eqb}
use Rattle.std.specs.List.{position, position_or_len}
use Rattle.std.specs.Option.{unwrap_or}
use Rattle.std.proofs.lemmas.List.{append-nil, drop_all, take_all, take_rest}
use Rattle.std.proofs.lemmas.List.Quantifiers.{position-Some}
use Rattle.std.proofs.lemmas.List.Sums.{prefix_len-le-length}
use Rattle.std.proofs.lemmas.Bool.{ltb-false, eqb-true}
use Rattle.words.specs.Split.{blank, plain, ended, words_after, words_of}

abbrev pub unblank : ℕ → Bool
unblank c = not (blank c)

abbrev pub unplain : ℕ → Bool
unplain c = not (plain c)

-- where the blanks in front end, and where plain bytes do
abbrev start : List ℕ → ℕ
start = position_or_len unblank

abbrev end : List ℕ → ℕ
end = position_or_len unplain

pub ended_some : (w : List ℕ) → 0 < length w → ended w ≡ w ∷ []
ended_some [] h = absurd (omega arith)
ended_some (c ∷ w) h = refl

far : (b : Bool) (n m : ℕ) → ltb n m ≡ b → n ≤ m → unwrap_or (cond b (Some n) None) m ≡ n
far true n m e h = refl
far false n m e h = omega (arith, ltb-false n m e)

-- what a search for a byte finds
pub found : (test : ℕ → Bool) (line : List ℕ) (r : Option ℕ) → r ≡ cond (ltb (position_or_len test line) (length line)) (Some (position_or_len test line)) None
    → unwrap_or r (length line) ≡ position_or_len test line
found test line r e =
    let n = position_or_len test line in
    ap (λ o. unwrap_or o (length line)) e ∙ far (ltb n (length line)) n (length line) refl (prefix_len-le-length (λ c. not (test c)) line)

module _ (c : ℕ) (cs : List ℕ) where
  abbrev by : Bool → Bool → List ℕ → List (List ℕ)
  by hash white w = cond hash (ended w) (cond white (ended w ++ words_of cs) (words_after (w ++ c ∷ []) cs))

  hash_ends : eqb c 35 ≡ true → words_of (c ∷ cs) ≡ []
  hash_ends h = ap (λ v. by v (blank c) []) h

  blank_goes : (h : Bool) → eqb c 35 ≡ h → blank c ≡ true → words_of (c ∷ cs) ≡ words_of cs
  blank_goes true h b =
      let clash : true ≡ false = sym b ∙ ap blank (eqb-true c 35 h) in cc
  blank_goes false h b = ap (λ v. by v (blank c) []) h ∙ ap (λ v. by false v []) b

  more : (n : ℕ) → drop (1 + n) (c ∷ cs) ≡ drop n cs
  more n =
      let next : 1 + n ≡ suc n = omega arith in ap (λ k. drop k (c ∷ cs)) next

  abbrev starts : Bool → ℕ
  starts white = cond (not (not white)) (1 + start cs) 0

  abbrev ends : Bool → Bool → ℕ
  ends hash white = cond (not (not (not hash && not white))) (1 + end cs) 0

  past_blank : blank c ≡ true → drop (start (c ∷ cs)) (c ∷ cs) ≡ drop (start cs) cs
  past_blank b = ap (λ v. drop (starts v) (c ∷ cs)) b ∙ more (start cs)

  at_word : blank c ≡ false → drop (start (c ∷ cs)) (c ∷ cs) ≡ c ∷ cs
  at_word b = ap (λ v. drop (starts v) (c ∷ cs)) b

  behind_by : (b : Bool) → blank c ≡ b → words_of (drop (start cs) cs) ≡ words_of cs → words_of (drop (start (c ∷ cs)) (c ∷ cs)) ≡ words_of (c ∷ cs)
  behind_by true b rest = ap words_of (past_blank b) ∙ rest ∙ sym (blank_goes (eqb c 35) refl b)
  behind_by false b rest = ap words_of (at_word b)

  abbrev cut_at : List ℕ → ℕ → List (List ℕ)
  cut_at w n = ended (w ++ take n (c ∷ cs)) ++ words_of (drop n (c ∷ cs))

  word_by : (h b : Bool) (w : List ℕ) → eqb c 35 ≡ h → blank c ≡ b
      → words_after (w ++ c ∷ []) cs ≡ ended ((w ++ c ∷ []) ++ take (end cs) cs) ++ words_of (drop (end cs) cs)
      → by h b w ≡ cut_at w (ends h b)
  word_by true b w hash white rest = sym (ap (λ l. ended (w ++ []) ++ l) (hash_ends hash) ∙ append-nil (ended (w ++ [])) ∙ ap ended (append-nil w))
  word_by false true w hash white rest = sym (ap (λ l. ended (w ++ []) ++ l) (blank_goes false hash white) ∙ ap (λ l. ended l ++ words_of cs) (append-nil w))
  word_by false false w hash white rest =
      let next : 1 + end cs ≡ suc (end cs) = omega arith in
      rest ∙ ap (λ l. ended l ++ words_of (drop (end cs) cs)) (append_assoc w (c ∷ []) (take (end cs) cs)) ∙ sym (ap (cut_at w) next)

  word_step : (h b : Bool) (w : List ℕ) → eqb c 35 ≡ h → blank c ≡ b
      → words_after (w ++ c ∷ []) cs ≡ ended ((w ++ c ∷ []) ++ take (end cs) cs) ++ words_of (drop (end cs) cs)
      → words_after w (c ∷ cs) ≡ cut_at w (end (c ∷ cs))
  word_step h b w hash white rest =
      ap (λ v. by v (blank c) w) hash ∙ ap (λ v. by h v w) white ∙ word_by h b w hash white rest
      ∙ sym (ap (λ v. cut_at w (ends v (blank c))) hash ∙ ap (λ v. cut_at w (ends h v)) white)

-- blanks in front change nothing
behind_blanks : (line : List ℕ) → words_of (drop (start line) line) ≡ words_of line
behind_blanks [] = refl
behind_blanks (c ∷ cs) = behind_by c cs (blank c) refl (behind_blanks cs)

blank_by : (b : Bool) → not (not b) ≡ true → b ≡ true
blank_by true e = refl
blank_by false e = e

-- a word begun, to its end
word_ends : (line w : List ℕ) → words_after w line ≡ ended (w ++ take (end line) line) ++ words_of (drop (end line) line)
word_ends [] w = sym (append-nil (ended (w ++ [])) ∙ ap ended (append-nil w))
word_ends (c ∷ cs) w = word_step c cs (eqb c 35) (blank c) w refl refl (word_ends cs (w ++ c ∷ []))

-- the same of the slice that is taken there
pub passed : (line : List ℕ) (n : ℕ) → n ≡ start line → words_of (take (length line - n) (drop n line)) ≡ words_of line
passed line n e = ap words_of (take_rest line n ∙ ap (λ k. drop k line) e) ∙ behind_blanks line

-- a search for the end of what is plain, and what it finds
abbrev pub Ends : List ℕ → Option ℕ → Type 0
Ends line r = r ≡ cond (ltb (end line) (length line)) (Some (end line)) None

module _ (line : List ℕ) where
  abbrev search_ended : Option ℕ
  search_ended = position unplain line

  pub all_plain : search_ended ≡ None → words_of line ≡ ended line ++ words_of []
  all_plain none =
      let far : length line ≡ end line = ap (λ o. unwrap_or o (length line)) (sym none) ∙ found unplain line search_ended refl in
      word_ends line [] ∙ ap (λ n. ended (take n line) ++ words_of (drop n line)) (sym far)
      ∙ ap (λ l. ended l ++ words_of (drop (length line) line)) (take_all (length line) line (omega arith))
      ∙ ap (λ l. ended line ++ words_of l) (drop_all (length line) line (omega arith))

  module _ (n : ℕ) (some : search_ended ≡ Some n) where
    cut_here : words_of line ≡ ended (take n line) ++ words_of (drop n line)
    cut_here =
        let here : n ≡ end line = ap (λ o. unwrap_or o (length line)) (sym some) ∙ found unplain line search_ended refl in
        word_ends line [] ∙ ap (λ k. ended (take k line) ++ words_of (drop k line)) (sym here)

    abbrev c : ℕ
    c = get_or line n 0

    opened : drop n line ≡ c ∷ drop (suc n) line
    opened = let at = position-Some unplain line n 0 some in drop-cons line n 0 at.0

    pub at_hash : c ≡ 35 → words_of line ≡ ended (take n line) ++ words_of []
    at_hash hash = cut_here ∙ ap (λ l. ended (take n line) ++ l) (ap words_of opened ∙ hash_ends c (drop (suc n) line) (eq-eqb c 35 hash))

    pub at_blank : (c ≡ 35 → ⊥) → words_of line ≡ ended (take n line) ++ words_of (take (length line - (n + 1)) (drop (n + 1) line))
    at_blank other =
        let hash = ne_eqb c 35 other in
        let at = position-Some unplain line n 0 some in
        let white : blank c ≡ true = blank_by (blank c) (sym (ap (λ h. not (not h && not (blank c))) hash) ∙ at.1) in
        let next : suc n ≡ n + 1 = omega arith in
        cut_here ∙ ap (λ l. ended (take n line) ++ l)
        (ap words_of opened ∙ blank_goes c (drop (suc n) line) false hash white ∙ ap (λ k. words_of (drop k line)) next ∙ ap words_of (sym (take_rest line (n + 1))))
