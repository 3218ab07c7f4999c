-- A line and its words, as they are cut.
use Rattle.std.proofs.Common.{◌≡◌, ℕ, ◌<◌, Bool, true, false, cond, not, ◌&&◌, eqb, List, [], ◌∷◌, ◌++◌, length, sym, refl, ap, ◌∙◌, subst, append_assoc, arith, lit<}
use Rattle.std.proofs.lemmas.List.{append-nil, length_push}
use Rattle.std.proofs.lemmas.Bool.{eqb-true}
use Rattle.words.specs.Split.{blank, plain, AllPlain, Stops, ended, words_after, Cut, end, comment, skip, word}
use Rattle.words.proofs.Cuts.{ended_some}

plain_push : (w : List ℕ) (c : ℕ) → AllPlain w → plain c ≡ true → AllPlain (w ++ c ∷ [])
plain_push [] c h e = (e, tt)
plain_push (x ∷ w) c h e = (h.0, plain_push w c h.1 e)

-- what is left, after no word and after a word begun
pub record Left (cs : List ℕ) : Type 0 where
  pub fresh : Cut cs (words_after [] cs)
  pub begun : (w : List ℕ) → 0 < length w → AllPlain w → Cut (w ++ cs) (words_after w cs)

closed : (w cs : List ℕ) (ws : List (List ℕ)) → 0 < length w → AllPlain w → Stops cs → Cut cs ws → Cut (w ++ cs) (ended w ++ ws)
closed w cs ws some h stop rest = subst (λ l. Cut (w ++ cs) (l ++ ws)) (sym (ended_some w some)) (word some h stop rest)

abbrev by : Bool → Bool → ℕ → List ℕ → List ℕ → List (List ℕ)
by hash white c cs w = cond hash (ended w) (cond white (ended w ++ words_after [] cs) (words_after (w ++ c ∷ []) cs))

left_by : (hash white : Bool) (c : ℕ) (cs : List ℕ) → eqb c 35 ≡ hash → blank c ≡ white → Left cs
    → (Cut (c ∷ cs) (by hash white c cs [])) × ((w : List ℕ) → 0 < length w → AllPlain w → Cut (w ++ c ∷ cs) (by hash white c cs w))
left_by true white c cs e b rest =
    let stop : Stops (c ∷ cs) = ap (λ v. not v && not (blank c)) e in
    let here : Cut (c ∷ cs) [] = subst (λ x. Cut (x ∷ cs) []) (sym (eqb-true c 35 e)) comment in
    (here, λ w some h. subst (λ l. Cut (w ++ c ∷ cs) l) (append-nil (ended w)) (closed w (c ∷ cs) [] some h stop here))
left_by false true c cs e b rest =
    let stop : Stops (c ∷ cs) = ap (λ v. not v && not (blank c)) e ∙ ap not b in
    (skip b rest.fresh, λ w some h. closed w (c ∷ cs) (words_after [] cs) some h stop (skip b rest.fresh))
left_by false false c cs e b rest =
    let here : plain c ≡ true = ap (λ v. not v && not (blank c)) e ∙ ap not b in (
      rest.begun (c ∷ []) (lit< tt) (here, tt),
      λ w some h.
          subst (λ l. Cut l (words_after (w ++ c ∷ []) cs)) (append_assoc w (c ∷ []) cs)
          (rest.begun (w ++ c ∷ []) (omega (arith, length_push w c)) (plain_push w c h here)),
    )

left : (cs : List ℕ) → Left cs
left [] = record {
  fresh = end;
  begun = λ w some h. subst (λ l. Cut (w ++ []) l) (append-nil (ended w)) (closed w [] [] some h tt end);
}
left (c ∷ cs) =
    let both = left_by (eqb c 35) (blank c) c cs refl refl (left cs) in
    record { fresh = both.0; begun = both.1 }

pub cut : (line : List ℕ) (ws : List (List ℕ)) → ws ≡ words_after [] line → Cut line ws
cut line ws e = subst (Cut line) (sym e) (left line).fresh
