-- Runs of calls one after the other.
use Rattle.std.proofs.Common.{◌≡◌, ℕ, ◌+◌, ◌<◌, Bool, List, [], ◌∷◌, ◌++◌, map, length, get_or, set, take, Some, Option, sym, refl, ap, ap₂, ◌∙◌, add-one}
use Rattle.std.proofs.Math.Seq.{take-suc, take-suc-set, map-set_same}
use Rattle.std.proofs.lemmas.List.{map-append, map-set, length-map, get_or-map}
use Rattle.std.specs.Option.{option_map}
use Rattle.cell.specs.declared.parts.Inside.{Inside}
use Rattle.law.specs.Lists.{All}
use Rattle.law.specs.Runs.{Call, Outcome as LawOutcome, outcome, after, led, outcomes}
use Rattle.law.specs.Law.{OfBytes, EveryRunIsLawful}
use Rattle.delivery.specs.declared.entry.Entry.{Entry}
use Rattle.delivery.specs.Entries.{call_of, outcome_of, calls_of, written}
use Rattle.delivery.specs.Replay.{CarriesTheLaw}

pub all_of_both : {X : Type 0} (P : X → Type 0) (xs ys : List X) → All P xs → All P ys → All P (xs ++ ys)
all_of_both P [] ys a b = b
all_of_both P (x ∷ xs) ys a b = (a.0, all_of_both P xs ys a.1 b)

module _ (w : ℕ) (f : List Bool → ℕ) where
  pub led_on : (c : Inside) (xs ys : List Call) → led w f c (xs ++ ys) ≡ led w f (led w f c xs) ys
  unfolding led
  led_on c [] ys = refl
  led_on c (x ∷ xs) ys = led_on (after w f c x) xs ys

  pub outcomes_on : (c : Inside) (xs ys : List Call) → outcomes w f c (xs ++ ys) ≡ outcomes w f c xs ++ outcomes w f (led w f c xs) ys
  unfolding led outcomes
  outcomes_on c [] ys = refl
  outcomes_on c (x ∷ xs) ys = ap (λ os. outcome w f c x ∷ os) (outcomes_on (after w f c x) xs ys)

  -- one call more
  pub led_once : (c : Inside) (xs : List Call) (i : ℕ) (x : Call) → i < length xs → get_or xs i x ≡ x
      → led w f c (take (i + 1) xs) ≡ after w f (led w f c (take i xs)) x
  unfolding led
  led_once c xs i x l e = rw (add-one, take-suc xs i x l, e, led_on c (take i xs) (x ∷ [])) refl

  pub outcomes_once : (c : Inside) (xs : List Call) (i : ℕ) (x : Call) → i < length xs → get_or xs i x ≡ x
      → outcomes w f c (take (i + 1) xs) ≡ outcomes w f c (take i xs) ++ (outcome w f (led w f c (take i xs)) x ∷ [])
  unfolding outcomes
  outcomes_once c xs i x l e = rw (add-one, take-suc xs i x l, e, outcomes_on c (take i xs) (x ∷ [])) refl

  -- a run after a past
  pub carries : EveryRunIsLawful w f → (before : Inside) (calls : List Call) (now : Inside) (answered : List (Option LawOutcome)) → All OfBytes calls
      → now ≡ led w f before calls → answered ≡ map Some (outcomes w f before calls) → CarriesTheLaw w f before calls now answered
  carries law before calls now answered bytes leads answers new newly typed past past_bytes was = (
    leads ∙ (ap (λ (c : Inside). led w f c calls) was ∙ sym (led_on new past calls)),
    ap (map Some) (outcomes_on new past calls)
        ∙ (map-append Some (outcomes w f new past) (outcomes w f (led w f new past) calls)
        ∙ ap (λ (os : List (Option LawOutcome)). map Some (outcomes w f new past) ++ os) (ap (λ (c : Inside). map Some (outcomes w f c calls)) (sym was) ∙ sym answers)),
    law new newly typed (past ++ calls) (all_of_both OfBytes past calls past_bytes bytes),
  )

pub bytes_once : (xs : List Call) (i : ℕ) (x : Call) → i < length xs → get_or xs i x ≡ x → All OfBytes (take i xs) → OfBytes x → All OfBytes (take (i + 1) xs)
bytes_once xs i x l e a b = rw (add-one, take-suc xs i x l, e) (all_of_both OfBytes (take i xs) (x ∷ []) a (b, tt))

-- ---- one entry more is written

pub same_calls : (es : List Entry) (i : ℕ) (e y : Entry) → call_of y.call ≡ call_of (get_or es i e).call → calls_of (set es i y) ≡ calls_of es
same_calls es i e y h = map-set_same (λ x. call_of x.call) es i y e h

pub call_at : (es : List Entry) (i : ℕ) (e : Entry) (x : Call) → i < length es → get_or (calls_of es) i x ≡ call_of (get_or es i e).call
call_at es i e x l = get_or-map (λ x. call_of x.call) es i e x l

pub written_once : (es : List Entry) (i : ℕ) (y : Entry) → i < length es
    → take (i + 1) (written (set es i y)) ≡ take i (written es) ++ (option_map outcome_of y.outcome ∷ [])
written_once es i y l =
    let m : written (set es i y) ≡ set (written es) i (option_map outcome_of y.outcome) = map-set (λ x. option_map outcome_of x.outcome) es i y in
    rw (add-one, m) (take-suc-set (written es) i (option_map outcome_of y.outcome) (rw length-map l))

module _ (w : ℕ) (f : List Bool → ℕ) where
  pub answered_once : (c : Inside) (xs : List Call) (es : List Entry) (i : ℕ) (x : Call) (y : Entry) → i < length es → i < length xs → get_or xs i x ≡ x
      → take i (written es) ≡ map Some (outcomes w f c (take i xs)) → option_map outcome_of y.outcome ≡ Some (outcome w f (led w f c (take i xs)) x)
      → take (i + 1) (written (set es i y)) ≡ map Some (outcomes w f c (take (i + 1) xs))
  answered_once c xs es i x y l m e before now =
      written_once es i y l
      ∙ (ap₂ (λ (os : List (Option LawOutcome)) (o : Option LawOutcome). os ++ (o ∷ [])) before now
      ∙ (sym (map-append Some (outcomes w f c (take i xs)) (outcome w f (led w f c (take i xs)) x ∷ []))
      ∙ ap (map Some) (sym (outcomes_once w f c xs i x m e))))
