-- Facts on lists and on values by sender.
use Rattle.std.proofs.Common.{◌≡◌, ℕ, zero, suc, ◌<◌, List, [], ◌∷◌, ◌++◌, length, get_or, drop, Some, None, Option, sym, refl, ap, ◌∙◌, subst, ⊎_elim, arith, eq-eqb, ne_eqb}
use Rattle.std.proofs.lemmas.Bool.{cases_eq}
use Rattle.std.specs.List.{slice_get}
use Rattle.law.specs.Lists.{All}
use Rattle.law.specs.Law.{at}

pub all_weaker : {X : Type 0} (P Q : X → Type 0) → ((x : X) → P x → Q x) → (xs : List X) → All P xs → All Q xs
all_weaker P Q f [] h = tt
all_weaker P Q f (x ∷ xs) h = (f x h.0, all_weaker P Q f xs h.1)

pub all_push : {X : Type 0} (P : X → Type 0) (xs : List X) (y : X) → All P xs → P y → All P (xs ++ (y ∷ []))
all_push P [] y h k = (k, tt)
all_push P (x ∷ xs) y h k = (h.0, all_push P xs y h.1 k)

-- ---- values by sender

pub at_there : {X : Type 0} (k : ℕ) (x : X) (g : ℕ → X) → at k x g k ≡ x
at_there k x g = rw (eq-eqb k k refl) refl

pub at_elsewhere : {X : Type 0} (k j : ℕ) (x : X) (g : ℕ → X) → (j ≡ k → ⊥) → at k x g j ≡ g j
at_elsewhere k j x g n = rw (ne_eqb j k n) refl

-- what holds at the place that changed and at every other holds everywhere
pub at_each : {X : Type 0} (P : ℕ → X → Type 0) (k : ℕ) (x : X) (g : ℕ → X) (j : ℕ) → (j ≡ k → P j x) → ((j ≡ k → ⊥) → P j (g j)) → P j (at k x g j)
at_each P k x g j here there =
    ⊎_elim (λ e. subst (λ y. P j y) (sym (ap (λ i. at k x g i) e ∙ at_there k x g)) (here e))
    (λ n. subst (λ y. P j y) (sym (at_elsewhere k j x g n)) (there n)) (cases_eq j k)

-- ---- elements by place

-- what is there is within the list
pub there_within : {X : Type 0} (xs : List (Option X)) (i : ℕ) (y : X) → get_or xs i None ≡ Some y → i < length xs
there_within [] i y h = let z : ◌≡◌ {A = ℕ} 0 1 = cc in absurd (omega arith)
there_within (x ∷ xs) zero y h = omega arith
there_within (x ∷ xs) (suc i) y h = omega (arith, there_within xs i y h)

pub nth_push : {X : Type 0} (xs : List X) (y : X) (i : ℕ) (x : X) → slice_get xs i ≡ Some x → slice_get (xs ++ (y ∷ [])) i ≡ Some x
nth_push [] y i x h = let z : ◌≡◌ {A = ℕ} 0 1 = cc in absurd (omega arith)
nth_push (z ∷ xs) y zero x h = h
nth_push (z ∷ xs) y (suc i) x h = nth_push xs y i x h

pub drop_nth : {X : Type 0} (xs : List X) (i : ℕ) (x : X) (ys : List X) → drop i xs ≡ x ∷ ys → slice_get xs i ≡ Some x
drop_nth [] zero x ys h = let z : ◌≡◌ {A = ℕ} 0 1 = cc in absurd (omega arith)
drop_nth [] (suc i) x ys h = let z : ◌≡◌ {A = ℕ} 0 1 = cc in absurd (omega arith)
drop_nth (y ∷ xs) zero x ys h = let e : y ≡ x = cc in ap Some e
drop_nth (y ∷ xs) (suc i) x ys h = drop_nth xs i x ys h

pub nth_all : {X : Type 0} (P : X → Type 0) (xs : List X) (i : ℕ) (x : X) → slice_get xs i ≡ Some x → All P xs → P x
nth_all P [] i x h a = let z : ◌≡◌ {A = ℕ} 0 1 = cc in absurd (omega arith)
nth_all P (y ∷ xs) zero x h a = let e : y ≡ x = cc in subst P e a.0
nth_all P (y ∷ xs) (suc i) x h a = nth_all P xs i x h a.1
