-- A change within w consecutive bits shows.
use Rattle.std.proofs.Common.{◌≡◌, ℕ, zero, suc, ◌^◌, ◌<◌, ◌≤◌, Bool, true, false, ◌⊎◌, List, [], ◌∷◌, ◌++◌, length, take, drop, Some, None, Option, sym, refl, ap, ◌∙◌, subst, inl, inr, zero-le, arith, take-append-drop}
use Rattle.std.proofs.lemmas.List.{length-take}
use Rattle.checks.specs.Crc.{differs}
use Rattle.checks.specs.Burst.{EndsInOwnCheck, Burst}
use Rattle.frames.specs.Packet.{covered, frame_bits, reading}
use Rattle.frames.specs.Damage.{flip, changed, DamageShows}
use Rattle.frames.proofs.Parse.{after_preamble, reads_all, reads_only}

pub flip_none : (xs : List Bool) → flip xs [] ≡ xs
unfolding flip
flip_none [] = refl
flip_none (x ∷ xs) = refl

pub flip_nil : (ys : List Bool) → flip [] ys ≡ []
unfolding flip
flip_nil [] = refl
flip_nil (y ∷ ys) = refl

pub length_flip : (xs ys : List Bool) → length (flip xs ys) ≡ length xs
unfolding flip
length_flip [] [] = refl
length_flip [] (y ∷ ys) = refl
length_flip (x ∷ xs) [] = refl
length_flip (x ∷ xs) (y ∷ ys) = ap suc (length_flip xs ys)

-- only the front as long as the pattern changes
flip_front : (xs ys : List Bool) → flip xs ys ≡ flip (take (length ys) xs) ys ++ drop (length ys) xs
unfolding flip
flip_front [] [] = refl
flip_front [] (y ∷ ys) = refl
flip_front (x ∷ xs) [] = refl
flip_front (x ∷ xs) (y ∷ ys) = ap (λ (z : List Bool). differs x y ∷ z) (flip_front xs ys)

-- the burst law, by patterns
pub shows_change :
    (w : ℕ) (f : List Bool → ℕ) → Burst w f → (t : List Bool) (s : ℕ) (ys : List Bool) → length ys ≤ w → (changed t s ys ≡ t → ⊥)
    → EndsInOwnCheck w f t → EndsInOwnCheck w f (changed t s ys) → ⊥
shows_change w f law t s ys l ne ok bad =
    let r : List Bool = drop s t in
    let a : List Bool = take s t in
    let d : List Bool = take (length ys) r in
    let b : List Bool = drop (length ys) r in
    let e : List Bool = flip d ys in
    let was : a ++ (d ++ b) ≡ t = ap (λ (z : List Bool). a ++ z) (take-append-drop (length ys) r) ∙ take-append-drop s t in
    let is : changed t s ys ≡ a ++ (e ++ b) = ap (λ (z : List Bool). a ++ z) (flip_front r ys) in
    let n : length d ≤ length ys = omega (arith, length-take (length ys) r) in
    law a d e b (sym (length_flip d ys)) (omega (arith, n, l))
    (λ q. ne (is ∙ ap (λ (z : List Bool). a ++ (z ++ b)) (sym q) ∙ was))
    (subst (EndsInOwnCheck w f) (sym was) ok) (subst (EndsInOwnCheck w f) is bad)

-- what a pattern does past the first k bits is what a pattern no longer does to them
Past : ℕ → List Bool → ℕ → List Bool → Type 0
Past k t s ys = (r : ℕ) × (zs : List Bool) × (length zs ≤ length ys) × (drop k (changed t s ys) ≡ changed (drop k t) r zs)

past : (k : ℕ) (t : List Bool) (s : ℕ) (ys : List Bool) → Past k t s ys
unfolding Past flip
past zero t s ys = (s, ys, omega arith, refl)
past (suc k) [] zero ys = (0, [], zero-le, ap (drop (suc k)) (flip_nil ys))
past (suc k) [] (suc s) ys = (0, [], zero-le, ap (drop (suc k)) (flip_nil ys))
past (suc k) (x ∷ t) zero [] = (0, [], zero-le, sym (flip_none (drop k t)))
past (suc k) (x ∷ t) zero (y ∷ ys) = let h = past k t zero ys in (h.0, h.1, omega (arith, h.2), h.3)
past (suc k) (x ∷ t) (suc s) ys = past k t s ys

same_or : (xs ys : List Bool) → (xs ≡ ys) ⊎ (xs ≡ ys → ⊥)
same_or [] [] = inl refl
same_or [] (y ∷ ys) = inr (λ e. let z : ◌≡◌ {A = ℕ} 0 1 = cc in omega arith)
same_or (x ∷ xs) [] = inr (λ e. let z : ◌≡◌ {A = ℕ} 0 1 = cc in omega arith)
same_or (true ∷ xs) (false ∷ ys) = inr (λ e. let z : ◌≡◌ {A = ℕ} 0 1 = cc in omega arith)
same_or (false ∷ xs) (true ∷ ys) = inr (λ e. let z : ◌≡◌ {A = ℕ} 0 1 = cc in omega arith)
same_or (true ∷ xs) (true ∷ ys) = elim (same_or xs ys) [ inl e ↦ inl (ap (λ (z : List Bool). true ∷ z) e) | inr n ↦ inr (λ e. n cc) ]
same_or (false ∷ xs) (false ∷ ys) = elim (same_or xs ys) [ inl e ↦ inl (ap (λ (z : List Bool). false ∷ z) e) | inr n ↦ inr (λ e. n cc) ]

none_when : {X : Type 0} (o : Option X) → ((x : X) → o ≡ Some x → ⊥) → o ≡ None
none_when None h = refl
none_when (Some x) h = absurd (h x refl)

pub damage_shows : (w : ℕ) (f : List Bool → ℕ) → ((s : List Bool) → f s < 2 ^ w) → Burst w f → DamageShows w f
unfolding Past
damage_shows w f below law width s start ys ok l =
    let t = frame_bits w f s in
    let u = changed t start ys in
    let h = past 8 t start ys in
    elim (same_or (drop 8 u) (drop 8 t)) [
      | inl e ↦ inl (e, reads_all f w below width u s ok (e ∙ after_preamble w f s))
      | inr n ↦
          inr (λ v. none_when (reading w f v u) (λ g q.
          let k = reads_only f w below v u g q in
          shows_change w f law (drop 8 t) h.0 h.1 (omega (arith, h.2, l)) (λ e. n (h.3 ∙ e))
          (covered s, after_preamble w f s) (covered g, sym h.3 ∙ k.1)))
    ]
