-- The units that heard a frame, one after the other.
use Rattle.std.proofs.Common.{◌≡◌, ℕ, zero, suc, ◌+◌, ◌<◌, Bool, cond, eqb, List, [], ◌∷◌, ◌++◌, length, get_or, take, drop, set, Option, sym, refl, ap, ◌∙◌, ap₂, add-one, zero-add, arith}
use Rattle.std.specs.Option.{option_map}
use Rattle.unit.specs.declared.state.State.{State}
use Rattle.cell.specs.declared.air.Frame.{Frame}
use Rattle.cell.specs.Calls.{heard_by_unit, heard_from}

module _ (w : ℕ) (f : List Bool → ℕ) (x : Frame) (xs : List Bool) where
  -- the unit of a number after the frame
  abbrev pub after : ℕ → Option State → Option State
  after i u = cond (eqb i x.from) u (option_map (heard_by_unit w f x xs) u)

  -- the first n of the units from the number k on heard it
  abbrev pub first_heard : ℕ → ℕ → List (Option State) → List (Option State)
  first_heard k n us = heard_from w f k x xs (take n us) ++ drop n us

  -- the next one is as it was
  next_same : (k n : ℕ) (us : List (Option State)) (d : Option State) → n < length us → get_or (first_heard k n us) n d ≡ get_or us n d
  unfolding heard_from
  next_same k n [] d h = absurd (omega arith)
  next_same k zero (u ∷ us) d h = refl
  next_same k (suc n) (u ∷ us) d h = next_same (suc k) n us d (omega arith)

  -- now it hears the frame
  next_heard :
      (k n j : ℕ) (us : List (Option State)) (d : Option State) → n < length us → j ≡ k + n
      → set (first_heard k n us) n (after j (get_or us n d)) ≡ first_heard k (suc n) us
  unfolding heard_from
  next_heard k n j [] d h e = absurd (omega arith)
  next_heard k zero j (u ∷ us) d h e = let i : j ≡ k = omega arith in ap (λ (i : ℕ). after i u ∷ us) i
  next_heard k (suc n) j (u ∷ us) d h e = ap (λ (vs : List (Option State)). after k u ∷ vs) (next_heard (suc k) n j us d (omega arith) (omega arith))

  -- the same, as the program goes: it writes what became of the unit at its place
  pub heard_first : (us : List (Option State)) (u d : Option State) → 0 < length us → u ≡ after 0 (get_or us 0 d) → set us 0 u ≡ first_heard 0 1 us
  unfolding heard_from
  heard_first us u d h e = ap (set us 0) e ∙ next_heard 0 0 0 us d h refl

  pub heard_next :
      (us vs : List (Option State)) (u d : Option State) (i : ℕ) → i < length us → vs ≡ first_heard 0 i us → u ≡ after i (get_or vs i d)
      → set vs i u ≡ first_heard 0 (i + 1) us
  heard_next us vs u d i h e o =
      ap₂ (λ (vs : List (Option State)) (u : Option State). set vs i u) e
      (o ∙ ap (λ (vs : List (Option State)). after i (get_or vs i d)) e ∙ ap (after i) (next_same 0 i us d h))
      ∙ next_heard 0 i i us d h (sym (zero-add i))
      ∙ sym (ap (λ (n : ℕ). first_heard 0 n us) (add-one i))
