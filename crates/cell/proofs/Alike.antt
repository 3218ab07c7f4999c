-- Which parts of a frame matter to those that hear given bits: its sender, and how many bits and bytes it has.
use Rattle.std.proofs.Common.{◌∙◌, ◌≡◌, ℕ, suc, ◌*◌, Bool, cond, eqb, ltb, List, [], ◌∷◌, length, get_or, Option, None, Some, refl, ap, ap₂}
use Rattle.std.specs.Option.{option_map}
use Rattle.commands.specs.declared.refusal.Refusal.{Refusal as UnitRefusal}
use Rattle.commands.specs.declared.refusal.Refusal.TheVariants.{FrameBytes}
use Rattle.commands.specs.Refusals.{first_of, kept_or}
use Rattle.unit.specs.declared.state.State.{State}
use Rattle.unit.specs.Units.{fault_refusal, or_else}
use Rattle.unit.specs.Hearing.{heard_bits, hear_refusal}
use Rattle.unit.specs.Ticking.{bits_of}
use Rattle.cell.specs.declared.air.Frame.{Frame}
use Rattle.cell.specs.declared.parts.Inside.{Inside}
use Rattle.cell.specs.Air.{air_of}
use Rattle.cell.specs.Calls.{with_places, with_air, heard_by_unit, answer_bits, heard_from, answer_by, heard_once}

module _ (w : ℕ) (f : List Bool → ℕ) (x y : Frame) (from : y.from ≡ x.from) (count : y.count ≡ x.count) (long : length y.bytes ≡ length x.bytes) (xs : List Bool) where
  same_refusal : (s : State) → hear_refusal s y.bytes y.count 42 ≡ hear_refusal s x.bytes x.count 42
  same_refusal s =
      ap₂ (λ (l n : ℕ). or_else (fault_refusal s) (first_of ((ltb 42 42, FrameBytes) ∷ ((ltb (8 * l) n, FrameBytes) ∷ [])))) long count

  same_heard : (s : State) → heard_by_unit w f y xs s ≡ heard_by_unit w f x xs s
  same_heard s = ap (λ (o : Option UnitRefusal). kept_or o s (heard_bits w f s xs).state) (same_refusal s)

  same_bits : (s : State) → answer_bits w f y xs s ≡ answer_bits w f x xs s
  same_bits s = ap (λ (o : Option UnitRefusal). kept_or o [] (bits_of w f (heard_bits w f s xs).answer)) (same_refusal s)

  same_unit : (u : Option State) → option_map (heard_by_unit w f y xs) u ≡ option_map (heard_by_unit w f x xs) u
  same_unit None = refl
  same_unit (Some s) = ap (λ (t : State). Some t) (same_heard s)

  same_from : (i : ℕ) (us : List (Option State)) → heard_from w f i y xs us ≡ heard_from w f i x xs us
  unfolding heard_from
  same_from i [] = refl
  same_from i (u ∷ us) =
      ap₂ (λ (v : Option State) (vs : List (Option State)). v ∷ vs)
      (ap₂ (λ (k : ℕ) (v : Option State). cond (eqb i k) u v) from (same_unit u)) (same_from (suc i) us)

  same_answer : (u : Option State) → answer_by w f u y xs ≡ answer_by w f u x xs
  same_answer None = refl
  same_answer (Some s) = ap₂ (λ (k : ℕ) (zs : List Bool). cond (eqb k 0) [] zs) from (same_bits s)

  same_once : (c : Inside) → heard_once w f c y xs ≡ heard_once w f c x xs
  same_once c =
      ap₂ (λ (us : List (Option State)) (zs : List Bool). with_air (with_places c us) (air_of 0 zs))
      (same_from 0 c.places.at) (same_answer (get_or c.places.at 0 None))

  -- the frame y is heard, and its bits are xs
  pub heard_alike : (c t : Inside) (zs : List Bool) → t ≡ heard_once w f c y zs → zs ≡ xs → t ≡ heard_once w f c x xs
  heard_alike c t zs h e = h ∙ ap (λ (v : List Bool). heard_once w f c y v) e ∙ same_once c
