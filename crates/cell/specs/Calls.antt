-- The calls of a cell, for a check of w bits that means f.
use Rattle.std.specs.Prelude.{ℕ, suc, Bool, true, false, cond, List, [], ◌∷◌, Some, None, Ok, Err, Option, Result, ◌==◌, slice_index_or, slice_set}
use Rattle.std.specs.Option.{option_map}
use Rattle.commands.specs.Decode.{ordered}
use Rattle.commands.specs.Refusals.{kept_or}
use Rattle.unit.specs.declared.state.State.{State}
use Rattle.unit.specs.Commanding.{command_answer, command_after, command_buffer}
use Rattle.unit.specs.Ticking.{bits_of, sent, tick_refusal, tick_after, tick_answer, ce_answer, ce_after}
use Rattle.unit.specs.Hearing.{heard_bits, hear_refusal}
use Rattle.cell.specs.declared.air.Frame.{Frame}
use Rattle.cell.specs.declared.air.Fate.{Fate}
use Rattle.cell.specs.declared.air.Fate.TheVariants.{Lost, Heard, HeardTwice, Changed}
use Rattle.cell.specs.declared.parts.Inside.{Inside}
use Rattle.cell.specs.declared.refusal.Refusal.{Refusal}
use Rattle.cell.specs.declared.refusal.Cause.TheVariants.{NoSuchUnit, AirHoldsFrame, AirEmpty, FateNotAllowed}
use Rattle.cell.specs.Refusals.{refusal_of, of_the_unit}
use Rattle.cell.specs.Air.{bits_on, air_of, fate_of, fate_allowed, fated}

-- ---- units and air replaced

-- the unit of a number; above 6 there is none
abbrev pub unit_at : Inside → ℕ → Option State
unit_at c u = slice_index_or c.places.at u None

abbrev pub with_places : Inside → List (Option State) → Inside
with_places c us = record { places = record { at = us }; air = c.air }

abbrev pub with_air : Inside → Option Frame → Inside
with_air c a = record { places = c.places; air = a }

abbrev pub with_unit : Inside → ℕ → State → Inside
with_unit c u s = with_places c (slice_set c.places.at u (Some s))

abbrev pub no_such : {X : Type 0} → ℕ → Result X Refusal
no_such u = Err (refusal_of u NoSuchUnit)

-- ---- a host command to a unit, with room for so many bytes of reply

abbrev pub command_answer_by : Option State → ℕ → List ℕ → ℕ → Result ℕ Refusal
command_answer_by None u host room = no_such u
command_answer_by (Some s) u host room = of_the_unit u (command_answer s room (ordered host))

abbrev pub command_result : Inside → ℕ → List ℕ → ℕ → Result ℕ Refusal
command_result c u host room = command_answer_by (unit_at c u) u host room

abbrev pub commanded_by : Option State → Inside → ℕ → List ℕ → ℕ → Inside
commanded_by None c u host room = c
commanded_by (Some s) c u host room = with_unit c u (command_after s room (ordered host))

abbrev pub commanded : Inside → ℕ → List ℕ → ℕ → Inside
commanded c u host room = commanded_by (unit_at c u) c u host room

abbrev pub reply_by : Option State → List ℕ → List ℕ → List ℕ
reply_by None host buffer = buffer
reply_by (Some s) host buffer = command_buffer s buffer (ordered host)

abbrev pub command_reply : Inside → ℕ → List ℕ → List ℕ → List ℕ
command_reply c u host buffer = reply_by (unit_at c u) host buffer

-- ---- the CE pin of a unit

abbrev pub ce_result_by : Option State → ℕ → Result Unit Refusal
ce_result_by None u = no_such u
ce_result_by (Some s) u = of_the_unit u (ce_answer s)

abbrev pub ce_result : Inside → ℕ → Result Unit Refusal
ce_result c u = ce_result_by (unit_at c u) u

abbrev pub leveled_by : Option State → Inside → ℕ → Bool → Inside
leveled_by None c u level = c
leveled_by (Some s) c u level = with_unit c u (ce_after level s)

abbrev pub leveled : Inside → ℕ → Bool → Inside
leveled c u level = leveled_by (unit_at c u) c u level

-- ---- a tick of a unit, which may put a frame on the air

abbrev pub done_if : {X : Type 0} → Result X Refusal → Result Unit Refusal
done_if (Ok x) = Ok tt
done_if (Err e) = Err e

module _ (w : ℕ) (f : List Bool → ℕ) where
  abbrev pub tick_result_by : Option State → Option Frame → ℕ → Result Unit Refusal
  tick_result_by None a u = no_such u
  tick_result_by (Some s) None u = done_if (of_the_unit u (tick_answer w f s 42))
  tick_result_by (Some s) (Some x) u = Err (refusal_of u AirHoldsFrame)

  abbrev pub tick_result : Inside → ℕ → Result Unit Refusal
  tick_result c u = tick_result_by (unit_at c u) c.air u

  -- the bits that the tick of a unit sends: those of a frame, or none
  abbrev pub tick_bits : State → List Bool
  tick_bits s = kept_or (tick_refusal s 42) [] (bits_of w f (sent s))

  abbrev pub ticked_by : Option State → Option Frame → Inside → ℕ → Inside
  ticked_by None a c u = c
  ticked_by (Some s) None c u = with_air (with_unit c u (tick_after s 42)) (air_of u (tick_bits s))
  ticked_by (Some s) (Some x) c u = c

  abbrev pub ticked : Inside → ℕ → Inside
  ticked c u = ticked_by (unit_at c u) c.air c u

  -- ---- the frame on the air is carried

  abbrev pub carry_result_by : Option Frame → ℕ → ℕ → ℕ → Result Unit Refusal
  carry_result_by None number start pattern = Err (refusal_of 0 AirEmpty)
  carry_result_by (Some x) number start pattern =
      cond (fate_allowed w x.count (fate_of number start pattern)) (Ok tt) (Err (refusal_of 0 FateNotAllowed))

  abbrev pub carry_result : Inside → ℕ → ℕ → ℕ → Result Unit Refusal
  carry_result c number start pattern = carry_result_by c.air number start pattern

  -- a unit hears the bits of a frame on the air
  abbrev pub heard_by_unit : Frame → List Bool → State → State
  heard_by_unit x xs s = kept_or (hear_refusal s x.bytes x.count 42) s (heard_bits w f s xs).state

  abbrev pub answer_bits : Frame → List Bool → State → List Bool
  answer_bits x xs s = kept_or (hear_refusal s x.bytes x.count 42) [] (bits_of w f (heard_bits w f s xs).answer)

  -- the units from the number i on hear it, all but its sender
  unfoldable pub heard_from : ℕ → Frame → List Bool → List (Option State) → List (Option State)
  heard_from i x xs [] = []
  heard_from i x xs (u ∷ us) = cond (i == x.from) u (option_map (heard_by_unit x xs) u) ∷ heard_from (suc i) x xs us

  abbrev pub heard_by_all : Frame → List Bool → List (Option State) → List (Option State)
  heard_by_all x xs us = heard_from 0 x xs us

  -- only the receiver answers, and not to itself
  abbrev pub answer_by : Option State → Frame → List Bool → List Bool
  answer_by None x xs = []
  answer_by (Some s) x xs = cond (x.from == 0) [] (answer_bits x xs s)

  abbrev pub answer_of : Frame → List Bool → List (Option State) → List Bool
  answer_of x xs us = answer_by (slice_index_or us 0 None) x xs

  -- every unit but the sender hears the bits; the answer is then on the air
  abbrev pub heard_once : Inside → Frame → List Bool → Inside
  heard_once c x xs = with_air (with_places c (heard_by_all x xs c.places.at)) (air_of 0 (answer_of x xs c.places.at))

  abbrev pub carried_so : Fate → Inside → Frame → Inside
  carried_so Lost c x = with_air c None
  carried_so Heard c x = heard_once c x (bits_on x)
  carried_so HeardTwice c x = heard_once (heard_once c x (bits_on x)) x (bits_on x)
  carried_so (Changed start pattern) c x = heard_once c x (fated (Changed start pattern) (bits_on x))

  abbrev pub carried_if : Bool → Option Fate → Inside → Frame → Inside
  carried_if false fate c x = c
  carried_if true None c x = c
  carried_if true (Some fate) c x = carried_so fate c x

  abbrev pub carried_by : Option Frame → Inside → ℕ → ℕ → ℕ → Inside
  carried_by None c number start pattern = c
  carried_by (Some x) c number start pattern =
      carried_if (fate_allowed w x.count (fate_of number start pattern)) (fate_of number start pattern) c x

  abbrev pub carried : Inside → ℕ → ℕ → ℕ → Inside
  carried c number start pattern = carried_by c.air c number start pattern
