-- The units under their labels.
use Rattle.std.specs.Prelude.{◌≡◌, ℕ, Bool, List, replicate, Some, None, Ok, Err, Option, Result, ◌≢◌, slice_index_or, slice_set}
use Rattle.std.specs.Option.{option_map}
use Rattle.checks.specs.Crc.{crc8, crc16}
use Rattle.registers.specs.declared.held.Registers.{Registers}
use Rattle.unit.specs.declared.state.State.{State}
use Rattle.requests.specs.declared.lines.Kind.{Kind}
use Rattle.requests.specs.declared.lines.Kind.TheVariants as kind
use Rattle.requests.specs.declared.lines.Lack.{Lack}
use Rattle.requests.specs.declared.lines.Lack.TheVariants.{InCell}
use Rattle.requests.specs.declared.lines.Cannot.{Cannot}
use Rattle.requests.specs.declared.lines.Cannot.TheVariants.{NoCell}
use Rattle.requests.specs.Lines.{UnitRequest, Call}
use Rattle.desk.specs.declared.slot.AnyUnit.TheVariants.{Bench, Boxed}
use Rattle.desk.specs.declared.slot.Desk.{Desk}
use Rattle.desk.specs.declared.slot.Units.{Units}
use Rattle.desk.specs.declared.slot.Units.TheVariants.{Crc8, Crc16}
use Rattle.desk.specs.declared.slot.Watched.{Watched}
use Rattle.desk.specs.Answers.{Said, done, pin, replied, ticked, heard, refused, refused_in_cell}
use Rattle.desk.specs.declared.counts.Counts.{Counts}
use Rattle.desk.specs.CellCalls.{waiting_at, watched_after, watched_said, carried_on, carry_said}
use Rattle.desk.specs.Slots.{Slot, line_after, line_said, call_after, call_said}
use Rattle.desk.specs.Making.{desk_made, desk_make_said}

module _ {C : Type 0} where
  -- none at a number that is no label's
  abbrev pub slot_at : Desk C → ℕ → Slot C
  slot_at d u = slice_index_or d.slots u None

  abbrev pub no_desk : Desk C
  no_desk = record { slots = replicate 8 None; cell = None }

  -- only the place of that number changes
  abbrev pub with_slot : Desk C → ℕ → Slot C → Desk C
  with_slot d u s = record { slots = slice_set d.slots u s; cell = d.cell }

  abbrev pub with_cell : Desk C → Option (Watched C) → Desk C
  with_cell d x = record { slots = d.slots; cell = x }

  -- for a check of w bits that means f
  module _ (w : ℕ) (f : List Bool → ℕ) where
    -- once there is a cell, a line for the unit under a label cannot be carried out
    abbrev pub desk_after_by : Option (Watched C) → Desk C → ℕ → UnitRequest → Desk C
    desk_after_by None d u q = with_slot d u (line_after w f q (slot_at d u))
    desk_after_by (Some x) d u q = d

    abbrev pub desk_after : Desk C → ℕ → UnitRequest → Desk C
    desk_after d u q = desk_after_by d.cell d u q

    abbrev pub desk_said_by : Option (Watched C) → Desk C → ℕ → UnitRequest → Result Said Lack
    desk_said_by None d u q = line_said w f q (slot_at d u)
    desk_said_by (Some x) d u q = Err InCell

    abbrev pub desk_said : Desk C → ℕ → UnitRequest → Result Said Lack
    desk_said d u q = desk_said_by d.cell d u q

    -- and one for the unit of a number is for that unit of the cell
    abbrev pub desk_called_by : Option (Watched C) → Desk C → ℕ → Call → Desk C
    desk_called_by None d u c = with_slot d u (call_after w f c (slot_at d u))
    desk_called_by (Some x) d u c = with_cell d (Some (watched_after w f x u c))

    abbrev pub desk_called : Desk C → ℕ → Call → Desk C
    desk_called d u c = desk_called_by d.cell d u c

    abbrev pub desk_answer_by : Option (Watched C) → Desk C → ℕ → Call → Result Said Lack
    desk_answer_by None d u c = call_said w f c (slot_at d u)
    desk_answer_by (Some x) d u c = watched_said w f x u c

    abbrev pub desk_answer : Desk C → ℕ → Call → Result Said Lack
    desk_answer d u c = desk_answer_by d.cell d u c

    -- the frame on the air of the cell, if there is a cell
    abbrev pub desk_carried_by : Option (Watched C) → Desk C → ℕ → ℕ → ℕ → Desk C
    desk_carried_by None d fate start pattern = d
    desk_carried_by (Some x) d fate start pattern = with_cell d (Some (carried_on w f x fate start pattern))

    abbrev pub desk_carried : Desk C → ℕ → ℕ → ℕ → Desk C
    desk_carried d fate start pattern = desk_carried_by d.cell d fate start pattern

    abbrev pub desk_carry_by : Option (Watched C) → ℕ → ℕ → ℕ → Result Said Cannot
    desk_carry_by None fate start pattern = Err NoCell
    desk_carry_by (Some x) fate start pattern = Ok (carry_said w f x.cell.inside fate start pattern)

    abbrev pub desk_carry_said : Desk C → ℕ → ℕ → ℕ → Result Said Cannot
    desk_carry_said d fate start pattern = desk_carry_by d.cell fate start pattern

-- what the calls on the cell came to, and how many payloads wait at a unit of it
module _ {C : Type 0} where
  abbrev pub desk_counts : Desk C → Option Counts
  desk_counts d = option_map (λ (x : Watched C). x.counts) d.cell

  abbrev pub waiting_by : Option (Watched C) → ℕ → Option ℕ
  waiting_by None u = None
  waiting_by (Some x) u = waiting_at x.cell.inside u

  abbrev pub desk_waiting : Desk C → ℕ → Option ℕ
  desk_waiting d u = waiting_by d.cell u

abbrev pub kind_of : Units → Kind
kind_of (Crc8 d) = kind.Crc8
kind_of (Crc16 d) = kind.Crc16

-- no unit under any label
abbrev pub no_units : Kind → Units
no_units kind.Crc8 = Crc8 no_desk
no_units kind.Crc16 = Crc16 no_desk

abbrev pub units_after : Units → ℕ → UnitRequest → Units
units_after (Crc8 d) u q = Crc8 (desk_after 8 crc8 d u q)
units_after (Crc16 d) u q = Crc16 (desk_after 16 crc16 d u q)

abbrev pub units_said : Units → ℕ → UnitRequest → Result Said Lack
units_said (Crc8 d) u q = desk_said 8 crc8 d u q
units_said (Crc16 d) u q = desk_said 16 crc16 d u q

abbrev pub units_called : Units → ℕ → Call → Units
units_called (Crc8 d) u c = Crc8 (desk_called 8 crc8 d u c)
units_called (Crc16 d) u c = Crc16 (desk_called 16 crc16 d u c)

abbrev pub units_answer : Units → ℕ → Call → Result Said Lack
units_answer (Crc8 d) u c = desk_answer 8 crc8 d u c
units_answer (Crc16 d) u c = desk_answer 16 crc16 d u c

abbrev pub units_carried : Units → ℕ → ℕ → ℕ → Units
units_carried (Crc8 d) fate start pattern = Crc8 (desk_carried 8 crc8 d fate start pattern)
units_carried (Crc16 d) fate start pattern = Crc16 (desk_carried 16 crc16 d fate start pattern)

abbrev pub units_carry_said : Units → ℕ → ℕ → ℕ → Result Said Cannot
units_carry_said (Crc8 d) fate start pattern = desk_carry_said 8 crc8 d fate start pattern
units_carry_said (Crc16 d) fate start pattern = desk_carry_said 16 crc16 d fate start pattern

abbrev pub units_made : Units → Units
units_made (Crc8 d) = Crc8 (desk_made 8 d)
units_made (Crc16 d) = Crc16 (desk_made 16 d)

abbrev pub units_make_said : Units → Result Said Cannot
units_make_said (Crc8 d) = desk_make_said 8 d
units_make_said (Crc16 d) = desk_make_said 16 d

abbrev pub units_counts : Units → Option Counts
units_counts (Crc8 d) = desk_counts d
units_counts (Crc16 d) = desk_counts d

abbrev pub units_waiting : Units → ℕ → Option ℕ
units_waiting (Crc8 d) u = desk_waiting d u
units_waiting (Crc16 d) u = desk_waiting d u

-- ---- the same in the subject's words

-- what stands at a number
pub data Standing : Type 0 where
  nothing : Standing
  on_bench : Registers → Standing
  in_a_box : State → Standing

abbrev pub standing : {C : Type 0} → Slot C → Standing
standing None = nothing
standing (Some (Bench b)) = on_bench b.registers
standing (Some (Boxed u)) = in_a_box u.state

abbrev pub under : Units → ℕ → Standing
under (Crc8 d) u = standing (slot_at d u)
under (Crc16 d) u = standing (slot_at d u)

-- at every other number stands what stood there, and the check stays in force
pub record Elsewhere (before : Units) (u : ℕ) (after : Units) : Type 0 where
  pub stands : (i : ℕ) → (i ≢ u) → under after i ≡ under before i
  pub check : kind_of after ≡ kind_of before

-- where the unit is lacking, it or the cell refuses, and where only its pin is observed, nothing changes
abbrev pub KeptUnlessDone : {X : Type 0} → Result Said Lack → X → X → Type 0
KeptUnlessDone (Err lack) before after = after ≡ before
KeptUnlessDone (Ok (refused e)) before after = after ≡ before
KeptUnlessDone (Ok (refused_in_cell e)) before after = after ≡ before
KeptUnlessDone (Ok (pin low)) before after = after ≡ before
KeptUnlessDone (Ok done) before after = Unit {0}
KeptUnlessDone (Ok (replied bytes)) before after = Unit {0}
KeptUnlessDone (Ok (ticked n frame)) before after = Unit {0}
KeptUnlessDone (Ok (heard frame)) before after = Unit {0}
