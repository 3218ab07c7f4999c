-- What carrying out a line gives.
use Rattle.std.specs.Prelude.{◌≡◌, ℕ, ◌*◌, Bool, true, false, cond, List, length, take, Some, None, Ok, Err, Option, Result, nat_le}
use Rattle.checks.specs.Bits.{bits}
use Rattle.checks.specs.Crc.{crc8, crc16}
use Rattle.frames.specs.Packet.{Packet, frame_bits, reading}
use Rattle.frames.specs.Calls.{packet_of, refusal_number, Checked}
use Rattle.requests.specs.declared.lines.Kind.{Kind}
use Rattle.requests.specs.declared.lines.Kind.TheVariants.{Crc8, Crc16}
use Rattle.results.specs.declared.carrying.Answer.{Answer}
use Rattle.results.specs.declared.carrying.Answer.TheVariants as answer
use Rattle.requests.specs.declared.lines.Lack.{Lack}
use Rattle.requests.specs.declared.lines.Cannot.{Cannot}
use Rattle.requests.specs.declared.lines.Cannot.TheVariants.{Unit as Unable}
use Rattle.requests.specs.declared.lines.Stop.{Stop}
use Rattle.requests.specs.declared.lines.Stop.TheVariants.{Cannot as Told, Memory}
use Rattle.requests.specs.Lines.{Request, kind, pack, read, field, unit, call, make, carry}
use Rattle.commands.specs.declared.refusal.Refusal.{Refusal}
use Rattle.profile.specs.Profile.{if_sound, field_of}
use Rattle.desk.specs.declared.slot.Units.{Units}
use Rattle.desk.specs.declared.answer.Frame.{Frame}
use Rattle.desk.specs.Answers.{Said, said_of, refused as unit_refused}
use Rattle.desk.specs.Boxed.{frame_of}
use Rattle.desk.specs.Desks.{kind_of, no_units, units_after, units_said, units_called, units_answer, units_made, units_make_said, units_carried, units_carry_said, KeptUnlessDone}
use Rattle.results.specs.Field.{field_bytes}

abbrev pub check_width : Kind → ℕ
check_width Crc8 = 8
check_width Crc16 = 16

abbrev pub check_meaning : Kind → List Bool → ℕ
check_meaning Crc8 = crc8
check_meaning Crc16 = crc16

-- ---- what a line gives

pub data Outcome : Type 0 where
  done : Outcome
  -- a frame that was packed
  frame : Frame → Outcome
  -- what was read
  heard : Packet → Outcome
  nothing : Outcome
  -- refused, under that number
  refused : ℕ → Outcome
  -- what a profile has for a register
  looked_up : List ℕ → Outcome
  absent : Outcome
  -- what a unit answers
  said : Said → Outcome

abbrev pub outcome_of : Answer → Outcome
outcome_of answer.Done = done
outcome_of (answer.Frame x) = frame x
outcome_of (answer.Read (Ok (Some h))) = heard (packet_of h.fields)
outcome_of (answer.Read (Ok None)) = nothing
outcome_of (answer.Read (Err e)) = refused (refusal_number e)
outcome_of (answer.Field (Ok (Some f))) = looked_up (field_bytes f)
outcome_of (answer.Field (Ok None)) = absent
outcome_of (answer.Field (Err e)) = said (unit_refused e)
outcome_of (answer.Unit r) = said (said_of r)

-- with a packet comes the check that was heard, and its payload is 0 behind its bytes
abbrev pub CheckHeard : Kind → Answer → Type 0
CheckHeard k answer.Done = Unit {0}
CheckHeard k (answer.Frame x) = Unit {0}
CheckHeard k (answer.Read (Ok h)) = Checked (check_meaning k) h
CheckHeard k (answer.Read (Err e)) = Unit {0}
CheckHeard k (answer.Field r) = Unit {0}
CheckHeard k (answer.Unit r) = Unit {0}

-- whether it is what a profile has, also where the profile is refused
abbrev pub of_profile : Answer → Bool
of_profile answer.Done = false
of_profile (answer.Frame x) = false
of_profile (answer.Read r) = false
of_profile (answer.Field r) = true
of_profile (answer.Unit r) = false

abbrev pub asks_profile : Request → Bool
asks_profile (kind named) = false
asks_profile (pack p) = false
asks_profile (read width n bytes) = false
asks_profile (field r p) = true
asks_profile (unit label q) = false
asks_profile (call u c) = false
asks_profile make = false
asks_profile (carry fate start pattern) = false

abbrev pub pack_outcome : Kind → Packet → Outcome
pack_outcome k p = frame (frame_of (frame_bits (check_width k) (check_meaning k) p))

abbrev pub found : Option Packet → Outcome
found (Some p) = heard p
found None = nothing

-- refused where there are fewer bytes than bits
abbrev pub read_outcome : Kind → ℕ → ℕ → List ℕ → Outcome
read_outcome k width n bytes =
    cond (nat_le n (8 * length bytes)) (found (reading (check_width k) (check_meaning k) width (take n (bits bytes)))) (refused 18)

abbrev pub found_field : Result (Option (List ℕ)) Refusal → Outcome
found_field (Ok (Some bytes)) = looked_up bytes
found_field (Ok None) = absent
found_field (Err e) = said (unit_refused e)

abbrev pub field_outcome : ℕ → List ℕ → Outcome
field_outcome r p = found_field (if_sound p (field_of p r))

-- what a unit lacks is why the line cannot be carried out
abbrev pub unit_outcome : ℕ → Result Said Lack → Result Outcome Cannot
unit_outcome u (Ok s) = Ok (said s)
unit_outcome u (Err lack) = Err (Unable u lack)

abbrev pub cell_outcome : Result Said Cannot → Result Outcome Cannot
cell_outcome (Ok s) = Ok (said s)
cell_outcome (Err e) = Err e

-- what a line gives with the units as they are and the check in force
abbrev pub carried : Units → Request → Result Outcome Cannot
carried us (kind named) = Ok done
carried us (pack p) = Ok (pack_outcome (kind_of us) p)
carried us (read width n bytes) = Ok (read_outcome (kind_of us) width n bytes)
carried us (field r p) = Ok (field_outcome r p)
carried us (unit label q) = unit_outcome label (units_said us label q)
carried us (call u c) = unit_outcome u (units_answer us u c)
carried us make = cell_outcome (units_make_said us)
carried us (carry fate start pattern) = cell_outcome (units_carry_said us fate start pattern)

-- the units after it: another check drops them all
abbrev pub units_after_request : Units → Request → Units
units_after_request us (kind named) = no_units named
units_after_request us (pack p) = us
units_after_request us (read width n bytes) = us
units_after_request us (field r p) = us
units_after_request us (unit label q) = units_after us label q
units_after_request us (call u c) = units_called us u c
units_after_request us make = units_made us
units_after_request us (carry fate start pattern) = units_carried us fate start pattern

-- a line that cannot be carried out changes nothing, nor does a refusal, nor what only looks
abbrev pub Kept : Result Outcome Cannot → Units → Units → Type 0
Kept (Err e) before after = after ≡ before
Kept (Ok done) before after = Unit {0}
Kept (Ok (frame x)) before after = after ≡ before
Kept (Ok (heard p)) before after = after ≡ before
Kept (Ok nothing) before after = after ≡ before
Kept (Ok (refused n)) before after = after ≡ before
Kept (Ok (looked_up bytes)) before after = after ≡ before
Kept (Ok absent) before after = after ≡ before
Kept (Ok (said s)) before after = KeptUnlessDone (Ok s) before after

-- what is said where there was no memory
abbrev pub IfUnsettled : {X : Type 0} → Result X Stop → Type 0 → Type 0
IfUnsettled (Ok v) p = Unit {0}
IfUnsettled (Err (Told e)) p = Unit {0}
IfUnsettled (Err Memory) p = p
