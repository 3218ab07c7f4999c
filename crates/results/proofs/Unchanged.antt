-- What a line leaves as it was.
use Rattle.std.proofs.Common.{ℕ, ◌*◌, Bool, true, false, cond, leb, List, length, take, Some, None, Ok, Err, Option, Result, refl}
use Rattle.checks.specs.Bits.{bits}
use Rattle.frames.specs.Packet.{Packet, reading}
use Rattle.commands.specs.declared.refusal.Refusal.{Refusal}
use Rattle.profile.specs.Profile.{if_sound, field_of}
use Rattle.requests.specs.declared.lines.Lack.{Lack}
use Rattle.requests.specs.declared.lines.Cannot.{Cannot}
use Rattle.requests.specs.declared.lines.Stop.{Stop}
use Rattle.requests.specs.declared.lines.Stop.TheVariants.{Cannot as Unable, Memory}
use Rattle.requests.specs.Lines.{Request, kind, pack, read, field, unit, call, make, carry}
use Rattle.desk.specs.declared.slot.Units.{Units}
use Rattle.desk.specs.Answers.{Said}
use Rattle.desk.specs.Desks.{kind_of, units_after, units_said, units_called, units_answer, units_made, units_make_said, units_carried, units_carry_said, KeptUnlessDone}
use Rattle.desk.specs.Making.{IfSettled}
use Rattle.desk.proofs.Kept.{KeptIfSaid, units_kept, units_called_kept, units_made_kept, units_carried_kept}
use Rattle.results.specs.Outcomes.{check_width, check_meaning, refused, found, found_field, unit_outcome, cell_outcome, carried, units_after_request, Kept}

read_kept : (b : Bool) (o : Option Packet) (us : Units) → Kept (Ok (cond b (found o) (refused 18))) us us
read_kept true (Some p) us = refl
read_kept true None us = refl
read_kept false o us = refl

field_kept : (r : Result (Option (List ℕ)) Refusal) (us : Units) → Kept (Ok (found_field r)) us us
field_kept (Ok (Some bytes)) us = refl
field_kept (Ok None) us = refl
field_kept (Err e) us = refl

unit_kept : (u : ℕ) (r : Result Said Lack) (before after : Units) → KeptUnlessDone r before after → Kept (unit_outcome u r) before after
unit_kept u (Ok s) before after h = h
unit_kept u (Err lack) before after h = h

pub if_settled : {X : Type 0} (r : Result X Stop) (p q : Type 0) → (p → q) → IfSettled r p → IfSettled r q
if_settled (Ok v) p q f h = f h
if_settled (Err (Unable e)) p q f h = f h
if_settled (Err Memory) p q f h = tt

cell_kept : (r : Result Said Cannot) (before after : Units) → KeptIfSaid r before after → Kept (cell_outcome r) before after
cell_kept (Ok s) before after h = h
cell_kept (Err e) before after h = h

pub carried_kept : (us : Units) (q : Request) → Kept (carried us q) us (units_after_request us q)
carried_kept us (kind named) = tt
carried_kept us (pack p) = refl
carried_kept us (read width n bytes) = read_kept (leb n (8 * length bytes)) (reading (check_width (kind_of us)) (check_meaning (kind_of us)) width (take n (bits bytes))) us
carried_kept us (field r p) = field_kept (if_sound p (field_of p r)) us
carried_kept us (unit label q) = unit_kept label (units_said us label q) us (units_after us label q) (units_kept us label q)
carried_kept us (call u c) = unit_kept u (units_answer us u c) us (units_called us u c) (units_called_kept us u c)
carried_kept us make = cell_kept (units_make_said us) us (units_made us) (units_made_kept us)
carried_kept us (carry fate start pattern) =
    cell_kept (units_carry_said us fate start pattern) us (units_carried us fate start pattern) (units_carried_kept us fate start pattern)
