-- What a unit answers.
use Rattle.std.specs.Prelude.{◌≡◌, ℕ, Bool, List, ◌∷◌, take, Some, None, Ok, Err, Option, Result}
use Rattle.registers.specs.declared.held.Registers.{Registers}
use Rattle.commands.specs.declared.refusal.Refusal.{Refusal as UnitRefusal}
use Rattle.commands.specs.Decode.{ordered}
use Rattle.bench.specs.Live.{at_rest}
use Rattle.bench.specs.Commands.{refusal as bench_refusal, answer_of}
use Rattle.requests.specs.declared.lines.Lack.{Lack}
use Rattle.requests.specs.declared.lines.Cannot.{Cannot}
use Rattle.cell.specs.declared.refusal.Refusal.{Refusal as CellRefusal}
use Rattle.delivery.specs.Entries.{reply_bytes}
use Rattle.desk.specs.declared.answer.Frame.{Frame}
use Rattle.desk.specs.declared.answer.Refusal.{Refusal}
use Rattle.desk.specs.declared.answer.Refusal.TheVariants as refusal
use Rattle.desk.specs.declared.answer.UnitAnswer.{UnitAnswer}
use Rattle.desk.specs.declared.answer.UnitAnswer.TheVariants as answer

pub data Said : Type 0 where
  done : Said
  -- the level of the IRQ pin
  pin : (is_low : Bool) → Said
  replied : List ℕ → Said
  -- how many ticks were taken, and what the last of them sent
  ticked : (taken : ℕ) → Option Frame → Said
  -- what is sent back to a frame that was heard, or is on the air after a carry
  heard : Option Frame → Said
  refused : UnitRefusal → Said
  refused_in_cell : CellRefusal → Said

abbrev pub said_of : Result UnitAnswer Refusal → Said
said_of (Ok answer.Done) = done
said_of (Ok (answer.Pin low)) = pin low
said_of (Ok (answer.Reply n buffer)) = replied (take n buffer)
said_of (Ok (answer.Ticks n frame)) = ticked n frame
said_of (Ok (answer.Heard frame)) = heard frame
said_of (Ok (answer.CellReply x)) = replied (reply_bytes x)
said_of (Err (refusal.Unit e)) = refused e
said_of (Err (refusal.Cell e)) = refused_in_cell e

-- r is what x says
abbrev pub Says : Result (Result UnitAnswer Refusal) Lack → Result Said Lack → Type 0
Says (Ok r) x = x ≡ Ok (said_of r)
Says (Err l) x = x ≡ Err l

-- the same where a line says nothing of a unit outside of a cell
abbrev pub SaysOr : Result (Result UnitAnswer Refusal) Cannot → Result Said Cannot → Type 0
SaysOr (Ok r) x = x ≡ Ok (said_of r)
SaysOr (Err e) x = x ≡ Err e

abbrev pub or_refused : Option UnitRefusal → Said → Said
or_refused None s = s
or_refused (Some e) s = refused e

abbrev pub result_said : Result Unit UnitRefusal → Said
result_said (Ok nothing) = done
result_said (Err e) = refused e

-- STATUS as before the command, and the answer; or a refusal
abbrev pub bench_reply : Registers → ℕ → List ℕ → Said
bench_reply f room bytes = or_refused (bench_refusal f room (ordered bytes)) (replied (at_rest.status ∷ answer_of f (ordered bytes)))
