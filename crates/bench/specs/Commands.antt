-- Host commands on a bench unit: the register commands and NOP.
use Rattle.std.specs.Prelude.{ℕ, ◌+◌, Bool, true, cond, not, List, [], ◌∷◌, ◌++◌, length, drop, Some, Ok, Err, Option, Result, ◌==◌, nat_lt}
use Rattle.registers.specs.declared.held.Registers.{Registers}
use Rattle.registers.specs.Address.{address_of}
use Rattle.registers.specs.Table.{is_read_only, takes}
use Rattle.registers.specs.File.{written}
use Rattle.commands.specs.declared.refusal.Refusal.{Refusal}
use Rattle.commands.specs.declared.refusal.Refusal.TheVariants.{NotForUnit, DataLength, ReplyRoom, ReadOnly, NotAllowed}
use Rattle.commands.specs.Decode.{Order, read_register, write_register, write_payload, read_payload, flush_tx, flush_rx, nop, fits}
use Rattle.bench.specs.Live.{at_rest, shown}
use Rattle.commands.specs.Refusals.{first_of, unless, kept_or}

-- what follows STATUS in the reply
abbrev pub answered : Registers → Order → List ℕ
answered f (read_register r d) = shown at_rest f r
answered f (write_register r d) = []
answered f (write_payload d) = []
answered f (read_payload d) = []
answered f (flush_tx d) = []
answered f (flush_rx d) = []
answered f (nop d) = []

-- the refusals of each command, in their order
abbrev pub refusals : Registers → ℕ → Order → List (Bool × Refusal)
refusals f room (read_register r d) =
    (not (fits (read_register r d)), DataLength) ∷ ((nat_lt room (1 + length (shown at_rest f r)), ReplyRoom) ∷ [])
refusals f room (write_register r d) =
    (not (fits (write_register r d)), DataLength)
    ∷ ((nat_lt room 1, ReplyRoom) ∷ ((is_read_only r, ReadOnly) ∷ ((not (takes r d), NotAllowed r) ∷ [])))
refusals f room (write_payload d) = (true, NotForUnit) ∷ []
refusals f room (read_payload d) = (true, NotForUnit) ∷ []
refusals f room (flush_tx d) = (true, NotForUnit) ∷ []
refusals f room (flush_rx d) = (true, NotForUnit) ∷ []
refusals f room (nop d) = (not (fits (nop d)), DataLength) ∷ ((nat_lt room 1, ReplyRoom) ∷ [])

-- the first that applies; bytes that are no command are refused before all
abbrev pub refusal : Registers → ℕ → Result Order Refusal → Option Refusal
refusal f room (Err e) = Some e
refusal f room (Ok o) = first_of (refusals f room o)

-- the registers after a command that is not refused; a write of STATUS clears flags, and there are none
abbrev pub stored : Registers → Order → Registers
stored f (read_register r d) = f
stored f (write_register r d) = cond (address_of r == 0x07) f (written f r d)
stored f (write_payload d) = f
stored f (read_payload d) = f
stored f (flush_tx d) = f
stored f (flush_rx d) = f
stored f (nop d) = f

-- ---- the whole call: its answer, the registers and the reply buffer

abbrev pub answer_of : Registers → Result Order Refusal → List ℕ
answer_of f (Err e) = []
answer_of f (Ok o) = answered f o

abbrev pub command_answer : Registers → ℕ → Result Order Refusal → Result ℕ Refusal
command_answer f room o = unless (refusal f room o) (1 + length (answer_of f o))

abbrev pub registers_after : Registers → ℕ → Result Order Refusal → Registers
registers_after f room (Err e) = f
registers_after f room (Ok o) = kept_or (first_of (refusals f room o)) f (stored f o)

-- STATUS as before the command, then the answer; later bytes stay
abbrev pub reply_after : Registers → List ℕ → Result Order Refusal → List ℕ
reply_after f buffer o =
    kept_or (refusal f (length buffer) o) buffer ((at_rest.status ∷ answer_of f o) ++ drop (1 + length (answer_of f o)) buffer)
