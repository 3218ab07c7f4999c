-- What the registers of a boxed unit settle, and parts of its state replaced.
use Rattle.std.specs.Prelude.{ℕ, ◌/◌, ◌%◌, Bool, cond, not, List, length, Some, None, Option, ◌==◌}
use Rattle.registers.specs.declared.register.Register.TheVariants.{SetupRetr, TxAddr}
use Rattle.registers.specs.declared.held.Registers.{Registers}
use Rattle.registers.specs.File.{value_of, byte_of}
use Rattle.commands.specs.declared.refusal.Refusal.{Refusal}
use Rattle.commands.specs.declared.refusal.Refusal.TheVariants.{Fault}
use Rattle.bench.specs.Checking.{is_receiver, in_use}
use Rattle.modes.specs.declared.parts.Core.{Core}
use Rattle.modes.specs.declared.parts.Role.{Role}
use Rattle.modes.specs.declared.parts.Role.TheVariants.{Sender, Receiver}
use Rattle.modes.specs.declared.parts.Retry.{Retry}
use Rattle.queue.specs.declared.queue.Queue.{Queue}
use Rattle.queue.specs.Entries.{entries}
use Rattle.unit.specs.declared.entry.Outgoing.{Outgoing}
use Rattle.unit.specs.declared.entry.Received.{Received}
use Rattle.unit.specs.declared.state.State.{State}

-- ---- what the registers settle

abbrev pub role_of : Registers → Role
role_of f = cond (is_receiver f) Receiver Sender

-- ARD and ARC
abbrev pub retry_of : Registers → Retry
retry_of f = record { delay = byte_of f SetupRetr / 16; count = byte_of f SetupRetr % 16 }

-- the address in use of a sender, low byte first
abbrev pub tx_address : Registers → List ℕ
tx_address f = in_use f (value_of f TxAddr)

-- ---- parts of the state replaced

abbrev pub with_core : State → Core → State
with_core s c = record { registers = s.registers; fault = s.fault; core = c; pid = s.pid; tx = s.tx; rx = s.rx; memories = s.memories }

abbrev pub with_tx : State → Queue Outgoing → State
with_tx s q = record { registers = s.registers; fault = s.fault; core = s.core; pid = s.pid; tx = q; rx = s.rx; memories = s.memories }

abbrev pub with_rx : State → Queue Received → State
with_rx s q = record { registers = s.registers; fault = s.fault; core = s.core; pid = s.pid; tx = s.tx; rx = q; memories = s.memories }

-- ---- refusals

-- a unit that was boxed with a fault refuses every call, before all else
abbrev pub fault_refusal : State → Option Refusal
fault_refusal s = elim s.fault [ None ↦ None | Some r ↦ Some (Fault r) ]

-- the first refusal, or else the second
abbrev pub or_else : Option Refusal → Option Refusal → Option Refusal
or_else None second = second
or_else (Some e) second = Some e

abbrev pub payload_waits : State → Bool
payload_waits s = not (length (entries s.tx) == 0)
