-- Laws of a boxed unit, over the definitions that the contracts of its calls use.
use Rattle.std.specs.Prelude.{◌≡◌, ℕ, Bool, true, false, ◌⊎◌, List, ◌++◌, length, drop, Some, Ok, Err, Result, ◌≢◌}
use Rattle.frames.specs.Packet.{Packet}
use Rattle.queue.specs.Entries.{entries}
use Rattle.registers.specs.declared.pipe.Pipe.{Pipe}
use Rattle.commands.specs.declared.refusal.Refusal.{Refusal}
use Rattle.commands.specs.Decode.{Order, read_register, write_register, write_payload, read_payload, flush_tx, flush_rx, nop}
use Rattle.modes.specs.Modes.{is_waiting}
use Rattle.unit.specs.declared.entry.Outgoing.{Outgoing}
use Rattle.unit.specs.declared.state.State.{State}
use Rattle.unit.specs.Ticking.{tick_answer, tick_after, tick_buffer, ce_answer, ce_after}
use Rattle.unit.specs.Commanding.{command_answer, command_after, command_buffer}
use Rattle.unit.specs.Hearing.{recalled, pipe_of, hears, hear_answer, hear_after, hear_buffer}

-- ---- a refused call changes nothing, neither the unit nor a buffer

pub record RefusedChangesNothing (w : ℕ) (f : List Bool → ℕ) : Type 0 where
  pub command : (s : State) (buffer : List ℕ) (o : Result Order Refusal) (e : Refusal) → command_answer s (length buffer) o ≡ Err e
      → (command_after s (length buffer) o ≡ s) × (command_buffer s buffer o ≡ buffer)
  pub tick : (s : State) (buffer : List ℕ) (e : Refusal) → tick_answer w f s (length buffer) ≡ Err e
      → (tick_after s (length buffer) ≡ s) × (tick_buffer w f s buffer ≡ buffer)
  pub ce : (s : State) (level : Bool) (e : Refusal) → ce_answer s ≡ Err e → ce_after level s ≡ s
  pub hear : (s : State) (frame : List ℕ) (n : ℕ) (buffer : List ℕ) (e : Refusal) → hear_answer w f s frame n (length buffer) ≡ Err e
      → (hear_after w f s frame n (length buffer) ≡ s) × (hear_buffer w f s frame n buffer ≡ buffer)

-- ---- a frame changes at most the memory of its own pipe

abbrev pub OwnMemoryOnly : Type 0
OwnMemoryOnly =
    (s : State) (p : Packet) (check : ℕ) (q : Pipe) → (pipe_of s.registers p.address ≢ Some q)
    → recalled (hears s p check).state.memories q ≡ recalled s.memories q

-- ---- a payload leaves the TX queue only by acknowledgement or FLUSH_TX

-- all payloads that waited still wait, in front; others may have come behind them
abbrev pub StillWait : State → State → Type 0
StillWait before after = (new : List Outgoing) × (entries after.tx ≡ entries before.tx ++ new)

abbrev pub is_flush_tx : Result Order Refusal → Bool
is_flush_tx (Err e) = false
is_flush_tx (Ok (read_register r d)) = false
is_flush_tx (Ok (write_register r d)) = false
is_flush_tx (Ok (write_payload d)) = false
is_flush_tx (Ok (read_payload d)) = false
is_flush_tx (Ok (flush_tx d)) = true
is_flush_tx (Ok (flush_rx d)) = false
is_flush_tx (Ok (nop d)) = false

-- an acknowledgement is accepted in Waiting alone; it removes exactly the oldest payload
pub record Acknowledged (before after : State) : Type 0 where
  pub waited : is_waiting before.core.mode ≡ true
  pub oldest : entries after.tx ≡ drop 1 (entries before.tx)
  pub flag : after.core.flags.tx_ds ≡ true
  pub received : after.rx ≡ before.rx
  pub identity : after.pid ≡ before.pid

pub record LeavesOnlySo (w : ℕ) (f : List Bool → ℕ) : Type 0 where
  pub command : (s : State) (room : ℕ) (o : Result Order Refusal) → is_flush_tx o ≡ false → StillWait s (command_after s room o)
  pub tick : (s : State) (room : ℕ) → StillWait s (tick_after s room)
  pub ce : (s : State) (level : Bool) → StillWait s (ce_after level s)
  pub hear : (s : State) (frame : List ℕ) (n room : ℕ)
      → StillWait s (hear_after w f s frame n room) ⊎ Acknowledged s (hear_after w f s frame n room)
