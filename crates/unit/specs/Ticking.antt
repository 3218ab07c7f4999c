-- A tick of a boxed unit, and the level of its CE pin.
use Rattle.std.specs.Prelude.{ℕ, Bool, false, cond, List, [], ◌∷◌, length, Some, None, Option, Result, nat_lt}
use Rattle.std.specs.Option.{option_map}
use Rattle.frames.specs.Packet.{Packet, frame_bits, buffer_after}
use Rattle.frames.specs.Calls.{pid_number}
use Rattle.queue.specs.Entries.{entries, first}
use Rattle.commands.specs.declared.refusal.Refusal.{Refusal}
use Rattle.commands.specs.declared.refusal.Refusal.TheVariants.{FrameBytes}
use Rattle.commands.specs.Refusals.{first_of, unless, kept_or}
use Rattle.modes.specs.Modes.{ticked, sends, uneventful, leveled}
use Rattle.unit.specs.declared.entry.Outgoing.{Outgoing}
use Rattle.unit.specs.declared.state.State.{State}
use Rattle.unit.specs.Entries.{data_bytes}
use Rattle.unit.specs.Units.{role_of, retry_of, tx_address, with_core, fault_refusal, or_else, payload_waits}

-- what the frame of an outgoing payload carries: an acknowledgement is always wanted
abbrev pub packet : State → Outgoing → Packet
packet s o = record {
  address = tx_address s.registers;
  pid = pid_number o.pid;
  no_ack = false;
  payload = data_bytes o.data;
}

abbrev pub oldest_packet : State → Option Packet
oldest_packet s = option_map (packet s) (first (entries s.tx))

-- the packet that a tick sends, if it sends one: that of the oldest payload
abbrev pub sent : State → Option Packet
sent s = cond (sends (role_of s.registers) (retry_of s.registers) s.core) (oldest_packet s) None

abbrev pub tick_state : State → State
tick_state s = with_core s (ticked (role_of s.registers) (retry_of s.registers) (payload_waits s) s.core)

-- the bits of a packet's frame; none for none
abbrev pub bits_of : ℕ → (List Bool → ℕ) → Option Packet → List Bool
bits_of w f None = []
bits_of w f (Some p) = frame_bits w f p

-- ---- the whole call, for a check of w bits that means f

abbrev pub tick_refusal : State → ℕ → Option Refusal
tick_refusal s room = or_else (fault_refusal s) (first_of ((nat_lt room 42, FrameBytes) ∷ []))

abbrev pub tick_answer : ℕ → (List Bool → ℕ) → State → ℕ → Result ℕ Refusal
tick_answer w f s room = unless (tick_refusal s room) (length (bits_of w f (sent s)))

abbrev pub tick_after : State → ℕ → State
tick_after s room = kept_or (tick_refusal s room) s (tick_state s)

abbrev pub tick_buffer : ℕ → (List Bool → ℕ) → State → List ℕ → List ℕ
tick_buffer w f s buffer = kept_or (tick_refusal s (length buffer)) buffer (buffer_after (bits_of w f (sent s)) buffer)

-- ---- a tick that only counts down, of a unit without a fault: it is not refused, and sends nothing

abbrev pub is_uneventful : State → Bool
is_uneventful s = elim s.fault [ None ↦ uneventful (payload_waits s) s.core | Some r ↦ false ]

-- ---- CE

abbrev pub ce_answer : State → Result Unit Refusal
ce_answer s = unless (fault_refusal s) tt

abbrev pub ce_after : Bool → State → State
ce_after level s = kept_or (fault_refusal s) s (with_core s (leveled (role_of s.registers) level s.core))
