-- What a boxed unit makes of a frame that reaches it.
use Rattle.std.specs.Prelude.{ℕ, ◌*◌, Bool, true, false, cond, not, ◌&&◌, List, [], ◌∷◌, length, take, Some, None, Option, Result, ◌==◌, nat_lt, slice_index_or, slice_set}
use Rattle.std.specs.List.{find}
use Rattle.std.specs.Str.{bytes_eq}
use Rattle.checks.specs.Bits.{bits}
use Rattle.frames.specs.Packet.{Packet, covered, buffer_after, reading}
use Rattle.queue.specs.Entries.{entries, pushed, popped}
use Rattle.registers.specs.declared.pipe.Pipe.{Pipe}
use Rattle.registers.specs.declared.pipe.Pipe.TheVariants.{P0}
use Rattle.registers.specs.declared.register.Register.TheVariants.{SetupAw}
use Rattle.registers.specs.declared.held.Registers.{Registers}
use Rattle.registers.specs.File.{byte_of}
use Rattle.registers.specs.Pipes.{index_of, pipes, width_register}
use Rattle.registers.specs.Readings.{width_of, pipe_address}
use Rattle.commands.specs.declared.refusal.Refusal.{Refusal}
use Rattle.commands.specs.declared.refusal.Refusal.TheVariants.{FrameBytes}
use Rattle.commands.specs.Refusals.{first_of, unless, kept_or}
use Rattle.bench.specs.Checking.{is_receiver, enabled, in_use}
use Rattle.modes.specs.Modes.{is_waiting, is_rx, acknowledged, flagged}
use Rattle.unit.specs.declared.entry.Data.{Data}
use Rattle.unit.specs.declared.memory.Memory.{Memory}
use Rattle.unit.specs.declared.memory.Memories.{Memories}
use Rattle.unit.specs.declared.state.State.{State}
use Rattle.unit.specs.Entries.{entry_of}
use Rattle.unit.specs.Units.{fault_refusal, or_else}
use Rattle.unit.specs.Ticking.{bits_of}

-- ---- the memories of the pipes

abbrev pub recalled : Memories → Pipe → Option Memory
recalled m q = slice_index_or m.at (index_of q) None

abbrev pub same_memory : Option Memory → Memory → Bool
same_memory None x = false
same_memory (Some y) x = y.pid == x.pid && y.check == x.check

-- one pipe remembers, the others keep what they have
abbrev pub remembered : Memories → Pipe → Memory → Memories
remembered m q x = record { at = slice_set m.at (index_of q) (Some x) }

-- ---- who listens on which address

abbrev pub on_pipe : Registers → List ℕ → Pipe → Bool
on_pipe f address q = enabled f q && bytes_eq (in_use f (pipe_address f q)) address

-- the first pipe of a receiver with this address
abbrev pub pipe_of : Registers → List ℕ → Option Pipe
pipe_of f a = find (on_pipe f a) pipes

-- ---- an outcome: the state afterwards, and the packet that is answered

pub record Outcome : Type 0 where
  pub state : State
  pub answer : Option Packet

abbrev pub dropped : State → Outcome
dropped s = record { state = s; answer = None }

-- a frame of that address, length 0, the same packet identity and NO_ACK 0; none where none is wanted
abbrev pub acknowledgement : Packet → Option Packet
acknowledgement p = cond p.no_ack None (Some (record { address = p.address; pid = p.pid; no_ack = false; payload = [] }))

abbrev pub answered : State → Packet → Outcome
answered s p = record { state = s; answer = acknowledgement p }

-- ---- a receiver

-- the payload is taken: it stands in the RX queue, RX_DR stands, and the pipe remembers
abbrev pub taken : State → Pipe → Data → Memory → State
taken s q d x = record {
  registers = s.registers;
  fault = s.fault;
  core = flagged s.core (record { rx_dr = true; tx_ds = s.core.flags.tx_ds; max_rt = s.core.flags.max_rt });
  pid = s.pid;
  tx = s.tx;
  rx = pushed s.rx (record { pipe = q; «data» = d });
  memories = remembered s.memories q x;
}

-- a payload that the pipe does not know yet; without a free place it is dropped, with no answer
abbrev pub fresh : State → Pipe → Packet → Memory → Option Data → Outcome
fresh s q p x None = dropped s
fresh s q p x (Some d) = cond (length (entries s.rx) == 3) (dropped s) (answered (taken s q d x) p)

-- a repeat is answered and not taken; this is asked before the free place
abbrev pub on_its_pipe : State → Packet → Memory → Option Pipe → Outcome
on_its_pipe s p x None = dropped s
on_its_pipe s p x (Some q) =
    cond (length p.payload == byte_of s.registers (width_register q))
    (cond (same_memory (recalled s.memories q) x) (answered s p) (fresh s q p x (entry_of p.payload))) (dropped s)

abbrev pub heard_by_receiver : State → Packet → ℕ → Outcome
heard_by_receiver s p check = on_its_pipe s p (record { pid = p.pid; check = check }) (pipe_of s.registers p.address)

-- ---- a sender

-- the oldest payload leaves the TX queue
abbrev pub delivered : State → State
delivered s = record {
  registers = s.registers;
  fault = s.fault;
  core = acknowledged (not (length (entries (popped s.tx)) == 0)) s.core;
  pid = s.pid;
  tx = popped s.tx;
  rx = s.rx;
  memories = s.memories;
}

-- length 0 to its own address is the acknowledgement
abbrev pub is_acknowledgement : State → Packet → Bool
is_acknowledgement s p = length p.payload == 0 && bytes_eq (in_use s.registers (pipe_address s.registers P0)) p.address

abbrev pub heard_by_sender : State → Packet → Outcome
heard_by_sender s p = cond (is_acknowledgement s p) (dropped (delivered s)) (dropped s)

-- ---- who listens when

-- a receiver in RX on its enabled pipes, a sender in Waiting on pipe 0
abbrev pub hears : State → Packet → ℕ → Outcome
hears s p check =
    cond (is_receiver s.registers)
    (cond (is_rx s.core.mode) (heard_by_receiver s p check) (dropped s))
    (cond (is_waiting s.core.mode) (heard_by_sender s p) (dropped s))

-- whether it listens at all
abbrev pub listens : State → Bool
listens s = cond (is_receiver s.registers) (is_rx s.core.mode) (is_waiting s.core.mode)

-- the width of addresses, in bytes
abbrev pub address_width : State → ℕ
address_width s = width_of (byte_of s.registers SetupAw)

-- a bit string is heard as the packet that it is read as, with its check; one that is read as nothing is dropped
abbrev pub heard_packet : (List Bool → ℕ) → State → Option Packet → Outcome
heard_packet f s None = dropped s
heard_packet f s (Some p) = hears s p (f (covered p))

abbrev pub heard_bits : ℕ → (List Bool → ℕ) → State → List Bool → Outcome
heard_bits w f s xs = heard_packet f s (reading w f (address_width s) xs)

-- ---- the whole call, for the first n bits of a frame's bytes

abbrev pub hear_refusal : State → List ℕ → ℕ → ℕ → Option Refusal
hear_refusal s frame n room =
    or_else (fault_refusal s) (first_of ((nat_lt room 42, FrameBytes) ∷ ((nat_lt (8 * length frame) n, FrameBytes) ∷ [])))

abbrev pub hear_answer : ℕ → (List Bool → ℕ) → State → List ℕ → ℕ → ℕ → Result ℕ Refusal
hear_answer w f s frame n room =
    unless (hear_refusal s frame n room) (length (bits_of w f (heard_bits w f s (take n (bits frame))).answer))

abbrev pub hear_after : ℕ → (List Bool → ℕ) → State → List ℕ → ℕ → ℕ → State
hear_after w f s frame n room = kept_or (hear_refusal s frame n room) s (heard_bits w f s (take n (bits frame))).state

abbrev pub hear_buffer : ℕ → (List Bool → ℕ) → State → List ℕ → ℕ → List ℕ → List ℕ
hear_buffer w f s frame n buffer =
    kept_or (hear_refusal s frame n (length buffer)) buffer
    (buffer_after (bits_of w f (heard_bits w f s (take n (bits frame))).answer) buffer)
