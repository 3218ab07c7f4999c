-- Host commands on a boxed unit.
use Rattle.std.specs.Prelude.{ℕ, ◌+◌, Bool, true, false, cond, not, ◌&&◌, ◌||◌, List, [], ◌∷◌, ◌++◌, length, drop, Some, None, Ok, Err, Option, Result, ◌==◌, nat_lt, slice_index}
use Rattle.std.specs.List.{list_all}
use Rattle.std.specs.Option.{option_map}
use Rattle.queue.specs.declared.queue.Queue.TheVariants.{Empty}
use Rattle.queue.specs.Entries.{entries, first, pushed, popped}
use Rattle.frames.specs.Calls.{next_pid}
use Rattle.registers.specs.declared.pipe.Pipe.{Pipe}
use Rattle.registers.specs.declared.register.Register.{Register}
use Rattle.registers.specs.Address.{address_of}
use Rattle.registers.specs.Bits.{bit}
use Rattle.registers.specs.Table.{is_read_only, takes}
use Rattle.commands.specs.declared.refusal.Refusal.{Refusal}
use Rattle.commands.specs.declared.refusal.Refusal.TheVariants.{NotForUnit, DataLength, NothingReceived, ReplyRoom, ReadOnly, Busy, NotAllowed, QueueFull}
use Rattle.commands.specs.Decode.{Order, read_register, write_register, write_payload, read_payload, flush_tx, flush_rx, nop, fits}
use Rattle.commands.specs.Refusals.{first_of, unless, kept_or}
use Rattle.commands.specs.Status.{cleared, status_of, observed, fifo_of}
use Rattle.bench.specs.declared.live.Live.{Live}
use Rattle.bench.specs.Live.{shown}
use Rattle.bench.specs.Checking.{is_receiver}
use Rattle.modes.specs.Modes.{busy, flagged, flushed, reconfigured}
use Rattle.unit.specs.declared.entry.Received.{Received}
use Rattle.unit.specs.declared.state.State.{State}
use Rattle.unit.specs.Entries.{data_bytes, data_of}
use Rattle.unit.specs.Units.{with_core, with_tx, with_rx, fault_refusal, or_else}

-- ---- what the registers read

abbrev pub receiver : State → Bool
receiver s = is_receiver s.registers

abbrev pub oldest_pipe : State → Option Pipe
oldest_pipe s = option_map (λ (x : Received). x.pipe) (first (entries s.rx))

abbrev pub tx_full : State → Bool
tx_full s = length (entries s.tx) == 3

abbrev pub status : State → ℕ
status s = status_of s.core.flags (oldest_pipe s) (tx_full s)

abbrev pub live_of : State → Live
live_of s = record {
  status = status s;
  observe_tx = observed s.core.counts.lost s.core.counts.again;
  fifo_status = fifo_of (length (entries s.tx)) (length (entries s.rx));
}

abbrev pub reads : State → Register → List ℕ
reads s r = cond (address_of r == 0x00) (s.core.config ∷ []) (shown (live_of s) s.registers r)

-- the bytes of the oldest received payload
abbrev pub received_bytes : Option Received → List ℕ
received_bytes None = []
received_bytes (Some x) = data_bytes x.data

-- what follows STATUS in the reply
abbrev pub answered : State → Order → List ℕ
answered s (read_register r d) = reads s r
answered s (write_register r d) = []
answered s (write_payload d) = []
answered s (read_payload d) = received_bytes (first (entries s.rx))
answered s (flush_tx d) = []
answered s (flush_rx d) = []
answered s (nop d) = []

-- ---- refusals

abbrev pub alike : Bool → Bool → Bool
alike true b = b
alike false b = not b

-- the bits of CONFIG that are fixed by boxing come as they stand: 7, 3, 2 and 0
abbrev pub as_it_stands : ℕ → ℕ → Bool
as_it_stands config v = list_all (λ place. alike (bit place config) (bit place v)) (7 ∷ (3 ∷ (2 ∷ (0 ∷ []))))

-- fixed by boxing is all but STATUS and four bits of CONFIG
abbrev pub fixed : State → Register → List ℕ → Bool
fixed s r d = cond (address_of r == 0x07) false (cond (address_of r == 0x00) (not (as_it_stands s.core.config (slice_index d 0))) true)

-- why a register does not take a value
abbrev pub value_refusals : State → Register → List ℕ → List (Bool × Refusal)
value_refusals s r d =
    (is_read_only r || fixed s r d, ReadOnly)
    ∷ ((busy s.core.mode && not (address_of r == 0x07), Busy) ∷ ((not (takes r d), NotAllowed r) ∷ []))

-- a sender reads no payload, and a receiver writes none
abbrev pub wrong_role : State → Order → Bool
wrong_role s (read_register r d) = false
wrong_role s (write_register r d) = false
wrong_role s (write_payload d) = receiver s
wrong_role s (read_payload d) = not (receiver s)
wrong_role s (flush_tx d) = receiver s
wrong_role s (flush_rx d) = not (receiver s)
wrong_role s (nop d) = false

-- the refusals of each command that this role takes, with as many data bytes as it takes
abbrev pub further_refusals : State → ℕ → Order → List (Bool × Refusal)
further_refusals s room (read_register r d) = (nat_lt room (1 + length (reads s r)), ReplyRoom) ∷ []
further_refusals s room (write_register r d) = (nat_lt room 1, ReplyRoom) ∷ value_refusals s r d
further_refusals s room (write_payload d) = (nat_lt room 1, ReplyRoom) ∷ ((tx_full s, QueueFull) ∷ [])
further_refusals s room (read_payload d) =
    ((length (entries s.rx) == 0), NothingReceived)
    ∷ ((nat_lt room (1 + length (received_bytes (first (entries s.rx)))), ReplyRoom) ∷ [])
further_refusals s room (flush_tx d) = (nat_lt room 1, ReplyRoom) ∷ []
further_refusals s room (flush_rx d) = (nat_lt room 1, ReplyRoom) ∷ []
further_refusals s room (nop d) = (nat_lt room 1, ReplyRoom) ∷ []

-- all refusals of a command, in their order
abbrev pub refusals : State → ℕ → Order → List (Bool × Refusal)
refusals s room o = (wrong_role s o, NotForUnit) ∷ ((not (fits o), DataLength) ∷ further_refusals s room o)

-- a fault first of all, then bytes that are no command, then the first that applies
abbrev pub order_refusal : State → ℕ → Result Order Refusal → Option Refusal
order_refusal s room (Err e) = Some e
order_refusal s room (Ok o) = first_of (refusals s room o)

abbrev pub refusal : State → ℕ → Result Order Refusal → Option Refusal
refusal s room o = or_else (fault_refusal s) (order_refusal s room o)

-- ---- what a command does that is not refused

-- a write reaches STATUS, where a 1 clears its flag, or CONFIG
abbrev pub written : State → Register → ℕ → State
written s r v =
    cond (address_of r == 0x07) (with_core s (flagged s.core (cleared s.core.flags v)))
    (with_core s (reconfigured v s.core))

-- the payload has the next packet identity
abbrev pub queued : State → List ℕ → State
queued s d = record {
  registers = s.registers;
  fault = s.fault;
  core = s.core;
  pid = next_pid s.pid;
  tx = pushed s.tx (record { pid = next_pid s.pid; «data» = data_of d });
  rx = s.rx;
  memories = s.memories;
}

abbrev pub done : State → Order → State
done s (read_register r d) = s
done s (write_register r d) = written s r (slice_index d 0)
done s (write_payload d) = queued s d
done s (read_payload d) = with_rx s (popped s.rx)
done s (flush_tx d) = with_tx (with_core s (flushed s.core)) Empty
done s (flush_rx d) = with_rx s Empty
done s (nop d) = s

-- ---- the whole call

abbrev pub done_by : State → Result Order Refusal → State
done_by s (Err e) = s
done_by s (Ok o) = done s o

abbrev pub answer_of : State → Result Order Refusal → List ℕ
answer_of s (Err e) = []
answer_of s (Ok o) = answered s o

abbrev pub command_answer : State → ℕ → Result Order Refusal → Result ℕ Refusal
command_answer s room o = unless (refusal s room o) (1 + length (answer_of s o))

abbrev pub command_after : State → ℕ → Result Order Refusal → State
command_after s room o = kept_or (refusal s room o) s (done_by s o)

-- STATUS as before the command, then the answer; later bytes stay
abbrev pub command_buffer : State → List ℕ → Result Order Refusal → List ℕ
command_buffer s buffer o =
    kept_or (refusal s (length buffer) o) buffer ((status s ∷ answer_of s o) ++ drop (1 + length (answer_of s o)) buffer)

-- ---- an order served by a unit without a fault

abbrev pub serve_answer : State → ℕ → Order → Result ℕ Refusal
serve_answer s room o = unless (first_of (refusals s room o)) (1 + length (answered s o))

abbrev pub serve_after : State → ℕ → Order → State
serve_after s room o = kept_or (first_of (refusals s room o)) s (done s o)

abbrev pub serve_buffer : State → List ℕ → Order → List ℕ
serve_buffer s buffer o =
    kept_or (first_of (refusals s (length buffer) o)) buffer ((status s ∷ answered s o) ++ drop (1 + length (answered s o)) buffer)

-- ---- the same, where role and number of data bytes are tested already

abbrev pub further_answer : State → ℕ → Order → Result ℕ Refusal
further_answer s room o = unless (first_of (further_refusals s room o)) (1 + length (answered s o))

abbrev pub further_after : State → ℕ → Order → State
further_after s room o = kept_or (first_of (further_refusals s room o)) s (done s o)

abbrev pub further_buffer : State → List ℕ → Order → List ℕ
further_buffer s buffer o =
    kept_or (first_of (further_refusals s (length buffer) o)) buffer
    ((status s ∷ answered s o) ++ drop (1 + length (answered s o)) buffer)
