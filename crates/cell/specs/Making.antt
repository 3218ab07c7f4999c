-- Making a cell: which units fit together.
use Rattle.std.specs.Prelude.{◌≡◌, ℕ, suc, Bool, true, false, cond, not, ◌&&◌, ◌||◌, List, [], ◌∷◌, ◌++◌, map, length, drop, replicate, is_some, Some, None, Option, ◌==◌, nat_lt}
use Rattle.std.specs.List.{list_all}
use Rattle.queue.specs.Entries.{entries}
use Rattle.frames.specs.Calls.{pid_number}
use Rattle.registers.specs.declared.register.Register.TheVariants.{Config, SetupAw, RfCh, RfSetup}
use Rattle.registers.specs.declared.pipe.Pipe.{Pipe}
use Rattle.registers.specs.declared.held.Registers.{Registers}
use Rattle.registers.specs.Bits.{bit}
use Rattle.registers.specs.File.{byte_of}
use Rattle.registers.specs.Pipes.{index_of}
use Rattle.registers.specs.Readings.{width_of}
use Rattle.bench.specs.Checking.{is_receiver, fault_of}
use Rattle.modes.specs.declared.parts.Mode.{Mode}
use Rattle.modes.specs.declared.parts.Mode.TheVariants.{Shutdown, Starting, Standby, IdleTx, Tuning, Rx, Waiting}
use Rattle.commands.specs.declared.flags.Flags.{Flags}
use Rattle.frames.specs.Packet.{Bytes}
use Rattle.unit.specs.declared.state.State.{State}
use Rattle.unit.specs.declared.state.Boxed.{Boxed}
use Rattle.unit.specs.Units.{tx_address, with_core}
use Rattle.unit.specs.Commanding.{alike}
use Rattle.unit.specs.Hearing.{pipe_of, address_width}
use Rattle.unit.specs.Boxing.{boxed}
use Rattle.cell.specs.declared.parts.Inside.{Inside}
use Rattle.cell.specs.Calls.{unit_at}

-- ---- units as boxing without a fault gives them

-- CONFIG is as it was boxed, but for the interrupt masks: they can be written in the box too, and boxing with those masks gives that state
-- but for the CONFIG kept in the registers, where no call reads the masks
abbrev pub but_for_masks : ℕ → ℕ → Bool
but_for_masks boxed now = list_all (λ place. alike (bit place boxed) (bit place now)) (7 ∷ (3 ∷ (2 ∷ (1 ∷ (0 ∷ [])))))

abbrev pub with_config : ℕ → State → State
with_config v s = with_core s (record { ce = s.core.ce; mode = s.core.mode; config = v; flags = s.core.flags; counts = s.core.counts })

abbrev pub is_shutdown : Mode → Bool
is_shutdown Shutdown = true
is_shutdown (Starting left) = false
is_shutdown Standby = false
is_shutdown IdleTx = false
is_shutdown (Tuning left) = false
is_shutdown Rx = false
is_shutdown (Waiting left) = false

abbrev pub nothing_in : {X : Type 0} → List (Option X) → Bool
nothing_in [] = true
nothing_in (x ∷ xs) = not (is_some x) && nothing_in xs

abbrev pub no_flag : Flags → Bool
no_flag x = not x.rx_dr && (not x.tx_ds && not x.max_rt)

-- the unit is as boxing gives it, but for the masks; no call was made that left a trace
abbrev pub as_boxed : ℕ → State → Bool
as_boxed width s =
    not (is_some s.fault)
    && (not (is_some (fault_of width s.registers))
    && (not s.core.ce
    && (is_shutdown s.core.mode
    && (but_for_masks (byte_of s.registers Config) s.core.config
    && (no_flag s.core.flags
    && (s.core.counts.again == 0
    && (s.core.counts.lost == 0
    && (pid_number s.pid == 0
    && (length (entries s.tx) == 0
    && (length (entries s.rx) == 0 && nothing_in s.memories.at))))))))))

-- ---- units that are alike

-- equal address width, channel, rate and CRCO
abbrev pub tuned_alike : Registers → Registers → Bool
tuned_alike f g =
    (width_of (byte_of f SetupAw) == width_of (byte_of g SetupAw))
    && (byte_of f RfCh == byte_of g RfCh
    && (alike (bit 5 (byte_of f RfSetup)) (bit 5 (byte_of g RfSetup))
    && (alike (bit 3 (byte_of f RfSetup)) (bit 3 (byte_of g RfSetup)) && alike (bit 2 (byte_of f Config)) (bit 2 (byte_of g Config)))))

-- the receiver's pipe with the address of a sender
abbrev pub pipe_for : Registers → Registers → Option Pipe
pipe_for receiver sender = pipe_of receiver (tx_address sender)

abbrev pub same_pipe : Option Pipe → Option Pipe → Bool
same_pipe None q = false
same_pipe (Some p) None = false
same_pipe (Some p) (Some q) = index_of p == index_of q

-- one of these senders has the pipe
abbrev pub pipe_taken : Registers → List State → Option Pipe → Bool
pipe_taken receiver [] q = false
pipe_taken receiver (s ∷ ss) q = same_pipe (pipe_for receiver s.registers) q || pipe_taken receiver ss q

-- ---- the lowest unit at fault

abbrev pub receiver_fits : ℕ → State → Bool
receiver_fits width s = as_boxed width s && is_receiver s.registers

-- a sender, after some earlier ones
abbrev pub sender_fits : ℕ → Registers → List State → State → Bool
sender_fits width receiver earlier s =
    as_boxed width s
    && (not (is_receiver s.registers)
    && (tuned_alike receiver s.registers
    && (is_some (pipe_for receiver s.registers) && not (pipe_taken receiver earlier (pipe_for receiver s.registers)))))

-- the first sender at fault: one that does not fit, or a seventh
unfoldable pub sender_at_fault : ℕ → Registers → List State → List State → Option ℕ
sender_at_fault width receiver earlier [] = None
sender_at_fault width receiver earlier (s ∷ ss) =
    cond (nat_lt (length earlier) 6 && sender_fits width receiver earlier s) (sender_at_fault width receiver (earlier ++ (s ∷ [])) ss)
    (Some (suc (length earlier)))

-- without a sender it is unit 1
abbrev pub senders_at_fault : ℕ → Registers → List State → Option ℕ
senders_at_fault width receiver [] = Some 1
senders_at_fault width receiver (s ∷ ss) = sender_at_fault width receiver [] (s ∷ ss)

-- unit 0 is the receiver; without it, or where it does not fit, it is unit 0
abbrev pub unit_at_fault : ℕ → List State → Option ℕ
unit_at_fault width [] = Some 0
unit_at_fault width (r ∷ ss) = cond (receiver_fits width r) (senders_at_fault width r.registers ss) (Some 0)

-- ---- the cell that is made: the units in their order, and nothing on the air

abbrev pub places_of : List State → List (Option State)
places_of us = map Some us ++ drop (length us) (replicate 7 None)

abbrev pub made : List State → Inside
made us = record { places = record { at = places_of us }; air = None }

-- a newly made cell
abbrev pub NewlyMade : ℕ → Inside → Type 0
NewlyMade width c = (us : List State) × (unit_at_fault width us ≡ None) × (c ≡ made us)

-- ---- what the types of a unit's parts keep: the program has no other units, and the definitions leave it out

-- the address in use is of bytes below 256, as many as the width says, and there are six memories
abbrev pub OfBytesState : State → Type 0
OfBytesState s = Bytes (tx_address s.registers) × (length (tx_address s.registers) ≡ address_width s) × (length s.memories.at ≡ 6)

abbrev pub OfBytesInside : Inside → Type 0
OfBytesInside c = (u : ℕ) (s : State) → unit_at c u ≡ Some s → OfBytesState s

-- ---- boxed units by their states

abbrev pub states : {C : Type 0} → List (Boxed C) → List State
states us = map (λ u. u.state) us
