-- Weakened cells. Each breaks a statement of the law, in a run in which the cell as it is keeps it: the steps are the cell's own, but with
-- a check that shows nothing, or with one unit changed after each.
use Rattle.std.specs.Prelude.{ℕ, ◌+◌, Bool, true, cond, List, [], ◌∷◌, ◌++◌, replicate, Some, None, Option, ◌==◌}
use Rattle.checks.specs.Crc.{crc8}
use Rattle.queue.specs.declared.queue.Queue.TheVariants.{Empty}
use Rattle.registers.specs.declared.register.Register.TheVariants.{Config, EnRxaddr, RxPwP0}
use Rattle.registers.specs.declared.held.Registers.{Registers}
use Rattle.registers.specs.File.{at_reset, written}
use Rattle.modes.specs.Modes.{counting, start_ticks, tuning_ticks, wait_ticks}
use Rattle.unit.specs.declared.state.State.{State}
use Rattle.unit.specs.Units.{retry_of, with_core, with_rx}
use Rattle.unit.specs.Boxing.{boxed, no_memories}
use Rattle.cell.specs.declared.parts.Inside.{Inside}
use Rattle.cell.specs.Making.{NewlyMade, OfBytesInside, made}
use Rattle.cell.specs.Calls.{unit_at, with_unit}
use Rattle.law.specs.Lists.{All}
use Rattle.law.specs.Runs.{Call, command, ce, tick, carry, outcome, after}
use Rattle.law.specs.Law.{History, nothing_yet, history_from, history}
use Rattle.law.specs.Law.{ReadsAWrite, InOrder, Accounted, OverBudget, Lawful, OfBytes}

-- ---- a newly made cell of two units, with the check of 8 bits

-- a receiver with pipe 0 alone, for payloads of one byte
abbrev pub of_receiver : Registers
of_receiver = written (written (written at_reset Config (0x09 ∷ [])) EnRxaddr (0x01 ∷ [])) RxPwP0 (1 ∷ [])

-- a sender: its ARC is 3
abbrev pub of_sender : Registers
of_sender = at_reset

abbrev pub pair : Inside
pair = made (boxed 8 of_receiver ∷ boxed 8 of_sender ∷ [])

-- ---- runs of it

abbrev pub host_configures : ℕ → ℕ → Call
host_configures u config = command u (0x20 ∷ config ∷ []) 1

abbrev pub host_writes : ℕ → Call
host_writes b = command 1 (0xA0 ∷ b ∷ []) 1

abbrev pub host_flushes : Call
host_flushes = command 1 (0xE1 ∷ []) 1

abbrev pub host_reads : Call
host_reads = command 0 (0x61 ∷ []) 2

abbrev pub lost : Call
lost = carry 0 0 0

abbrev pub heard : Call
heard = carry 1 0 0

-- the first bit of a payload changes: 8 bits of preamble, 40 of address and 9 of control stand before it
abbrev pub changed : Call
changed = carry 3 57 0x8000

-- PWR_UP is set and CE raised
abbrev pub powering : ℕ → ℕ → List Call
powering u config = host_configures u config ∷ replicate start_ticks (tick u) ++ (ce u true ∷ [])

-- a payload is written, a transaction begins, and a frame is sent
abbrev pub sending : ℕ → List Call
sending b = host_writes b ∷ replicate (1 + tuning_ticks) (tick 1)

-- no answer comes: a frame is sent again, or the sender gives up
abbrev pub waiting : List Call
waiting = replicate (wait_ticks (retry_of of_sender)) (tick 1)

-- the calls come once the receiver listens and the sender has sent 5A
abbrev pub once_sent : List Call → List Call
once_sent calls = powering 0 0x0B ++ (replicate tuning_ticks (tick 0) ++ (powering 1 0x0A ++ (sending 0x5A ++ calls)))

-- the payload is changed on its way, and comes as it was when it is sent again
abbrev pub frame_changed : List Call
frame_changed = once_sent (changed ∷ host_reads ∷ lost ∷ waiting ++ (heard ∷ host_reads ∷ []))

-- the answer is lost, so that the payload comes twice
abbrev pub answer_lost : List Call
answer_lost = once_sent (heard ∷ lost ∷ waiting ++ (heard ∷ host_reads ∷ host_reads ∷ []))

-- the payload comes, and its answer too
abbrev pub answer_heard : List Call
answer_heard = once_sent (heard ∷ heard ∷ [])

-- the next payload that is sent has the same packet identity, since three others were flushed
abbrev pub identity_again : List Call
identity_again =
    once_sent (heard ∷ heard ∷ host_writes 0x01 ∷ host_writes 0x02 ∷ host_writes 0x03 ∷ host_flushes ∷ sending 0x3C ++ (heard ∷ heard ∷ []))

-- each sending is lost
abbrev pub frames_lost : List Call
frames_lost = once_sent (lost ∷ waiting ++ (lost ∷ waiting ++ (lost ∷ waiting ++ (lost ∷ waiting))))

-- the law speaks of these runs
abbrev pub RunsOfTheLaw : Type 0
RunsOfTheLaw =
    NewlyMade 8 pair × OfBytesInside pair
    × All (All OfBytes) (frame_changed ∷ answer_lost ∷ answer_heard ∷ identity_again ∷ frames_lost ∷ [])

-- ---- what the law says of the pair

abbrev pub ReadsAreWrites : History → Type 0
ReadsAreWrites h = All (ReadsAWrite pair h.writes) h.receipts.reads

abbrev pub ReadsInOrder : History → Type 0
ReadsInOrder h = InOrder h.receipts.reads

-- this and the next by its one sender
abbrev pub SentMeansTaken : History → Type 0
SentMeansTaken h = All (Accounted crc8 pair h.writes) (h.counted 1)

abbrev pub NoGivingUpWithinTheRetryBudget : History → Type 0
NoGivingUpWithinTheRetryBudget h = All (OverBudget (retry_of of_sender).count) (h.trials.failed 1)

abbrev pub SaidByTheLaw : Type 0
SaidByTheLaw =
    (h : History) → Lawful crc8 pair h
    → ReadsAreWrites h × ReadsInOrder h × SentMeansTaken h × NoGivingUpWithinTheRetryBudget h

-- ---- weakened cells

-- a check that is the same for all bits, so that no change shows
abbrev pub blind : List Bool → ℕ
blind xs = 0

abbrev pub with_weakened_by : Option State → ℕ → (State → State) → Inside → Inside
with_weakened_by None u weaken c = c
with_weakened_by (Some s) u weaken c = with_unit c u (weaken s)

abbrev pub with_weakened : ℕ → (State → State) → Inside → Inside
with_weakened u weaken c = with_weakened_by (unit_at c u) u weaken c

-- the history of a run in which a unit is weakened after each step
abbrev pub weakened_history : ℕ → (State → State) → List Call → History
weakened_history u weaken calls = history_from (outcome 8 crc8) (λ c x. with_weakened u weaken (after 8 crc8 c x)) pair nothing_yet calls

-- a receiver that remembers nothing
abbrev pub forgetting : State → State
forgetting s = record {
  registers = s.registers;
  fault = s.fault;
  core = s.core;
  pid = s.pid;
  tx = s.tx;
  rx = s.rx;
  memories = no_memories;
}

-- a receiver that answers and keeps no payload
abbrev pub keeping_none : State → State
keeping_none s = with_rx s Empty

-- a sender that counts its retransmits from 1, and so makes one less
abbrev pub counting_from_1 : State → State
counting_from_1 s = with_core s (counting s.core (record {
  again = cond (s.core.counts.again == 0) 1 s.core.counts.again;
  lost = s.core.counts.lost;
}))

-- ---- what they break

-- the statement holds of the first history and not of the second
abbrev pub Tells : (History → Type 0) → History → History → Type 0
Tells Statement h weaker = Statement h × (Statement weaker → ⊥)

-- bytes are read that were never written
abbrev pub BlindReads : Type 0
BlindReads = Tells ReadsAreWrites (history 8 crc8 pair frame_changed) (history 8 blind pair frame_changed)

-- a payload is read twice
abbrev pub ForgettingReads : Type 0
ForgettingReads = Tells ReadsInOrder (history 8 crc8 pair answer_lost) (weakened_history 0 forgetting answer_lost)

-- a payload is counted as sent though nothing was taken at all
abbrev pub KeepingNoneAnswers : Type 0
KeepingNoneAnswers = Tells SentMeansTaken (history 8 crc8 pair answer_heard) (weakened_history 0 keeping_none answer_heard)

-- a payload is counted as sent that was mistaken for the last one taken, which has the same packet identity but another check by crc8
abbrev pub BlindAnswers : Type 0
BlindAnswers = Tells SentMeansTaken (history 8 crc8 pair identity_again) (history 8 blind pair identity_again)

-- the sender gives up after 3 spoiled exchanges in place of 4
abbrev pub CountingFrom1GivesUp : Type 0
CountingFrom1GivesUp =
    Tells NoGivingUpWithinTheRetryBudget (history 8 crc8 pair frames_lost) (weakened_history 1 counting_from_1 frames_lost)
