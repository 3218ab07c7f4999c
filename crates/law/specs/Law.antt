-- The law of every run of a cell: what an observer writes down while it runs, what the law says of these notes, and how they are taken.
--
-- The notes are taken from the cell before a call, the call, what it answered, and the cell after it. They say no step of the program again.
use Rattle.std.specs.Prelude.{◌≡◌, ℕ, suc, ◌+◌, ◌-◌, ◌/◌, ◌%◌, ◌<◌, ◌≤◌, Bool, true, false, cond, ◌&&◌, ◌||◌, ◌⊎◌, List, [], ◌∷◌, ◌++◌, length, drop, replicate, Some, None, Ok, Err, Option, Result, ◌==◌, nat_lt, slice_index}
use Rattle.std.specs.List.{slice_get}
use Rattle.queue.specs.Entries.{entries, first}
use Rattle.registers.specs.declared.pipe.Pipe.{Pipe}
use Rattle.registers.specs.File.{byte_of}
use Rattle.registers.specs.Pipes.{width_register, index_of}
use Rattle.commands.specs.declared.refusal.Refusal.{Refusal as UnitRefusal}
use Rattle.commands.specs.Decode.{Order, read_register, write_register, write_payload, read_payload, flush_tx, flush_rx, nop, ordered}
use Rattle.modes.specs.Modes.{is_waiting, is_rx}
use Rattle.unit.specs.declared.state.State.{State}
use Rattle.cell.specs.declared.air.Frame.{Frame}
use Rattle.cell.specs.declared.air.Fate.{Fate}
use Rattle.cell.specs.declared.air.Fate.TheVariants.{Lost, Heard, HeardTwice, Changed}
use Rattle.cell.specs.declared.parts.Inside.{Inside}
use Rattle.cell.specs.Air.{fate_of}
use Rattle.cell.specs.Making.{pipe_for, same_pipe, NewlyMade, OfBytesInside}
use Rattle.cell.specs.Calls.{unit_at}
use Rattle.law.specs.Runs.{Call, command, ce, tick, carry, Outcome, replied, done, refused, outcome, after}
use Rattle.std.specs.Option.{option_map}
use Rattle.frames.specs.Packet.{Packet, Bytes, covered}
use Rattle.unit.specs.Units.{tx_address, retry_of}
use Rattle.law.specs.Lists.{All, SomeOf, In}

-- ==== what is written down

-- One accepted write of a payload: by which sender, and how many it had written before. Equal bytes written twice are two payloads.
pub record Payload : Type 0 where
  pub sender : ℕ
  pub number : ℕ

-- The receiver answered a frame sent with this payload; the last payload taken on its pipe by then, if any was.
pub record Answering : Type 0 where
  pub payload : Payload
  pub latest : Option Payload

-- A sender accepted an acknowledgement, with this payload as its oldest; what the receiver had taken and answered before.
pub record Counting : Type 0 where
  pub payload : Option Payload
  pub taken : List Payload
  pub answered : List Answering

-- An accepted read: the oldest payload taken that no read or FLUSH_RX removed before; the pipe in the reply's own STATUS, and the bytes
-- that follow it in the reply.
pub record Read : Type 0 where
  pub payload : Option Payload
  pub pipe : ℕ
  pub bytes : List ℕ

-- One sending of a payload and its answer. Spoiled: the frame or its answer was lost or changed. Ready: if the frame was carried, the
-- receiver was listening just before, with a free place, and the pipe accepts the payload's length.
pub record Exchange : Type 0 where
  pub spoiled : Bool
  pub ready : Bool

-- By sender: the bytes of its accepted writes, in their order; and how many of them were counted as sent or flushed, which are its
-- first ones, since a count removes the oldest and a flush removes all.
pub record Writes : Type 0 where
  pub written : ℕ → List (List ℕ)
  pub gone : ℕ → ℕ

pub record Receipts : Type 0 where
  -- the payloads that the receiver took, the newest first
  pub taken : List Payload
  -- those of them that no read or FLUSH_RX removed, the oldest first
  pub unread : List Payload
  -- the newest first
  pub answered : List Answering
  -- the newest first
  pub reads : List Read

-- By sender: the exchanges of the transaction under way, the newest first; and those of each transaction that ended by MAX_RT.
pub record Trials : Type 0 where
  pub exchanges : ℕ → List Exchange
  pub failed : ℕ → List (List Exchange)

pub record History : Type 0 where
  pub writes : Writes
  -- the payload that the frame on the air was sent with, or that the answer on the air answers
  pub aired : Option Payload
  pub receipts : Receipts
  -- by sender, the newest first
  pub counted : ℕ → List Counting
  pub trials : Trials

abbrev pub nothing_yet : History
nothing_yet = record {
  writes = record { written = λ k. []; gone = λ k. 0 };
  aired = None;
  receipts = record { taken = []; unread = []; answered = []; reads = [] };
  counted = λ k. [];
  trials = record { exchanges = λ k. []; failed = λ k. [] };
}

-- ---- what the notes say

-- a function with another value at one place
abbrev pub at : {X : Type 0} → ℕ → X → (ℕ → X) → ℕ → X
at k x g j = cond (j == k) x (g j)

-- a sender's oldest payload: its first write that is neither counted as sent nor flushed
abbrev pub oldest : Writes → ℕ → Option Payload
oldest x k = cond (nat_lt (x.gone k) (length (x.written k))) (Some (record { sender = k; number = x.gone k })) None

-- the bytes of a payload
abbrev pub bytes_of : Writes → Payload → Option (List ℕ)
bytes_of x p = slice_get (x.written p.sender) p.number

abbrev pub pipe_between : Option State → Option State → Option Pipe
pipe_between None s = None
pipe_between (Some r) None = None
pipe_between (Some r) (Some s) = pipe_for r.registers s.registers

-- the receiver's pipe with the address of a sender
abbrev pub pipe_of_sender : Inside → ℕ → Option Pipe
pipe_of_sender c k = pipe_between (unit_at c 0) (unit_at c k)

-- the last payload taken on the pipe of a sender
unfoldable pub latest : Inside → ℕ → List Payload → Option Payload
latest c k [] = None
latest c k (p ∷ ps) = cond (same_pipe (pipe_of_sender c p.sender) (pipe_of_sender c k)) (Some p) (latest c k ps)

-- how many payloads stand in the RX queue of a unit; 0 where there is no unit
abbrev pub rx_length : Option State → ℕ
rx_length None = 0
rx_length (Some s) = length (entries s.rx)

abbrev pub tx_length : Option State → ℕ
tx_length None = 0
tx_length (Some s) = length (entries s.tx)

abbrev pub waits : Option State → Bool
waits None = false
waits (Some s) = is_waiting s.core.mode

-- the pipe accepts a payload of these bytes
abbrev pub accepts : State → Option Pipe → Option (List ℕ) → Bool
accepts r None b = false
accepts r (Some q) None = false
accepts r (Some q) (Some b) = length b == byte_of r.registers (width_register q)

-- the receiver listens, has a free place, and the payload's pipe accepts its length
abbrev pub ready_by : Option State → Option Pipe → Option (List ℕ) → Bool
ready_by None q b = false
ready_by (Some r) q b = is_rx r.core.mode && (nat_lt (length (entries r.rx)) 3 && accepts r q b)

abbrev pub ready : Inside → Writes → Payload → Bool
ready c x p = ready_by (unit_at c 0) (pipe_of_sender c p.sender) (bytes_of x p)

abbrev pub spoils : Fate → Bool
spoils Lost = true
spoils Heard = false
spoils HeardTwice = false
spoils (Changed start pattern) = true

-- ==== what the law says

-- ---- reads are writes, in order

-- the payload belongs to the sender on that pipe, and the bytes answered are the bytes of that write
pub record ReadsAWrite (c : Inside) (x : Writes) (r : Read) : Type 0 where
  pub payload : Payload
  pub named : r.payload ≡ Some payload
  pub pipe : option_map index_of (pipe_of_sender c payload.sender) ≡ Some r.pipe
  pub bytes : bytes_of x payload ≡ Some r.bytes

-- of two reads on one pipe the later one has the payload with the higher number
abbrev pub Later : Read → Read → Type 0
Later r q = (p o : Payload) → r.payload ≡ Some p → q.payload ≡ Some o → q.pipe ≡ r.pipe → o.number < p.number

abbrev pub InOrder : List Read → Type 0
InOrder [] = Unit {0}
InOrder (r ∷ rs) = All (Later r) rs × InOrder rs

-- ---- sent means taken

-- the packet identity of a payload: the first write has 1, and each later one 1 more, modulo 4
abbrev pub pid_of : Payload → ℕ
pid_of p = (p.number + 1) % 4

abbrev pub packet_by : Option State → Option (List ℕ) → ℕ → Option Packet
packet_by None b pid = None
packet_by (Some s) None pid = None
packet_by (Some s) (Some b) pid = Some (record { address = tx_address s.registers; pid = pid; no_ack = false; payload = b })

-- what the frames of a payload carry
abbrev pub packet_for : Inside → Writes → Payload → Option Packet
packet_for c x p = packet_by (unit_at c p.sender) (bytes_of x p) (pid_of p)

-- the check of its frames
abbrev pub check_of : (List Bool → ℕ) → Inside → Writes → Payload → Option ℕ
check_of f c x p = option_map (λ packet. f (covered packet)) (packet_for c x p)

-- the payload was answered while another one was the last taken on its pipe, with the same packet identity and the same check
pub record Mistaken (f : List Bool → ℕ) (c : Inside) (x : Writes) (p : Payload) (a : Answering) : Type 0 where
  pub of_it : a.payload ≡ p
  pub last : Payload
  pub was_last : a.latest ≡ Some last
  pub another : last ≡ p → ⊥
  pub same_pid : pid_of last ≡ pid_of p
  pub check : ℕ
  pub its_check : check_of f c x p ≡ Some check
  pub same_check : check_of f c x last ≡ Some check

-- the payload had been taken before, or mistaken for the last one taken
pub record Accounted (f : List Bool → ℕ) (c : Inside) (x : Writes) (n : Counting) : Type 0 where
  pub payload : Payload
  pub named : n.payload ≡ Some payload
  pub taken : In payload n.taken ⊎ SomeOf (Mistaken f c x payload) n.answered

-- ---- no giving up within the retry budget

abbrev pub one_if : Bool → ℕ
one_if true = 1
one_if false = 0

abbrev pub spoiled_count : List Exchange → ℕ
spoiled_count [] = 0
spoiled_count (x ∷ xs) = one_if x.spoiled + spoiled_count xs

-- where the receiver was ready at each carry of the payload, more than ARC exchanges were spoiled
abbrev pub OverBudget : ℕ → List Exchange → Type 0
OverBudget arc xs = All (λ x. x.ready ≡ true) xs → arc < spoiled_count xs

-- ---- all three
pub record Lawful (f : List Bool → ℕ) (c : Inside) (h : History) : Type 0 where
  pub reads_are_writes : All (ReadsAWrite c h.writes) h.receipts.reads
  pub in_order : InOrder h.receipts.reads
  pub sent_means_taken : (k : ℕ) → All (Accounted f c h.writes) (h.counted k)
  pub no_giving_up_within_the_retry_budget : (k : ℕ) (s : State) → 1 ≤ k → unit_at c k ≡ Some s
      → All (OverBudget (retry_of s.registers).count) (h.trials.failed k)

-- ==== how it is written down

-- ---- commands

abbrev pub wrote : ℕ → List ℕ → History → History
wrote k d h = record {
  writes = record { written = at k (h.writes.written k ++ (d ∷ [])) h.writes.written; gone = h.writes.gone };
  aired = h.aired;
  receipts = h.receipts;
  counted = h.counted;
  trials = h.trials;
}

-- all that waited is gone, and the transaction under way ends
abbrev pub flushed : ℕ → History → History
flushed k h = record {
  writes = record { written = h.writes.written; gone = at k (length (h.writes.written k)) h.writes.gone };
  aired = h.aired;
  receipts = h.receipts;
  counted = h.counted;
  trials = record { exchanges = at k [] h.trials.exchanges; failed = h.trials.failed };
}

abbrev pub with_receipts : Receipts → History → History
with_receipts x h = record { writes = h.writes; aired = h.aired; receipts = x; counted = h.counted; trials = h.trials }

-- the pipe in bits 3 to 1 of a STATUS byte
abbrev pub status_pipe : ℕ → ℕ
status_pipe b = (b / 2) % 8

abbrev pub was_read : List ℕ → History → History
was_read reply h = with_receipts (record {
  taken = h.receipts.taken;
  unread = drop 1 h.receipts.unread;
  answered = h.receipts.answered;
  reads = record { payload = first h.receipts.unread; pipe = status_pipe (slice_index reply 0); bytes = drop 1 reply } ∷ h.receipts.reads;
}) h

abbrev pub unread_flushed : History → History
unread_flushed h = with_receipts (record {
  taken = h.receipts.taken;
  unread = [];
  answered = h.receipts.answered;
  reads = h.receipts.reads;
}) h

-- an accepted command at a unit, with its reply; only the receiver accepts reads and FLUSH_RX, only a sender writes and FLUSH_TX
abbrev pub note_order : Result Order UnitRefusal → ℕ → List ℕ → History → History
note_order (Err e) u reply h = h
note_order (Ok (read_register r d)) u reply h = h
note_order (Ok (write_register r d)) u reply h = h
note_order (Ok (write_payload d)) u reply h = wrote u d h
note_order (Ok (read_payload d)) u reply h = was_read reply h
note_order (Ok (flush_tx d)) u reply h = flushed u h
note_order (Ok (flush_rx d)) u reply h = unread_flushed h
note_order (Ok (nop d)) u reply h = h

-- ---- ticks

abbrev pub begun : Exchange
begun = record { spoiled = false; ready = true }

-- a frame was sent with the sender's oldest payload: an exchange begins
abbrev pub was_sent : ℕ → History → History
was_sent k h = record {
  writes = h.writes;
  aired = oldest h.writes k;
  receipts = h.receipts;
  counted = h.counted;
  trials = record { exchanges = at k (begun ∷ h.trials.exchanges k) h.trials.exchanges; failed = h.trials.failed };
}

-- a transaction ended by MAX_RT
abbrev pub gave_up : ℕ → History → History
gave_up k h = record {
  writes = h.writes;
  aired = h.aired;
  receipts = h.receipts;
  counted = h.counted;
  trials = record { exchanges = at k [] h.trials.exchanges; failed = at k (h.trials.exchanges k ∷ h.trials.failed k) h.trials.failed };
}

abbrev pub note_sending : Option Frame → Option Frame → ℕ → History → History
note_sending None None k h = h
note_sending None (Some x) k h = was_sent k h
note_sending (Some y) a k h = h

-- a tick ends a transaction by MAX_RT where the unit waited before it and no longer does
abbrev pub note_giving_up : Bool → Bool → ℕ → History → History
note_giving_up false after k h = h
note_giving_up true false k h = gave_up k h
note_giving_up true true k h = h

abbrev pub note_tick : Inside → ℕ → Inside → History → History
note_tick s u t h = note_giving_up (waits (unit_at s u)) (waits (unit_at t u)) u (note_sending s.air t.air u h)

-- ---- carries

-- the carry of a frame or an answer touches the newest exchange
abbrev pub touched : Bool → Bool → List Exchange → List Exchange
touched bad free [] = []
touched bad free (x ∷ xs) = record { spoiled = x.spoiled || bad; ready = x.ready && free } ∷ xs

abbrev pub touching : ℕ → Bool → Bool → History → History
touching k bad free h = record {
  writes = h.writes;
  aired = h.aired;
  receipts = h.receipts;
  counted = h.counted;
  trials = record { exchanges = at k (touched bad free (h.trials.exchanges k)) h.trials.exchanges; failed = h.trials.failed };
}

-- the receiver took the payload, as often as its queue grew
abbrev pub taking : ℕ → Payload → History → History
taking n p h = with_receipts (record {
  taken = replicate n p ++ h.receipts.taken;
  unread = h.receipts.unread ++ replicate n p;
  answered = h.receipts.answered;
  reads = h.receipts.reads;
}) h

-- the receiver answered it, if a frame is on the air then
abbrev pub answering : Inside → Option Frame → Payload → History → History
answering c None p h = h
answering c (Some y) p h = with_receipts (record {
  taken = h.receipts.taken;
  unread = h.receipts.unread;
  answered = record { payload = p; latest = latest c p.sender h.receipts.taken } ∷ h.receipts.answered;
  reads = h.receipts.reads;
}) h

-- the carry of a frame that was sent with a payload, or of the answer to it, which unit 0 sent
abbrev pub note_frame : Bool → Fate → Inside → Inside → Payload → History → History
note_frame true fate s t p h = touching p.sender (spoils fate) true h
note_frame false fate s t p h =
    answering s t.air p
    (taking (rx_length (unit_at t 0) - rx_length (unit_at s 0)) p (touching p.sender (spoils fate) (ready s h.writes p) h))

abbrev pub note_aired : Option Payload → Bool → Fate → Inside → Inside → History → History
note_aired None answer fate s t h = h
note_aired (Some p) answer fate s t h = note_frame answer fate s t p h

-- each sender whose queue shrank accepted an acknowledgement of its oldest payload, which ends the transaction
abbrev pub shrank : Inside → Inside → ℕ → Bool
shrank s t k = nat_lt (tx_length (unit_at t k)) (tx_length (unit_at s k))

abbrev pub note_counting : Inside → Inside → History → History
note_counting s t h = record {
  writes = record { written = h.writes.written; gone = λ k. cond (shrank s t k) (suc (h.writes.gone k)) (h.writes.gone k) };
  aired = h.aired;
  receipts = h.receipts;
  counted = λ k. cond (shrank s t k)
      (record { payload = oldest h.writes k; taken = h.receipts.taken; answered = h.receipts.answered } ∷ h.counted k) (h.counted k);
  trials = record { exchanges = λ k. cond (shrank s t k) [] (h.trials.exchanges k); failed = h.trials.failed };
}

abbrev pub note_fate : Option Fate → Option Frame → Inside → Inside → History → History
note_fate None a s t h = h
note_fate (Some fate) None s t h = h
note_fate (Some fate) (Some x) s t h = note_aired h.aired (x.from == 0) fate s t (note_counting s t h)

-- ---- a call, and a list of calls

abbrev pub note : History → Inside → Call → Outcome → Inside → History
note h s x (refused e) t = h
note h s (command u host room) done t = h
note h s (command u host room) (replied reply) t = note_order (ordered host) u reply h
note h s (ce u level) done t = h
note h s (ce u level) (replied reply) t = h
note h s (tick u) done t = note_tick s u t h
note h s (tick u) (replied reply) t = h
note h s (carry number start pattern) done t = note_fate (fate_of number start pattern) s.air s t h
note h s (carry number start pattern) (replied reply) t = h

-- the history of a run that starts at a cell, with a history already written down: by what calls answer and where they lead
unfoldable pub history_from : (Inside → Call → Outcome) → (Inside → Call → Inside) → Inside → History → List Call → History
history_from answers leads c h [] = h
history_from answers leads c h (x ∷ xs) = history_from answers leads (leads c x) (note h c x (answers c x) (leads c x)) xs

-- the history of a run of a cell with a check of w bits that means f
abbrev pub history : ℕ → (List Bool → ℕ) → Inside → List Call → History
history w f c calls = history_from (outcome w f) (after w f) c nothing_yet calls

-- ==== the law

-- bytes of the host are below 256, as their type has it
abbrev pub OfBytes : Call → Type 0
OfBytes (command u host room) = Bytes host
OfBytes (ce u level) = Unit {0}
OfBytes (tick u) = Unit {0}
OfBytes (carry fate start pattern) = Unit {0}

abbrev pub EveryRunIsLawful : ℕ → (List Bool → ℕ) → Type 0
EveryRunIsLawful w f =
    (c : Inside) → NewlyMade w c → OfBytesInside c → (calls : List Call) → All OfBytes calls → Lawful f c (history w f c calls)
