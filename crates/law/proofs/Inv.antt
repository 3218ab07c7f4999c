-- What every call keeps: the cell against what was written down of it.
use Rattle.std.proofs.Common.{◌≡◌, ℕ, zero, suc, ◌+◌, ◌%◌, ◌<◌, ◌≤◌, Bool, true, false, cond, eqb, ◌⊎◌, List, [], ◌∷◌, length, drop, Some, None, Option}
use Rattle.std.specs.List.{slice_get}
use Rattle.frames.specs.Packet.{Packet, Bytes, covered, frame_bits}
use Rattle.frames.specs.declared.fields.Pid.{Pid}
use Rattle.frames.specs.declared.fields.Pid.TheVariants.{Zero}
use Rattle.frames.specs.Calls.{next_pid}
use Rattle.queue.specs.Entries.{entries}
use Rattle.registers.specs.declared.pipe.Pipe.{Pipe}
use Rattle.modes.specs.declared.parts.Mode.{Mode}
use Rattle.modes.specs.declared.parts.Mode.TheVariants.{Shutdown, Starting, Standby, IdleTx, Tuning, Rx, Waiting}
use Rattle.modes.specs.Modes.{is_waiting}
use Rattle.unit.specs.declared.entry.Outgoing.{Outgoing}
use Rattle.unit.specs.declared.entry.Received.{Received}
use Rattle.unit.specs.declared.memory.Memory.{Memory}
use Rattle.unit.specs.declared.state.State.{State}
use Rattle.unit.specs.Entries.{data_of}
use Rattle.unit.specs.Units.{tx_address, retry_of}
use Rattle.unit.specs.Hearing.{recalled}
use Rattle.cell.specs.declared.air.Frame.{Frame}
use Rattle.cell.specs.declared.parts.Inside.{Inside}
use Rattle.cell.specs.Air.{frame_of}
use Rattle.cell.specs.Calls.{unit_at}
use Rattle.law.specs.Lists.{All, SomeOf, In}
use Rattle.law.specs.Law.{Payload, Answering, Read, Exchange, Writes, Receipts, Trials, History, pipe_of_sender, with_receipts}
use Rattle.law.specs.Law.{Mistaken, ReadsAWrite, InOrder, OverBudget, Lawful}
use Rattle.law.proofs.Terms.{AllLike}

-- ---- a sender's queue is the tail of what it wrote

-- the packet identity of the payload written n-th, counted from 1
unfoldable pub pid_at : ℕ → Pid
pid_at zero = Zero
pid_at (suc n) = next_pid (pid_at n)

-- what waits of some writes, the first of them the write number n, counted from 0
unfoldable pub numbered : ℕ → List (List ℕ) → List Outgoing
numbered n [] = []
numbered n (d ∷ ds) = record { pid = pid_at (suc n); «data» = data_of d } ∷ numbered (suc n) ds

-- a payload that can be written
pub record Sendable (d : List ℕ) : Type 0 where
  pub some : 1 ≤ length d
  pub few : length d ≤ 32
  pub bytes : Bytes d

-- a transaction is under way
abbrev pub trying : Mode → Bool
trying Shutdown = false
trying (Starting left) = false
trying Standby = false
trying IdleTx = false
trying (Tuning left) = true
trying Rx = false
trying (Waiting left) = true

pub record SenderOk (s : State) (written : List (List ℕ)) (gone : ℕ) : Type 0 where
  pub within : gone ≤ length written
  pub pid : s.pid ≡ pid_at (length written)
  pub tail : entries s.tx ≡ numbered gone (drop gone written)
  pub busy : trying s.core.mode ≡ true → gone < length written
  pub sendable : All Sendable written

-- ---- the exchanges of a transaction

-- it can no longer lead to an acknowledgement, and that is accounted for
abbrev pub Failed : Exchange → Type 0
Failed x = (x.spoiled ≡ true) ⊎ (x.ready ≡ false)

-- the frame on the air, or the answer there, is of this sender
abbrev pub Pending : Option Frame → Option Payload → ℕ → Type 0
Pending None p k = ⊥
Pending (Some x) None k = ⊥
Pending (Some x) (Some p) k = p.sender ≡ k

pub record WaitsOk (again arc : ℕ) (xs : List Exchange) (pending : Type 0) : Type 0 where
  pub count : length xs ≡ suc again
  pub budget : again ≤ arc
  pub earlier : All Failed (drop 1 xs)
  pub newest : pending ⊎ All Failed xs

abbrev pub TriesOk : Mode → ℕ → ℕ → List Exchange → Type 0 → Type 0
TriesOk Shutdown again arc xs pending = xs ≡ []
TriesOk (Starting left) again arc xs pending = xs ≡ []
TriesOk Standby again arc xs pending = xs ≡ []
TriesOk IdleTx again arc xs pending = xs ≡ []
TriesOk (Tuning left) again arc xs pending = (xs ≡ []) × (again ≡ 0)
TriesOk Rx again arc xs pending = xs ≡ []
TriesOk (Waiting left) again arc xs pending = WaitsOk again arc xs pending

-- ---- the receiver's queue holds what is unread

-- the last payload of a sender that was taken
unfoldable pub last_number : ℕ → List Payload → Option ℕ
last_number k [] = None
last_number k (p ∷ ps) = cond (eqb p.sender k) (Some p.number) (last_number k ps)

-- an entry of the receiver's queue is this payload, on the pipe of its sender
pub record EntryOk (c : Inside) (x : Writes) (e : Received) (p : Payload) : Type 0 where
  pub pipe : pipe_of_sender c p.sender ≡ Some e.pipe
  pub bytes : List ℕ
  pub written : slice_get (x.written p.sender) p.number ≡ Some bytes
  pub held : e.data ≡ data_of bytes
  pub sendable : Sendable bytes

abbrev pub EntriesOk : Inside → Writes → List Received → List Payload → Type 0
EntriesOk c x [] [] = Unit {0}
EntriesOk c x [] (p ∷ ps) = ⊥
EntriesOk c x (e ∷ es) [] = ⊥
EntriesOk c x (e ∷ es) (p ∷ ps) = EntryOk c x e p × EntriesOk c x es ps

-- ---- the order of what was taken, waits to be read, and was read

-- a payload no newer than the last one taken of its sender
abbrev pub TakenByNow : List Payload → Payload → Type 0
TakenByNow taken p = (m : ℕ) × (last_number p.sender taken ≡ Some m) × (p.number ≤ m)

abbrev pub ReadByNow : List Payload → Read → Type 0
ReadByNow taken r = (p : Payload) → r.payload ≡ Some p → TakenByNow taken p

abbrev pub Before : Payload → Payload → Type 0
Before o p = o.sender ≡ p.sender → o.number < p.number

abbrev pub Rising : List Payload → Type 0
Rising [] = Unit {0}
Rising (p ∷ ps) = All (Before p) ps × Rising ps

abbrev pub ReadBefore : Payload → Read → Type 0
ReadBefore p r = (o : Payload) → r.payload ≡ Some o → Before o p

pub record OrderOk (taken unread : List Payload) (reads : List Read) : Type 0 where
  pub unread_taken : All (TakenByNow taken) unread
  pub reads_taken : All (ReadByNow taken) reads
  pub rising : Rising unread
  pub reads_first : All (λ p. All (ReadBefore p) reads) unread

-- ---- what was taken

-- it is of a sender of the cell, which wrote it, and which has nothing older waiting
pub record TakenOk (c : Inside) (x : Writes) (p : Payload) : Type 0 where
  pub sender : 1 ≤ p.sender
  pub unit : State
  pub there : unit_at c p.sender ≡ Some unit
  pub gone : p.number ≤ x.gone p.sender
  pub bytes : List ℕ
  pub written : slice_get (x.written p.sender) p.number ≡ Some bytes

-- ---- memories

-- what the frames of a payload carry
abbrev pub packet_with : State → ℕ → List ℕ → Packet
packet_with a n d = record { address = tx_address a.registers; pid = (n + 1) % 4; no_ack = false; payload = d }

module _ (f : List Bool → ℕ) where
  abbrev pub memory_with : State → ℕ → List ℕ → Memory
  memory_with a n d = record { pid = (n + 1) % 4; check = f (covered (packet_with a n d)) }

  -- a pipe remembers the last payload taken of its sender
  abbrev pub MemoryOk : State → List (List ℕ) → Option ℕ → Option Memory → Type 0
  MemoryOk a written None m = m ≡ None
  MemoryOk a written (Some n) m = (d : List ℕ) × (slice_get written n ≡ Some d) × (m ≡ Some (memory_with a n d))

-- ---- the frame on the air

-- the last payload taken of this sender was not written after it
abbrev pub Settled : Option ℕ → ℕ → Type 0
Settled None n = Unit {0}
Settled (Some m) n = m ≤ n

abbrev pub acknowledging : Packet → Packet
acknowledging p = record { address = p.address; pid = p.pid; no_ack = false; payload = [] }

module _ (w : ℕ) (f : List Bool → ℕ) where
  -- the frame is of a payload, or the answer to it
  abbrev pub PayloadFrame : Frame → ℕ → ℕ → State → List ℕ → List Payload → Type 0
  PayloadFrame x k n a d taken = (x ≡ frame_of k (frame_bits w f (packet_with a n d))) × Settled (last_number k taken) n

  abbrev pub AnswerFrame : Inside → Writes → Frame → ℕ → ℕ → State → List ℕ → List Payload → List Answering → Type 0
  AnswerFrame c x y k n a d taken answered =
      (y ≡ frame_of 0 (frame_bits w f (acknowledging (packet_with a n d))))
      × (In (record { sender = k; number = n }) taken ⊎ SomeOf (Mistaken f c x (record { sender = k; number = n })) answered)

  pub record OnAir (c : Inside) (d : Inside) (h : History) (x : Frame) (k n : ℕ) : Type 0 where
    pub sender : 1 ≤ k
    pub unit : State
    pub there : unit_at c k ≡ Some unit
    pub bytes : List ℕ
    pub written : slice_get (h.writes.written k) n ≡ Some bytes
    -- a sender that waits waits for it
    pub aimed : (s : State) → unit_at d k ≡ Some s → is_waiting s.core.mode ≡ true → h.writes.gone k ≡ n
    pub gone : n ≤ h.writes.gone k
    pub kind : PayloadFrame x k n unit bytes h.receipts.taken ⊎ AnswerFrame c h.writes x k n unit bytes h.receipts.taken h.receipts.answered

  abbrev pub AirOk : Inside → Inside → History → Option Frame → Type 0
  AirOk c d h None = Unit {0}
  AirOk c d h (Some x) = (k n : ℕ) × (h.aired ≡ Some (record { sender = k; number = n })) × OnAir c d h x k n

  -- ---- all together: c is the cell as it was made, d the cell now

  pub record Inv (c : Inside) (d : Inside) (h : History) : Type 0 where
    pub like : AllLike c d
    pub senders : (k : ℕ) (s : State) → 1 ≤ k → unit_at d k ≡ Some s → SenderOk s (h.writes.written k) (h.writes.gone k)
    pub tries : (k : ℕ) (s : State) → 1 ≤ k → unit_at d k ≡ Some s
        → TriesOk s.core.mode s.core.counts.again (retry_of s.registers).count (h.trials.exchanges k) (Pending d.air h.aired k)
    pub receiver : (r : State) → unit_at d 0 ≡ Some r → (entries r.tx ≡ []) × EntriesOk c h.writes (entries r.rx) h.receipts.unread
    pub memories : (r : State) → unit_at d 0 ≡ Some r → (k : ℕ) (a : State) → 1 ≤ k → unit_at c k ≡ Some a → (q : Pipe) → pipe_of_sender c k ≡ Some q
        → MemoryOk f a (h.writes.written k) (last_number k h.receipts.taken) (recalled r.memories q)
    pub taken : All (TakenOk c h.writes) h.receipts.taken
    pub order : OrderOk h.receipts.taken h.receipts.unread h.receipts.reads
    pub air : AirOk c d h d.air
    pub law : Lawful f c h

-- ---- the law, where the history changed in one part

-- the trials, and what is on the air
pub other_trials : {f : List Bool → ℕ} {c : Inside} {h : History} → Lawful f c h → (aired : Option Payload) (x : Trials)
    → ((k : ℕ) (s : State) → 1 ≤ k → unit_at c k ≡ Some s → All (OverBudget (retry_of s.registers).count) (x.failed k))
    → Lawful f c (record { writes = h.writes; aired = aired; receipts = h.receipts; counted = h.counted; trials = x })
other_trials l aired x over = record {
  reads_are_writes = l.reads_are_writes;
  in_order = l.in_order;
  sent_means_taken = l.sent_means_taken;
  no_giving_up_within_the_retry_budget = over;
}

-- the receipts
pub other_receipts : {f : List Bool → ℕ} {c : Inside} {h : History} → Lawful f c h → (x : Receipts) → All (ReadsAWrite c h.writes) x.reads → InOrder x.reads
    → Lawful f c (with_receipts x h)
other_receipts l x writes order = record {
  reads_are_writes = writes;
  in_order = order;
  sent_means_taken = l.sent_means_taken;
  no_giving_up_within_the_retry_budget = l.no_giving_up_within_the_retry_budget;
}
