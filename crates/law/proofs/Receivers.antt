-- Commands, CE and ticks at the receiver keep the invariant.
use Rattle.std.proofs.Common.{◌≡◌, ℕ, ◌+◌, ◌*◌, ◌<◌, ◌≤◌, Bool, true, false, not, eqb, List, [], ◌∷◌, ◌++◌, length, take, drop, replicate, Some, None, Ok, Err, Option, Result, sym, refl, ap, ◌∙◌, subst, ap₂, ⊎_elim, arith}
use Rattle.queue.proofs.Kept.{popped_rest}
use Rattle.std.proofs.lemmas.List.{length-replicate, take_at}
use Rattle.std.proofs.lemmas.Bool.{true≢false, eq-eqb, ne_eqb, cond-false, cond_both, cases_eq}
use Rattle.std.specs.Option.{option_map}
use Rattle.queue.specs.declared.queue.Queue.TheVariants.{Empty as no_entries}
use Rattle.queue.specs.Entries.{entries, first, popped}
use Rattle.registers.specs.declared.pipe.Pipe.{Pipe}
use Rattle.registers.specs.Address.{address_of}
use Rattle.registers.specs.Pipes.{index_of}
use Rattle.commands.specs.declared.flags.Flags.{Flags}
use Rattle.commands.specs.declared.refusal.Refusal.{Refusal as UnitRefusal}
use Rattle.commands.specs.declared.refusal.Refusal.TheVariants.{NotForUnit, DataLength, NothingReceived}
use Rattle.commands.specs.Decode.{Order, read_register, write_register, write_payload, read_payload, flush_tx, flush_rx, nop, ordered}
use Rattle.commands.specs.Refusals.{first_of, unless, kept_or}
use Rattle.commands.specs.Status.{weigh, status_of}
use Rattle.bench.specs.Checking.{is_receiver}
use Rattle.modes.specs.declared.parts.Core.{Core}
use Rattle.unit.specs.declared.entry.Received.{Received}
use Rattle.unit.specs.declared.state.State.{State}
use Rattle.unit.specs.Entries.{data_bytes}
use Rattle.unit.specs.Units.{with_core, with_rx, retry_of, fault_refusal}
use Rattle.unit.specs.Commanding.{receiver, tx_full, status, received_bytes, answered, refusals, order_refusal, refusal, done, done_by, answer_of}
use Rattle.unit.specs.Ticking.{packet, oldest_packet, sent, bits_of, tick_refusal, tick_after}
use Rattle.cell.specs.declared.air.Frame.{Frame}
use Rattle.cell.specs.declared.parts.Inside.{Inside}
use Rattle.cell.specs.declared.refusal.Refusal.{Refusal}
use Rattle.cell.specs.Refusals.{of_the_unit}
use Rattle.cell.specs.Air.{air_of}
use Rattle.cell.specs.Making.{pipe_for, same_pipe}
use Rattle.cell.specs.Calls.{unit_at, with_unit, with_air, command_answer_by, commanded_by, commanded, reply_by, leveled_by, leveled, tick_result_by, ticked_by, ticked}
use Rattle.law.specs.Lists.{All}
use Rattle.law.specs.Runs.{command, ce, tick, reply_of, answer_of as answer_outcome, outcome}
use Rattle.law.specs.Law.{Payload, Read, Writes, History, pipe_between, pipe_of_sender, bytes_of, status_pipe, was_read, unread_flushed, note_order, waits, gave_up, note_sending, note_giving_up, note}
use Rattle.law.specs.Law.{one_if, ReadsAWrite, Later, InOrder, OverBudget}
use Rattle.law.proofs.Terms.{Fits}
use Rattle.law.proofs.Carries.{index_below}
use Rattle.law.proofs.Facts.{at_elsewhere}
use Rattle.law.proofs.Inv.{other_trials, TriesOk, Pending, EntryOk, EntriesOk, Before, ReadBefore, ReadByNow, TakenByNow, OrderOk, TakenOk, last_number, Inv}
use Rattle.law.proofs.Changes.{receiver_changes, air_changes}
use Rattle.bench.proofs.Loads.{first_none}
use Rattle.law.proofs.Senders.{sound_refusal, note_ce}
use Rattle.law.proofs.Ticks.{data_back}

-- ---- the reply

-- of a buffer that begins with the reply, so many bytes are the reply
reply_front : (b : ℕ) (bs rest : List ℕ) → take (1 + length bs) ((b ∷ bs) ++ rest) ≡ b ∷ bs
reply_front b bs rest = take_at (b ∷ bs) rest (1 + length bs) (omega arith)

weight : (b : Bool) (n : ℕ) → weigh b n ≡ n * one_if b
weight true n = omega arith
weight false n = omega arith

bit_small : (b : Bool) → one_if b ≤ 1
bit_small true = omega arith
bit_small false = omega arith

-- STATUS shows the pipe of the oldest received payload
shows_pipe : (x : Flags) (q : Pipe) (full : Bool) → status_pipe (status_of x (Some q) full) ≡ index_of q
shows_pipe x q full =
    omega (arith, weight x.rx_dr 64, weight x.tx_ds 32, weight x.max_rt 16, weight full 1, bit_small full, index_below q)

-- ---- one sender on each pipe

same_index : (a b : Option Pipe) (n : ℕ) → option_map index_of a ≡ Some n → option_map index_of b ≡ Some n → same_pipe a b ≡ true
same_index None b n h k = let z : ◌≡◌ {A = ℕ} 0 1 = cc in absurd (omega arith)
same_index (Some p) None n h k = let z : ◌≡◌ {A = ℕ} 0 1 = cc in absurd (omega arith)
same_index (Some p) (Some q) n h k = let e : index_of p ≡ index_of q = cc in eq-eqb (index_of p) (index_of q) e

one_on_pipe : (w : ℕ) (c : Inside) → Fits w c → (j k n : ℕ) (s t : State) → 1 ≤ j → 1 ≤ k → unit_at c j ≡ Some s → unit_at c k ≡ Some t
    → option_map index_of (pipe_of_sender c j) ≡ Some n → option_map index_of (pipe_of_sender c k) ≡ Some n → j ≡ k
one_on_pipe w c fits j k n s t l m a b x y =
    ⊎_elim (λ e. e)
    (λ other.
    let p : option_map index_of (pipe_for fits.receiver.registers s.registers) ≡ Some n =
    ap₂ (λ u v. option_map index_of (pipe_between u v)) (sym fits.there) (sym a) ∙ x in
    let q : option_map index_of (pipe_for fits.receiver.registers t.registers) ≡ Some n =
    ap₂ (λ u v. option_map index_of (pipe_between u v)) (sym fits.there) (sym b) ∙ y in
    absurd (true≢false (sym (same_index _ _ n p q) ∙ fits.apart j k s t l m a b other)))
    (cases_eq j k)

-- what was taken is of a sender of the cell
module _ (c : Inside) (x : Writes) where
  taken_from : (k m : ℕ) (taken : List Payload) → last_number k taken ≡ Some m → All (TakenOk c x) taken → (1 ≤ k) × (s : State) × (unit_at c k ≡ Some s)
  unfolding last_number
  taken_from k m [] h a = let z : ◌≡◌ {A = ℕ} 0 1 = cc in absurd (omega arith)
  taken_from k m (p ∷ ps) h a =
      ⊎_elim (λ e. subst (λ j. (1 ≤ j) × (s : State) × (unit_at c j ≡ Some s)) e (a.0.sender, a.0.unit, a.0.there))
      (λ n. taken_from k m ps (sym (cond-false (eqb p.sender k) _ _ (ne_eqb p.sender k n)) ∙ h) a.1) (cases_eq p.sender k)

-- ---- the oldest unread payload is read

all_both : {X : Type 0} (P Q R : X → Type 0) → ((x : X) → P x → Q x → R x) → (xs : List X) → All P xs → All Q xs → All R xs
all_both P Q R f [] h k = tt
all_both P Q R f (x ∷ xs) h k = (f x h.0 k.0, all_both P Q R f xs h.1 k.1)

order_read : (taken : List Payload) (p : Payload) (ps : List Payload) (reads : List Read) (r : Read) → r.payload ≡ Some p
    → OrderOk taken (p ∷ ps) reads → OrderOk taken ps (r ∷ reads)
order_read taken p ps reads r named o = record {
  unread_taken = o.unread_taken.1;
  reads_taken = ((λ a e. let it : p ≡ a = cc in subst (TakenByNow taken) it o.unread_taken.0), o.reads_taken);
  rising = o.rising.1;
  reads_first = all_both (Before p) (λ y. All (ReadBefore y) reads) _
      (λ y before earlier. ((λ a e. let it : p ≡ a = cc in subst (λ z. Before z y) it before), earlier)) ps o.rising.0 o.reads_first.1;
}

module _ (w : ℕ) (c : Inside) (fits : Fits w c) (x : Writes) (taken : List Payload) (all_taken : All (TakenOk c x) taken) where
  later_read : (p : Payload) (r q : Read) → r.payload ≡ Some p → option_map index_of (pipe_of_sender c p.sender) ≡ Some r.pipe → TakenByNow taken p
      → ReadsAWrite c x q → ReadByNow taken q → ReadBefore p q → Later r q
  later_read p r q named pipe now right then before a o is_a is_o same =
      let it : p ≡ a = cc in
      let other : right.payload ≡ o = cc (right.named, is_o) in
      let there = taken_from c x p.sender now.0 taken now.1 all_taken in
      let from = taken_from c x o.sender (then o is_o).0 taken (then o is_o).1 all_taken in
      let on_it : option_map index_of (pipe_of_sender c o.sender) ≡ Some r.pipe =
      subst (λ z. option_map index_of (pipe_of_sender c z.sender) ≡ Some r.pipe) other (right.pipe ∙ ap Some same) in
      subst (λ z. o.number < z.number) it
      (before o is_o (one_on_pipe w c fits o.sender p.sender r.pipe from.1 there.1 from.0 there.0 from.2 there.2 on_it pipe))

  read_in_order : (p : Payload) (ps : List Payload) (reads : List Read) (r : Read)
      → r.payload ≡ Some p → option_map index_of (pipe_of_sender c p.sender) ≡ Some r.pipe → OrderOk taken (p ∷ ps) reads
      → All (ReadsAWrite c x) reads → InOrder reads → InOrder (r ∷ reads)
  read_in_order p ps reads r named pipe o right rising = (
    all_both (ReadsAWrite c x) (λ q. ReadByNow taken q × ReadBefore p q) (Later r)
        (λ q y z. later_read p r q named pipe o.unread_taken.0 y z.0 z.1) reads right
        (all_both (ReadByNow taken) (ReadBefore p) _ (λ q y z. (y, z)) reads o.reads_taken o.reads_first.0),
    rising,
  )

module _ (w : ℕ) (f : List Bool → ℕ) where
  module _ (c d : Inside) (h : History) (s : State) (e : unit_at d 0 ≡ Some s) (i : Inv w f c d h) (sound : s.fault ≡ None) (six : length s.memories.at ≡ 6) where
    -- the core alone changes
    core_changes : (x : Core) → Inv w f c (with_unit d 0 (with_core s x)) h
    core_changes x =
        receiver_changes w f c d h s (with_core s x) h.receipts.unread h.receipts.reads e i refl sound refl six (i.receiver s e).0 (i.receiver s e).1
        i.order i.law.reads_are_writes i.law.in_order

    -- nothing changes
    stays : Inv w f c (with_unit d 0 s) h
    stays = core_changes s.core

    rx_flushed : Inv w f c (with_unit d 0 (with_rx s no_entries)) (unread_flushed h)
    rx_flushed =
        receiver_changes w f c d h s (with_rx s no_entries) [] h.receipts.reads e i refl sound refl six (i.receiver s e).0 tt
        (record { unread_taken = tt; reads_taken = i.order.reads_taken; rising = tt; reads_first = tt }) i.law.reads_are_writes i.law.in_order

    -- ---- a payload is read

    entries_now : (xs : List Received) (ps : List Payload) → entries s.rx ≡ xs → h.receipts.unread ≡ ps → EntriesOk c h.writes xs ps
    entries_now xs ps held left =
        subst (λ l. EntriesOk c h.writes xs l) left (subst (λ l. EntriesOk c h.writes l h.receipts.unread) held (i.receiver s e).1)

    abbrev read_now : Read
    read_now = record {
      payload = first h.receipts.unread;
      pipe = status_pipe (status s);
      bytes = received_bytes (first (entries s.rx));
    }

    module _ (fits : Fits w c) (x : Received) (xs : List Received) (p : Payload) (ps : List Payload)
        (held : entries s.rx ≡ x ∷ xs) (left : h.receipts.unread ≡ p ∷ ps) where
      oldest_ok : EntryOk c h.writes x p × EntriesOk c h.writes xs ps
      oldest_ok = entries_now (x ∷ xs) (p ∷ ps) held left

      its_pipe : option_map index_of (pipe_of_sender c p.sender) ≡ Some (status_pipe (status s))
      its_pipe =
          ap (option_map index_of) oldest_ok.0.pipe
          ∙ ap Some (sym (ap (λ l. status_pipe (status_of s.core.flags (option_map (λ (y : Received). y.pipe) (first l)) (tx_full s))) held
          ∙ shows_pipe s.core.flags x.pipe (tx_full s)))

      its_bytes : bytes_of h.writes p ≡ Some (received_bytes (first (entries s.rx)))
      its_bytes =
          oldest_ok.0.written
          ∙ ap Some (sym (ap (λ l. received_bytes (first l)) held ∙ ap data_bytes oldest_ok.0.held ∙ data_back oldest_ok.0.bytes oldest_ok.0.sendable))

      order_now : OrderOk h.receipts.taken (p ∷ ps) h.receipts.reads
      order_now = subst (λ l. OrderOk h.receipts.taken l h.receipts.reads) left i.order

      payload_read : Inv w f c (with_unit d 0 (with_rx s (popped s.rx))) (was_read (status s ∷ received_bytes (first (entries s.rx))) h)
      payload_read =
          receiver_changes w f c d h s (with_rx s (popped s.rx)) (drop 1 h.receipts.unread) (read_now ∷ h.receipts.reads) e i refl sound refl six
          (i.receiver s e).0
          (subst (λ l. EntriesOk c h.writes (entries (popped s.rx)) l) (sym (ap (drop 1) left))
          (subst (λ l. EntriesOk c h.writes l ps) (sym (popped_rest s.rx ∙ ap (drop 1) held)) oldest_ok.1))
          (subst (λ l. OrderOk h.receipts.taken l (read_now ∷ h.receipts.reads)) (sym (ap (drop 1) left))
          (order_read h.receipts.taken p ps h.receipts.reads read_now (ap first left) order_now))
          (record { payload = p; named = ap first left; pipe = its_pipe; bytes = its_bytes }, i.law.reads_are_writes)
          (read_in_order w c fits h.writes h.receipts.taken i.taken p ps h.receipts.reads read_now (ap first left) its_pipe order_now
          i.law.reads_are_writes i.law.in_order)

    read_if_any : Fits w c → (xs : List Received) (ps : List Payload) → entries s.rx ≡ xs → h.receipts.unread ≡ ps → eqb (length xs) 0 ≡ false
        → Inv w f c (with_unit d 0 (with_rx s (popped s.rx))) (was_read (status s ∷ received_bytes (first (entries s.rx))) h)
    read_if_any fits [] ps held left some = absurd (true≢false some)
    read_if_any fits (x ∷ xs) [] held left some = absurd (entries_now (x ∷ xs) [] held left)
    read_if_any fits (x ∷ xs) (p ∷ ps) held left some = payload_read fits x xs p ps held left

    -- ---- commands

    module _ (fits : Fits w c) (role : is_receiver s.registers ≡ true) (room : ℕ) where
      done_keeps : (o : Order) → first_of (refusals s room o) ≡ None → Inv w f c (with_unit d 0 (done s o)) (note_order (Ok o) 0 (status s ∷ answered s o) h)
      done_keeps (read_register r b) free = stays
      done_keeps (write_register r b) free =
          cond_both (eqb (address_of r) 0x07) _ _ (λ t. Inv w f c (with_unit d 0 t) h) (λ _. core_changes _) (λ _. core_changes _)
      done_keeps (write_payload b) free = absurd (true≢false (sym role ∙ (first_none (receiver s) NotForUnit _ free).0))
      done_keeps (read_payload b) free =
          let one = first_none (not (receiver s)) NotForUnit _ free in
          let two = first_none (not (Rattle.commands.specs.Decode.fits (read_payload b))) DataLength _ one.1 in
          let three = first_none (eqb (length (entries s.rx)) 0) NothingReceived _ two.1 in
          read_if_any fits (entries s.rx) h.receipts.unread refl refl three.0
      done_keeps (flush_tx b) free = absurd (true≢false (sym role ∙ (first_none (receiver s) NotForUnit _ free).0))
      done_keeps (flush_rx b) free = rx_flushed
      done_keeps (nop b) free = stays

      -- after a command with the refusal r, where q says whether the reply was laid over the buffer
      abbrev Ends : List ℕ → List ℕ → List ℕ → Result Order UnitRefusal → Option UnitRefusal → Option UnitRefusal → Type 0
      Ends host before rest o r q =
          Inv w f c (with_unit d 0 (kept_or r s (done_by s o)))
          (note h d (command 0 host room)
          (reply_of (of_the_unit 0 (unless r (1 + length (answer_of s o)))) (kept_or q before ((status s ∷ answer_of s o) ++ rest)))
          (with_unit d 0 (kept_or r s (done_by s o))))

      ordered_keeps : (host before rest : List ℕ) (o : Result Order UnitRefusal) (r : Option UnitRefusal) → ordered host ≡ o → order_refusal s room o ≡ r
          → Ends host before rest o r r
      ordered_keeps host before rest o (Some x) is free = stays
      ordered_keeps host before rest (Err x) None is free = let z : ◌≡◌ {A = ℕ} 0 1 = cc in absurd (omega arith)
      ordered_keeps host before rest (Ok o) None is free =
          subst (λ x. Inv w f c (with_unit d 0 (done s o)) (note_order x 0 (take (1 + length (answered s o)) ((status s ∷ answered s o) ++ rest)) h)) (sym is)
          (subst (λ l. Inv w f c (with_unit d 0 (done s o)) (note_order (Ok o) 0 l h)) (sym (reply_front (status s) (answered s o) rest)) (done_keeps o free))

      command_keeps : (host : List ℕ)
          → Inv w f c (commanded d 0 host room) (note h d (command 0 host room) (outcome w f d (command 0 host room)) (commanded d 0 host room))
      command_keeps host =
          let o = ordered host in
          let before = replicate room 0 in
          let rest = drop (1 + length (answer_of s o)) before in
          subst (λ m. Inv w f c (commanded_by m d 0 host room)
          (note h d (command 0 host room) (reply_of (command_answer_by m 0 host room) (reply_by m host before)) (commanded_by m d 0 host room))) (sym e)
          (subst (λ n. Ends host before rest o (refusal s room o) (refusal s n o)) (sym (length-replicate room 0))
          (subst (λ r. Ends host before rest o r r) (sym (sound_refusal s room o sound)) (ordered_keeps host before rest o (order_refusal s room o) refl refl)))

    -- ---- a call after which the core alone may differ

    core_or_not : (r : Option UnitRefusal) (x : Core) → Inv w f c (with_unit d 0 (kept_or r s (with_core s x))) h
    core_or_not None x = core_changes x
    core_or_not (Some y) x = stays

  pub receiver_command : (c d : Inside) (h : History) (s : State) (host : List ℕ) (room : ℕ)
      → Fits w c → Inv w f c d h → unit_at d 0 ≡ Some s → is_receiver s.registers ≡ true → s.fault ≡ None → length s.memories.at ≡ 6
      → Inv w f c (commanded d 0 host room) (note h d (command 0 host room) (outcome w f d (command 0 host room)) (commanded d 0 host room))
  receiver_command c d h s host room fits i e role sound six = command_keeps c d h s e i sound six fits role room host

  pub receiver_ce : (c d : Inside) (h : History) (s : State) (level : Bool)
      → Fits w c → Inv w f c d h → unit_at d 0 ≡ Some s → is_receiver s.registers ≡ true → s.fault ≡ None → length s.memories.at ≡ 6
      → Inv w f c (leveled d 0 level) (note h d (ce 0 level) (outcome w f d (ce 0 level)) (leveled d 0 level))
  receiver_ce c d h s level fits i e role sound six =
      subst (λ g. Inv w f c (leveled d 0 level) g) (sym (note_ce h d 0 level (outcome w f d (ce 0 level)) (leveled d 0 level)))
      (subst (λ m. Inv w f c (leveled_by m d 0 level) h) (sym e) (core_or_not c d h s e i sound six (fault_refusal s) _))

  -- ---- ticks

  -- it has nothing to send
  no_packet : (s : State) → entries s.tx ≡ [] → bits_of w f (sent s) ≡ []
  no_packet s none =
      cond_both _ (oldest_packet s) None (λ o. bits_of w f o ≡ []) (λ _. ap (λ l. bits_of w f (option_map (packet s) (first l))) none) (λ _. refl)

  no_bits : (s : State) → entries s.tx ≡ [] → (r : Option UnitRefusal) → kept_or r [] (bits_of w f (sent s)) ≡ []
  no_bits s none None = no_packet s none
  no_bits s none (Some x) = refl

  -- of the exchanges of unit 0 the invariant says nothing
  gave_up_unseen : (c t : Inside) (h : History) → Inv w f c t h → Inv w f c t (gave_up 0 h)
  gave_up_unseen c t h i =
      let other : (k : ℕ) → 1 ≤ k → k ≡ 0 → ⊥ = λ k one z. absurd (omega (arith, z, one)) in
      record {
        like = i.like;
        senders = i.senders;
        tries = λ k s one there.
            subst (λ l. TriesOk s.core.mode s.core.counts.again (retry_of s.registers).count l (Pending t.air h.aired k))
            (sym (at_elsewhere 0 k [] h.trials.exchanges (other k one))) (i.tries k s one there);
        receiver = i.receiver;
        memories = i.memories;
        taken = i.taken;
        order = i.order;
        air = air_changes w f c t t h (gave_up 0 h) (record { more = λ k n b m. m; later = λ k. omega arith }) refl refl refl
            (λ k n one before. before) t.air i.air;
        law = other_trials i.law h.aired (gave_up 0 h).trials (λ k s one there.
            subst (λ l. All (OverBudget (retry_of s.registers).count) l)
            (sym (at_elsewhere 0 k (h.trials.exchanges 0 ∷ h.trials.failed 0) h.trials.failed (other k one)))
            (i.law.no_giving_up_within_the_retry_budget k s one there));
      }

  giving_up_unseen : (c t : Inside) (h : History) (before after : Bool) → Inv w f c t h → Inv w f c t (note_giving_up before after 0 h)
  giving_up_unseen c t h false after i = i
  giving_up_unseen c t h true false i = gave_up_unseen c t h i
  giving_up_unseen c t h true true i = i

  -- with the air as it was, nothing was sent
  nothing_sent : (a : Option Frame) (k : ℕ) (h : History) → note_sending a a k h ≡ h
  nothing_sent None k h = refl
  nothing_sent (Some x) k h = refl

  tick_noted : (c d t : Inside) (h : History) (o : Result Unit Refusal) → t.air ≡ d.air → Inv w f c t h → Inv w f c t (note h d (tick 0) (answer_outcome o) t)
  tick_noted c d t h (Err x) same i = i
  tick_noted c d t h (Ok x) same i =
      giving_up_unseen c t (note_sending d.air t.air 0 h) (waits (unit_at d 0)) (waits (unit_at t 0))
      (subst (λ a. Inv w f c t (note_sending d.air a 0 h)) (sym same) (subst (λ g. Inv w f c t g) (sym (nothing_sent d.air 0 h)) i))

  pub receiver_tick : (c d : Inside) (h : History) (s : State)
      → Fits w c → Inv w f c d h → unit_at d 0 ≡ Some s → is_receiver s.registers ≡ true → s.fault ≡ None → length s.memories.at ≡ 6
      → Inv w f c (ticked w f d 0) (note h d (tick 0) (outcome w f d (tick 0)) (ticked w f d 0))
  receiver_tick c d h s fits i e role sound six =
      subst (λ m. Inv w f c (ticked_by w f m d.air d 0) (note h d (tick 0) (answer_outcome (tick_result_by w f m d.air 0)) (ticked_by w f m d.air d 0))) (sym e)
      (by d.air refl) where
        next : State
        next = tick_after s 42

        by : (a : Option Frame) → d.air ≡ a → Inv w f c (ticked_by w f (Some s) a d 0) (note h d (tick 0) (answer_outcome (tick_result_by w f (Some s) a 0)) (ticked_by w f (Some s) a d 0))
        by (Some x) is = i
        by None is =
            subst (λ a. Inv w f c (with_air (with_unit d 0 next) a) (note h d (tick 0) (answer_outcome (tick_result_by w f (Some s) None 0)) (with_air (with_unit d 0 next) a)))
            (is ∙ sym (ap (air_of 0) (no_bits s (i.receiver s e).0 (tick_refusal s 42))))
            (tick_noted c d (with_unit d 0 next) h (tick_result_by w f (Some s) None 0) refl (core_or_not c d h s e i sound six (tick_refusal s 42) _))
