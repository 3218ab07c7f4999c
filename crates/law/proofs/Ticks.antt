-- A tick of a sender keeps the invariant.
use Rattle.std.proofs.Common.{◌≡◌, ℕ, suc, ◌+◌, ◌-◌, ◌%◌, ◌<◌, ◌≤◌, Bool, true, false, cond, not, ◌&&◌, eqb, ltb, List, [], ◌∷◌, ◌++◌, length, take, drop, replicate, Some, None, Option, sym, refl, ap, ◌∙◌, subst, inl, inr, ⊎_elim, arith, ltb-false, ltb-true, lt-ltb, ne_eqb, eqb-true}
use Rattle.std.proofs.lemmas.Bool.{and_parts, not-true, eqb-false}
use Rattle.std.proofs.lemmas.List.{length-append, take_at}
use Rattle.std.specs.Option.{option_map}
use Rattle.checks.specs.Bits.{word}
use Rattle.checks.specs.Places.{length_word}
use Rattle.frames.specs.Packet.{Packet, covered, preamble, with_check, frame_bits}
use Rattle.frames.specs.Calls.{pid_number}
use Rattle.queue.specs.Entries.{entries, first}
use Rattle.registers.specs.declared.register.Register.{Register}
use Rattle.commands.specs.declared.refusal.Refusal.TheVariants.{Fault, FrameBytes}
use Rattle.commands.specs.Refusals.{first_of, unless, kept_or}
use Rattle.bench.specs.Checking.{is_receiver}
use Rattle.modes.specs.declared.parts.Core.{Core}
use Rattle.modes.specs.declared.parts.Retry.{Retry}
use Rattle.modes.specs.declared.parts.Mode.{Mode}
use Rattle.modes.specs.declared.parts.Mode.TheVariants.{Shutdown, Starting, Standby, IdleTx, Tuning, Rx, Waiting}
use Rattle.modes.specs.declared.parts.Role.TheVariants.{Sender, Receiver}
use Rattle.modes.specs.Modes.{is_waiting, resting, at_rest, in_mode, begun as begun_core, tuned, retried, given_up, tick_in, sends_in, wait_ticks}
use Rattle.unit.specs.declared.entry.Outgoing.{Outgoing}
use Rattle.unit.specs.declared.state.State.{State}
use Rattle.unit.specs.Entries.{data_of, data_bytes}
use Rattle.unit.specs.Units.{role_of, retry_of, tx_address, with_core, or_else, payload_waits}
use Rattle.unit.specs.Ticking.{packet, oldest_packet, sent, bits_of, tick_state, tick_refusal}
use Rattle.cell.specs.declared.air.Frame.{Frame}
use Rattle.cell.specs.declared.parts.Inside.{Inside}
use Rattle.cell.specs.Refusals.{of_the_unit}
use Rattle.cell.specs.Air.{air_of, frame_of}
use Rattle.cell.specs.Calls.{unit_at, with_unit, with_air, done_if, tick_result_by, ticked, ticked_by}
use Rattle.law.specs.Lists.{All}
use Rattle.law.specs.Runs.{tick, answer_of, outcome}
use Rattle.law.specs.Law.{Payload, Exchange, History, Writes, at, oldest, waits, begun, was_sent, gave_up, note_sending, note_giving_up, note_tick, note}
use Rattle.law.specs.Law.{OverBudget, one_if, spoiled_count}
use Rattle.law.proofs.Facts.{at_there, at_elsewhere, at_each, drop_nth, nth_all}
use Rattle.law.proofs.Inv.{other_trials, Sendable, trying, SenderOk, Failed, TriesOk, WaitsOk, Pending, pid_at, numbered, packet_with, last_number, Settled, TakenOk, AirOk, Inv}
use Rattle.law.proofs.Changes.{sender_changes, like_changes, now_there, now_elsewhere, now_is}
use Rattle.law.proofs.Tails.{identity_number, numbered_first, tail_first, tail_length, tries_none, waiting_tries}
use Rattle.law.proofs.Senders.{Quiet, quiet_sender, resting_idle}

-- ---- a transaction that fails

-- each exchange failed, and none because the receiver was not ready: all were spoiled
all_spoiled : (xs : List Exchange) → All Failed xs → All (λ x. x.ready ≡ true) xs → spoiled_count xs ≡ length xs
all_spoiled [] a r = refl
all_spoiled (x ∷ xs) a r =
    let spoiled : x.spoiled ≡ true = ⊎_elim (λ e. e) (λ e. let z : ◌≡◌ {A = Bool} true false = sym r.0 ∙ e in let y : ◌≡◌ {A = ℕ} 0 1 = cc in absurd (omega arith)) a.0 in
    let one : one_if x.spoiled ≡ 1 = ap one_if spoiled in
    omega (arith, one, all_spoiled xs a.1 r.1)

over_budget : (xs : List Exchange) (again arc : ℕ) → length xs ≡ suc again → All Failed xs → arc ≤ again → OverBudget arc xs
over_budget xs again arc count failed budget ready = omega (arith, all_spoiled xs failed ready, count, budget)

-- ---- what may be pending

repend_waits : (again arc : ℕ) (xs : List Exchange) (P Q : Type 0) → (P → Q) → WaitsOk again arc xs P → WaitsOk again arc xs Q
repend_waits again arc xs P Q g t = record {
  count = t.count;
  budget = t.budget;
  earlier = t.earlier;
  newest = ⊎_elim (λ p. inl (g p)) (λ a. inr a) t.newest;
}

pub repend : (m : Mode) (again arc : ℕ) (xs : List Exchange) (P Q : Type 0) → (P → Q) → TriesOk m again arc xs P → TriesOk m again arc xs Q
repend Shutdown again arc xs P Q g t = t
repend (Starting left) again arc xs P Q g t = t
repend Standby again arc xs P Q g t = t
repend IdleTx again arc xs P Q g t = t
repend (Tuning left) again arc xs P Q g t = t
repend Rx again arc xs P Q g t = t
repend (Waiting left) again arc xs P Q g t = repend_waits again arc xs P Q g t

-- ---- the frame of the oldest payload

data_min : (b : List ℕ) → length b ≤ 32 → Prim.Native.Nat.min (length b) 32 ≡ length b
data_min b h = omega arith

pub data_back : (b : List ℕ) → Sendable b → data_bytes (data_of b) ≡ b
data_back [] h = absurd (omega (arith, h.some))
data_back (x ∷ b) h = ap (λ n. take n ((x ∷ b) ++ drop (length (x ∷ b)) (replicate 32 0))) (data_min (x ∷ b) h.few) ∙ take_at (x ∷ b) (drop (length (x ∷ b)) (replicate 32 0)) (length (x ∷ b)) refl

pub some_bits : (w : ℕ) (f : List Bool → ℕ) (p : Packet) → eqb (length (frame_bits w f p)) 0 ≡ false
some_bits w f p = ne_eqb (length (frame_bits w f p)) 0 (λ e. absurd (omega (arith, e, length-append (word 8 (preamble (covered p))) (with_check w f p), length_word 8 (preamble (covered p)))))

-- the oldest entry, and what its frame carries
pub oldest_is : (s a : State) (written : List (List ℕ)) (gone : ℕ) (b : List ℕ) (bs : List (List ℕ)) → s.registers ≡ a.registers → SenderOk s written gone → Sendable b
    → drop gone written ≡ b ∷ bs → oldest_packet s ≡ Some (packet_with a gone b)
oldest_is s a written gone b bs regs ok sendable left =
    let entry : Outgoing = record { pid = pid_at (suc gone); «data» = data_of b } in
    let queue : entries s.tx ≡ entry ∷ numbered (suc gone) bs = ok.tail ∙ ap (numbered gone) left ∙ numbered_first gone b bs in
    let pid : pid_number (pid_at (suc gone)) ≡ (gone + 1) % 4 = identity_number (suc gone) ∙ omega arith in
    ap (λ l. option_map (packet s) (first l)) queue
    ∙ ap (λ n. Some (record { address = tx_address s.registers; pid = n; no_ack = false; payload = data_bytes (data_of b) })) pid
    ∙ ap (λ d. Some (record { address = tx_address s.registers; pid = (gone + 1) % 4; no_ack = false; payload = d })) (data_back b sendable)
    ∙ ap (λ r. Some (record { address = tx_address r; pid = (gone + 1) % 4; no_ack = false; payload = b })) regs

pub all_drop_first : (P : List ℕ → Type 0) (xs : List (List ℕ)) (n : ℕ) (b : List ℕ) (bs : List (List ℕ)) → drop n xs ≡ b ∷ bs → All P xs → P b
all_drop_first P xs n b bs e a = nth_all P xs n b (drop_nth xs n b bs e) a

-- the last payload taken of a sender is none of those that still wait behind its oldest
last_settled : (c : Inside) (x : Writes) (k : ℕ) (ps : List Payload) → All (TakenOk c x) ps → Settled (last_number k ps) (x.gone k)
unfolding last_number
last_settled c x k [] a = tt
last_settled c x k (p ∷ ps) a = by (last_settled c x k ps a.1) (eqb p.sender k) refl where
  by : Settled (last_number k ps) (x.gone k) → (b : Bool) → eqb p.sender k ≡ b → Settled (cond b (Some p.number) (last_number k ps)) (x.gone k)
  by rest true e = subst (λ j. p.number ≤ x.gone j) (eqb-true p.sender k e) a.0.gone
  by rest false e = rest

resting_waits_not : (level : Bool) → is_waiting (resting Sender level) ≡ false
resting_waits_not true = refl
resting_waits_not false = refl

-- where a payload waits, not all is gone
some_left : (s : State) (written : List (List ℕ)) (gone : ℕ) → SenderOk s written gone → payload_waits s ≡ true → gone < length written
some_left s written gone ok h =
    let n : eqb (length (entries s.tx)) 0 ≡ false = not-true (eqb (length (entries s.tx)) 0) h in
    let some : length (entries s.tx) ≡ length (numbered gone (drop gone written)) = ap length ok.tail in
    let all = tail_length gone written ok.within in
    omega (arith, all, some, eqb-false (length (entries s.tx)) 0 n)

-- a unit without a fault never refuses a tick of the cell
pub tick_free : (s : State) → s.fault ≡ None → tick_refusal s 42 ≡ None
tick_free s h = by s.fault h where
  by : (x : Option Register) → x ≡ None → or_else (elim x [ None ↦ None | Some r ↦ Some (Fault r) ]) (first_of ((ltb 42 42, FrameBytes) ∷ [])) ≡ None
  by None k = refl
  by (Some r) k = let z : ◌≡◌ {A = ℕ} 0 1 = cc in absurd (omega arith)

module _ (w : ℕ) (f : List Bool → ℕ) where
  -- ---- a transaction is noted as failed

  failed_noted : (c d : Inside) (h : History) (u : ℕ) (xs : List Exchange) → Inv w f c d h
      → ((y : State) → unit_at c u ≡ Some y → OverBudget (retry_of y.registers).count xs)
      → Inv w f c d (record {
        writes = h.writes;
        aired = h.aired;
        receipts = h.receipts;
        counted = h.counted;
        trials = record { exchanges = h.trials.exchanges; failed = at u (xs ∷ h.trials.failed u) h.trials.failed };
      })
  failed_noted c d h u xs i over = record {
    like = i.like;
    senders = i.senders;
    tries = i.tries;
    receiver = i.receiver;
    memories = i.memories;
    taken = i.taken;
    order = i.order;
    air = air_same d.air i.air;
    law = other_trials i.law h.aired g.trials (λ k y one there.
        at_each (λ j l. j ≡ k → All (OverBudget (retry_of y.registers).count) l) u (xs ∷ h.trials.failed u) h.trials.failed k
        (λ same _. (
          over y (subst (λ j. unit_at c j ≡ Some y) same there),
          i.law.no_giving_up_within_the_retry_budget u y (subst (λ j. 1 ≤ j) same one) (subst (λ j. unit_at c j ≡ Some y) same there),
        ))
        (λ other _. i.law.no_giving_up_within_the_retry_budget k y one there) refl);
  } where
    g : History
    g = record {
      writes = h.writes;
      aired = h.aired;
      receipts = h.receipts;
      counted = h.counted;
      trials = record { exchanges = h.trials.exchanges; failed = at u (xs ∷ h.trials.failed u) h.trials.failed };
    }

    air_same : (a : Option Frame) → AirOk w f c d h a → AirOk w f c d g a
    air_same None o = tt
    air_same (Some x) o = (
      o.0,
      o.1,
      o.2,
      record {
        sender = o.3.sender;
        unit = o.3.unit;
        there = o.3.there;
        bytes = o.3.bytes;
        written = o.3.written;
        aimed = o.3.aimed;
        gone = o.3.gone;
        kind = o.3.kind;
      },
    )

  -- ---- ticks that send nothing

  -- the air stays empty
  still : (c d : Inside) (g : History) (u : ℕ) (t : State) → d.air ≡ None → Inv w f c (with_unit d u t) g → Inv w f c (with_air (with_unit d u t) None) g
  still c d g u t e i = subst (λ a. Inv w f c (with_air (with_unit d u t) a) g) e i

  -- the transaction goes on or begins, with other counts
  mode_keeps : (c d : Inside) (h : History) (u : ℕ) (s : State) (k : Core) → 1 ≤ u → unit_at d u ≡ Some s → Inv w f c d h
      → s.fault ≡ None → length s.memories.at ≡ 6 → h.writes.gone u < length (h.writes.written u)
      → TriesOk k.mode k.counts.again (retry_of s.registers).count (h.trials.exchanges u) (Pending d.air h.aired u)
      → (is_waiting k.mode ≡ true → is_waiting s.core.mode ≡ true)
      → Inv w f c (with_unit d u (with_core s k)) h
  mode_keeps c d h u s k pos e i sound long left tries waits =
      let ok = i.senders u s pos e in
      sender_changes w f c d h u s (with_core s k) h.writes h.trials pos e i refl sound long (record { more = λ j n b m. m; later = λ j. omega arith })
      (λ j n. (refl, refl, refl)) (λ j. refl)
      (record { within = ok.within; pid = ok.pid; tail = ok.tail; busy = λ b. left; sendable = ok.sendable }) tries (λ wait. (waits wait, refl))

  gives_up : (c d : Inside) (h : History) (u : ℕ) (s a : State) (left : ℕ) → 1 ≤ u → unit_at d u ≡ Some s → unit_at c u ≡ Some a → s.registers ≡ a.registers → Inv w f c d h
      → d.air ≡ None → s.fault ≡ None → length s.memories.at ≡ 6 → s.core.mode ≡ Waiting left → ltb s.core.counts.again (retry_of s.registers).count ≡ false
      → Inv w f c (with_unit d u (with_core s (given_up Sender s.core))) (gave_up u h)
  gives_up c d h u s a left pos e there regs i air sound long mode budget =
      let ok = i.senders u s pos e in
      let xs = h.trials.exchanges u in
      let tries : WaitsOk s.core.counts.again (retry_of s.registers).count xs (Pending d.air h.aired u) =
      subst (λ m. TriesOk m s.core.counts.again (retry_of s.registers).count xs (Pending d.air h.aired u)) mode (i.tries u s pos e) in
      let all_failed : All Failed xs = ⊎_elim (λ p. absurd (subst (λ z. Pending z h.aired u) air p)) (λ z. z) tries.newest in
      let idle = resting_idle s.core.ce in
      let t = with_core s (given_up Sender s.core) in
      failed_noted c (with_unit d u t) (record {
        writes = h.writes;
        aired = h.aired;
        receipts = h.receipts;
        counted = h.counted;
        trials = record { exchanges = at u [] h.trials.exchanges; failed = h.trials.failed };
      }) u xs
      (sender_changes w f c d h u s t h.writes (record { exchanges = at u [] h.trials.exchanges; failed = h.trials.failed }) pos e i refl sound long
      (record { more = λ j n b m. m; later = λ j. omega arith }) (λ j n. (refl, refl, at_elsewhere u j [] h.trials.exchanges n)) (λ j. refl)
      (record {
        within = ok.within;
        pid = ok.pid;
        tail = ok.tail;
        busy = λ b. let z : ◌≡◌ {A = Bool} true false = sym b ∙ idle in let y : ◌≡◌ {A = ℕ} 0 1 = cc in absurd (omega arith);
        sendable = ok.sendable;
      })
      (tries_none t.core.mode t.core.counts.again (retry_of s.registers).count (at u [] h.trials.exchanges u) (Pending d.air h.aired u) idle
      (at_there u [] h.trials.exchanges))
      (λ wait. let z : ◌≡◌ {A = Bool} true false = sym (waiting_tries t.core.mode wait) ∙ idle in let y : ◌≡◌ {A = ℕ} 0 1 = cc in absurd (omega arith)))
      (λ y k.
      let same : a ≡ y = cc in
      let arc : (retry_of s.registers).count ≡ (retry_of y.registers).count = ap (λ r. (retry_of r).count) (regs ∙ ap (λ (z : State). z.registers) same) in
      subst (λ n. OverBudget n xs) arc
      (over_budget xs s.core.counts.again (retry_of s.registers).count tries.count all_failed (ltb-false s.core.counts.again (retry_of s.registers).count budget)))

  -- ---- ticks that send

  sends : (c d : Inside) (h : History) (u : ℕ) (s a : State) (k : Core) (left : ℕ) (b : List ℕ) (bs : List (List ℕ))
      → 1 ≤ u → unit_at d u ≡ Some s → unit_at c u ≡ Some a → s.registers ≡ a.registers → Inv w f c d h
      → d.air ≡ None → s.fault ≡ None → length s.memories.at ≡ 6 → drop (h.writes.gone u) (h.writes.written u) ≡ b ∷ bs → h.writes.gone u < length (h.writes.written u)
      → k.mode ≡ Waiting left → length (h.trials.exchanges u) ≡ k.counts.again → k.counts.again ≤ (retry_of s.registers).count → All Failed (h.trials.exchanges u)
      → Inv w f c (with_air (with_unit d u (with_core s k)) (Some (frame_of u (frame_bits w f (packet_with a (h.writes.gone u) b))))) (was_sent u h)
  sends c d h u s a k left b bs pos e there regs i air sound long first_is some mode count budget failed =
      let ok = i.senders u s pos e in
      let t = with_core s k in
      let n = h.writes.gone u in
      let x : Frame = frame_of u (frame_bits w f (packet_with a n b)) in
      let aired : oldest h.writes u ≡ Some (record { sender = u; number = n }) =
      ap (λ z. cond z (Some (record { sender = u; number = n })) None) (lt-ltb n (length (h.writes.written u)) some) in
      let begun_here : at u (begun ∷ h.trials.exchanges u) h.trials.exchanges u ≡ begun ∷ h.trials.exchanges u = at_there u (begun ∷ h.trials.exchanges u) h.trials.exchanges in
      let zero_is : (r : State) → unit_at (with_unit d u t) 0 ≡ Some r → unit_at d 0 ≡ Some r =
      λ r z. sym (now_elsewhere d u 0 t (λ y. absurd (omega (arith, y, pos)))) ∙ z in
      let pending : Pending (Some x) (oldest h.writes u) u = subst (λ p. Pending (Some x) p u) (sym aired) refl in
      record {
        like = like_changes c d u s t e refl sound long i.like;
        senders = λ j y one at_j. now_is (λ v z. 1 ≤ v → SenderOk z (h.writes.written v) (h.writes.gone v)) d u s t e
            (λ _. record { within = ok.within; pid = ok.pid; tail = ok.tail; busy = λ z. some; sendable = ok.sendable })
            (λ v z other at-v first. i.senders v z first at-v) j y at_j one;
        tries = λ j y one at_j. now_is (λ v z. 1 ≤ v
            → TriesOk z.core.mode z.core.counts.again (retry_of z.registers).count (at u (begun ∷ h.trials.exchanges u) h.trials.exchanges v)
            (Pending (Some x) (oldest h.writes u) v)) d u s t e
            (λ _. subst (λ l. TriesOk k.mode k.counts.again (retry_of s.registers).count l (Pending (Some x) (oldest h.writes u) u)) (sym begun_here)
            (subst (λ m. TriesOk m k.counts.again (retry_of s.registers).count (begun ∷ h.trials.exchanges u) (Pending (Some x) (oldest h.writes u) u)) (sym mode)
            (record { count = ap suc count; budget = budget; earlier = failed; newest = inl pending })))
            (λ v z other at-v first.
            subst (λ l. TriesOk z.core.mode z.core.counts.again (retry_of z.registers).count l (Pending (Some x) (oldest h.writes u) v))
            (sym (at_elsewhere u v (begun ∷ h.trials.exchanges u) h.trials.exchanges other))
            (repend z.core.mode z.core.counts.again (retry_of z.registers).count (h.trials.exchanges v) (Pending d.air h.aired v) (Pending (Some x) (oldest h.writes u) v)
            (λ p. absurd (subst (λ y. Pending y h.aired v) air p)) (i.tries v z first at-v))) j y at_j one;
        receiver = λ r at-0. i.receiver r (zero_is r at-0);
        memories = λ r at-0. i.memories r (zero_is r at-0);
        taken = i.taken;
        order = i.order;
        air = (
          u,
          n,
          aired,
          record {
            sender = pos;
            unit = a;
            there = there;
            bytes = b;
            written = drop_nth (h.writes.written u) n b bs first_is;
            aimed = λ y at_u wait. refl;
            gone = omega arith;
            kind = inl (refl, last_settled c h.writes u h.receipts.taken i.taken);
          },
        );
        law = other_trials i.law _ _ i.law.no_giving_up_within_the_retry_budget;
      }

  -- the same, of whatever the oldest payload is
  sends_oldest : (c d : Inside) (h : History) (u : ℕ) (s a : State) (k : Core) (left : ℕ)
      → 1 ≤ u → unit_at d u ≡ Some s → unit_at c u ≡ Some a → s.registers ≡ a.registers → Inv w f c d h
      → d.air ≡ None → s.fault ≡ None → length s.memories.at ≡ 6 → h.writes.gone u < length (h.writes.written u)
      → k.mode ≡ Waiting left → length (h.trials.exchanges u) ≡ k.counts.again → k.counts.again ≤ (retry_of s.registers).count → All Failed (h.trials.exchanges u)
      → Inv w f c (with_air (with_unit d u (with_core s k)) (air_of u (bits_of w f (oldest_packet s)))) (note_sending None (air_of u (bits_of w f (oldest_packet s))) u h)
  sends_oldest c d h u s a k left pos e there regs i air sound long some mode count budget failed =
      let ok = i.senders u s pos e in
      let first_is = tail_first (h.writes.gone u) (h.writes.written u) some in
      let b = first_is.0 in
      let sendable : Sendable b = all_drop_first Sendable (h.writes.written u) (h.writes.gone u) b first_is.1 first_is.2 ok.sendable in
      let it : oldest_packet s ≡ Some (packet_with a (h.writes.gone u) b) = oldest_is s a (h.writes.written u) (h.writes.gone u) b first_is.1 regs ok sendable first_is.2 in
      let on : air_of u (bits_of w f (oldest_packet s)) ≡ Some (frame_of u (frame_bits w f (packet_with a (h.writes.gone u) b))) =
      ap (λ p. air_of u (bits_of w f p)) it
      ∙ ap (λ z. cond z None (Some (frame_of u (frame_bits w f (packet_with a (h.writes.gone u) b))))) (some_bits w f (packet_with a (h.writes.gone u) b)) in
      subst (λ z. Inv w f c (with_air (with_unit d u (with_core s k)) z) (note_sending None z u h)) (sym on)
      (sends c d h u s a k left b first_is.1 pos e there regs i air sound long first_is.2 some mode count budget failed)

  -- ---- a tick in each mode

  module _ (c d : Inside) (h : History) (u : ℕ) (s a : State) (pos : 1 ≤ u) (e : unit_at d u ≡ Some s) (there : unit_at c u ≡ Some a) (regs : s.registers ≡ a.registers)
      (i : Inv w f c d h) (air : d.air ≡ None) (sound : s.fault ≡ None) (long : length s.memories.at ≡ 6) where
    -- the core afterwards, and the packet that is sent
    abbrev TickedTo : Mode → Core → Option Packet → Type 0
    TickedTo m k p = Inv w f c (with_air (with_unit d u (with_core s k)) (air_of u (bits_of w f p)))
        (note_giving_up (is_waiting m) (is_waiting k.mode) u (note_sending None (air_of u (bits_of w f p)) u h))

    retry : Retry
    retry = retry_of s.registers

    quietly : (k : Core) → Quiet s.core k → Inv w f c (with_air (with_unit d u (with_core s k)) None) h
    quietly k q = still c d h u (with_core s k) air (quiet_sender w f c d h u s (with_core s k) pos e i refl sound long refl refl q)

    on : (k : Core) → h.writes.gone u < length (h.writes.written u)
        → TriesOk k.mode k.counts.again (retry_of s.registers).count (h.trials.exchanges u) (Pending d.air h.aired u)
        → (is_waiting k.mode ≡ true → is_waiting s.core.mode ≡ true) → Inv w f c (with_air (with_unit d u (with_core s k)) None) h
    on k some tries waits = still c d h u (with_core s k) air (mode_keeps c d h u s k pos e i sound long some tries waits)

    tries_in : (m : Mode) → s.core.mode ≡ m → TriesOk m s.core.counts.again (retry_of s.registers).count (h.trials.exchanges u) (Pending d.air h.aired u)
    tries_in m mode = subst (λ z. TriesOk z s.core.counts.again (retry_of s.registers).count (h.trials.exchanges u) (Pending d.air h.aired u)) mode (i.tries u s pos e)

    under_way : (m : Mode) → s.core.mode ≡ m → trying m ≡ true → h.writes.gone u < length (h.writes.written u)
    under_way m mode t = (i.senders u s pos e).busy (ap trying mode ∙ t)

    in_starting : (left : ℕ) (x : Bool) → s.core.mode ≡ Starting left
        → TickedTo (Starting left) (cond x (in_mode s.core (Starting (left - 1))) (at_rest Sender s.core)) None
    in_starting left true mode = quietly (in_mode s.core (Starting (left - 1))) (record { mode = inr (ap trying mode, refl); again = refl })
    in_starting left false mode = quietly (at_rest Sender s.core) (record { mode = inr (ap trying mode, resting_idle s.core.ce); again = refl })

    in_idle : (x : Bool) → payload_waits s && not s.core.flags.max_rt ≡ x → s.core.mode ≡ IdleTx → TickedTo IdleTx (cond x (begun_core s.core) s.core) None
    in_idle true t mode = on (begun_core s.core) (some_left s (h.writes.written u) (h.writes.gone u) (i.senders u s pos e) (and_parts (payload_waits s) (not s.core.flags.max_rt) t).0)
        (tries_in IdleTx mode, refl) (λ wait. let y : ◌≡◌ {A = ℕ} 0 1 = cc in absurd (omega arith))
    in_idle false t mode = quietly s.core (record { mode = inl refl; again = refl })

    in_tuning : (left : ℕ) (x : Bool) → s.core.mode ≡ Tuning left
        → TickedTo (Tuning left) (cond x (in_mode s.core (Tuning (left - 1))) (tuned Sender (retry_of s.registers) s.core)) (cond (not x && true) (oldest_packet s) None)
    in_tuning left true mode = on (in_mode s.core (Tuning (left - 1))) (under_way (Tuning left) mode refl) (tries_in (Tuning left) mode)
        (λ wait. let y : ◌≡◌ {A = ℕ} 0 1 = cc in absurd (omega arith))
    in_tuning left false mode =
        let tries = tries_in (Tuning left) mode in
        sends_oldest c d h u s a (tuned Sender (retry_of s.registers) s.core) (wait_ticks (retry_of s.registers)) pos e there regs i air sound long (under_way (Tuning left) mode refl) refl
        (ap length tries.0 ∙ sym tries.1) (omega (arith, tries.1)) (subst (λ l. All Failed l) (sym tries.0) tt)

    in_waiting_last : (left : ℕ) (x : Bool) → ltb s.core.counts.again (retry_of s.registers).count ≡ x → s.core.mode ≡ Waiting left
        → TickedTo (Waiting left) (cond x (retried (retry_of s.registers) s.core) (given_up Sender s.core)) (cond x (oldest_packet s) None)
    in_waiting_last left true t mode =
        let tries = tries_in (Waiting left) mode in
        let budget : s.core.counts.again < (retry_of s.registers).count = ltb-true s.core.counts.again (retry_of s.registers).count t in
        sends_oldest c d h u s a (retried (retry_of s.registers) s.core) (wait_ticks (retry_of s.registers)) pos e there regs i air sound long (under_way (Waiting left) mode refl) refl
        (tries.count ∙ omega arith) (omega (arith, budget)) (⊎_elim (λ p. absurd (subst (λ z. Pending z h.aired u) air p)) (λ z. z) tries.newest)
    in_waiting_last left false t mode =
        subst (λ z. Inv w f c (with_air (with_unit d u (with_core s (given_up Sender s.core))) None) (note_giving_up true z u h)) (sym (resting_waits_not s.core.ce))
        (still c d (gave_up u h) u (with_core s (given_up Sender s.core)) air (gives_up c d h u s a left pos e there regs i air sound long mode t))

    in_waiting : (left : ℕ) (x : Bool) → s.core.mode ≡ Waiting left
        → TickedTo (Waiting left) (cond x (in_mode s.core (Waiting (left - 1)))
        (cond (ltb s.core.counts.again (retry_of s.registers).count) (retried (retry_of s.registers) s.core) (given_up Sender s.core)))
        (cond (not x && ltb s.core.counts.again (retry_of s.registers).count) (oldest_packet s) None)
    in_waiting left true mode = on (in_mode s.core (Waiting (left - 1))) (under_way (Waiting left) mode refl) (tries_in (Waiting left) mode) (λ wait. ap is_waiting mode)
    in_waiting left false mode = in_waiting_last left (ltb s.core.counts.again (retry_of s.registers).count) refl mode

    in_any : (m : Mode) → s.core.mode ≡ m → TickedTo m (tick_in m Sender (retry_of s.registers) (payload_waits s) s.core) (cond (sends_in m Sender (retry_of s.registers) s.core) (oldest_packet s) None)
    in_any Shutdown mode = quietly s.core (record { mode = inl refl; again = refl })
    in_any (Starting left) mode = in_starting left (ltb 1 left) mode
    in_any Standby mode = quietly s.core (record { mode = inl refl; again = refl })
    in_any IdleTx mode = in_idle (payload_waits s && not s.core.flags.max_rt) refl mode
    in_any (Tuning left) mode = in_tuning left (ltb 1 left) mode
    in_any Rx mode = quietly s.core (record { mode = inl refl; again = refl })
    in_any (Waiting left) mode = in_waiting left (ltb 1 left) mode

  -- ---- every tick

  pub sender_tick : (c d : Inside) (h : History) (u : ℕ) (s a : State) → 1 ≤ u → unit_at d u ≡ Some s → unit_at c u ≡ Some a → s.registers ≡ a.registers → Inv w f c d h
      → s.fault ≡ None → length s.memories.at ≡ 6 → is_receiver s.registers ≡ false
      → Inv w f c (ticked w f d u) (note h d (tick u) (outcome w f d (tick u)) (ticked w f d u))
  sender_tick c d h u s a pos e there regs i sound long role =
      subst (λ m. Inv w f c (ticked_by w f m d.air d u) (note h d (tick u) (answer_of (tick_result_by w f m d.air u)) (ticked_by w f m d.air d u))) (sym e) (by d.air refl) where
        k : Core
        k = tick_in s.core.mode (role_of s.registers) (retry_of s.registers) (payload_waits s) s.core

        p : Option Packet
        p = cond (sends_in s.core.mode (role_of s.registers) (retry_of s.registers) s.core) (oldest_packet s) None

        t : Inside
        t = with_air (with_unit d u (with_core s k)) (air_of u (bits_of w f p))

        noted : d.air ≡ None → Inv w f c t (note_tick d u t h)
        noted air =
            subst (λ x. Inv w f c t (note_giving_up (waits x) (waits (unit_at t u)) u (note_sending d.air t.air u h))) (sym e)
            (subst (λ x. Inv w f c t (note_giving_up (is_waiting s.core.mode) (waits x) u (note_sending d.air t.air u h))) (sym (now_there d u s (with_core s k) e))
            (subst (λ x. Inv w f c t (note_giving_up (is_waiting s.core.mode) (is_waiting k.mode) u (note_sending x t.air u h))) (sym air)
            (subst (λ (b : Bool).
            Inv w f c (with_air (with_unit d u (with_core s (tick_in s.core.mode (cond b Receiver Sender) (retry_of s.registers) (payload_waits s) s.core)))
            (air_of u (bits_of w f (cond (sends_in s.core.mode (cond b Receiver Sender) (retry_of s.registers) s.core) (oldest_packet s) None))))
            (note_giving_up (is_waiting s.core.mode) (is_waiting (tick_in s.core.mode (cond b Receiver Sender) (retry_of s.registers) (payload_waits s) s.core).mode) u
            (note_sending None (air_of u (bits_of w f (cond (sends_in s.core.mode (cond b Receiver Sender) (retry_of s.registers) s.core) (oldest_packet s) None))) u h))) (sym role)
            (in_any c d h u s a pos e there regs i air sound long s.core.mode refl))))

        by : (b : Option Frame) → d.air ≡ b → Inv w f c (ticked_by w f (Some s) b d u) (note h d (tick u) (answer_of (tick_result_by w f (Some s) b u)) (ticked_by w f (Some s) b d u))
        by (Some x) air = i
        by None air =
            subst (λ r. Inv w f c (with_air (with_unit d u (kept_or r s (tick_state s))) (air_of u (kept_or r [] (bits_of w f (sent s)))))
            (note h d (tick u) (answer_of (done_if (of_the_unit u (unless r (length (bits_of w f (sent s)))))))
            (with_air (with_unit d u (kept_or r s (tick_state s))) (air_of u (kept_or r [] (bits_of w f (sent s))))))) (sym (tick_free s sound)) (noted air)
