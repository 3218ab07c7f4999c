-- Commands and CE at a sender keep the invariant.
use Rattle.std.proofs.Common.{◌≡◌, ℕ, suc, ◌+◌, ◌-◌, ◌≤◌, Bool, true, false, cond, not, ◌&&◌, eqb, ltb, leb, List, [], ◌∷◌, ◌++◌, length, get_or, take, drop, replicate, Some, None, Ok, Err, Option, Result, sym, refl, ap, ◌∙◌, subst, inl, inr, add-one, arith, leb-true}
use Rattle.queue.proofs.Kept.{pushed_last}
use Rattle.std.proofs.lemmas.List.{length_push}
use Rattle.std.proofs.lemmas.Bool.{and_parts, not-false}
use Rattle.std.specs.List.{slice_get}
use Rattle.frames.specs.Packet.{Bytes}
use Rattle.frames.specs.Calls.{next_pid}
use Rattle.queue.specs.Entries.{entries}
use Rattle.registers.specs.declared.register.Register.{Register}
use Rattle.registers.specs.Address.{address_of, register_at}
use Rattle.commands.specs.declared.refusal.Refusal.{Refusal as UnitRefusal}
use Rattle.commands.specs.declared.refusal.Refusal.TheVariants.{Fault, NotForUnit, DataLength, ReplyRoom, QueueFull, Unknown}
use Rattle.commands.specs.Decode.{Order, read_register, write_register, write_payload, read_payload, flush_tx, flush_rx, nop, known, ordered}
use Rattle.commands.specs.Refusals.{first_of, unless, kept_or}
use Rattle.bench.specs.Checking.{is_receiver}
use Rattle.modes.specs.declared.parts.Core.{Core}
use Rattle.modes.specs.declared.parts.Mode.{Mode}
use Rattle.modes.specs.declared.parts.Mode.TheVariants.{Shutdown, Starting, Standby, IdleTx, Tuning, Rx, Waiting}
use Rattle.modes.specs.declared.parts.Role.TheVariants.{Sender, Receiver}
use Rattle.modes.specs.Modes.{is_waiting, busy, resting, flushed as flushed_core, powered, reconfigured, raised, lowered, leveled as leveled_core}
use Rattle.unit.specs.declared.state.State.{State}
use Rattle.unit.specs.Entries.{data_of}
use Rattle.unit.specs.Units.{role_of, retry_of, with_core, or_else}
use Rattle.unit.specs.Commanding.{receiver, tx_full, refusals, order_refusal, refusal, written, queued, done, done_by, answer_of}
use Rattle.cell.specs.declared.parts.Inside.{Inside}
use Rattle.cell.specs.Refusals.{of_the_unit}
use Rattle.cell.specs.Calls.{unit_at, with_unit, commanded, command_answer_by, commanded_by, reply_by, leveled, leveled_by}
use Rattle.law.specs.Runs.{command, ce, Outcome, replied, done as accepted, refused, reply_of, outcome}
use Rattle.law.specs.Law.{History, at, wrote, flushed, note_order, note}
use Rattle.bench.proofs.Loads.{first_none}
use Rattle.law.proofs.Facts.{all_push, at_there, at_elsewhere, at_each, nth_push}
use Rattle.law.proofs.Inv.{Sendable, trying, SenderOk, TriesOk, Pending, pid_at, numbered, Inv}
use Rattle.law.proofs.Changes.{sender_changes}
use Rattle.law.proofs.Tails.{next_identity, tail_push, tail_none, Calm, tries_none, calm_tries, calm_waits, calm_busy, waiting_tries}

-- ---- refusals

fault_none : (x : Option Register) (y : Option UnitRefusal) → x ≡ None → or_else (elim x [ None ↦ None | Some r ↦ Some (Fault r) ]) y ≡ y
fault_none None y h = refl
fault_none (Some r) y h = let z : ◌≡◌ {A = ℕ} 0 1 = cc in absurd (omega arith)

pub sound_refusal : (s : State) (room : ℕ) (o : Result Order UnitRefusal) → s.fault ≡ None → refusal s room o ≡ order_refusal s room o
sound_refusal s room o h = fault_none s.fault (order_refusal s room o) h

-- ---- which bytes are a payload's

found : (r : Option Register) (g : Register → Order) (d : List ℕ) → ((x : Register) → g x ≡ write_payload d → ⊥) → known r g ≡ Ok (write_payload d) → ⊥
found None g d n h = let z : ◌≡◌ {A = ℕ} 0 1 = cc in absurd (omega arith)
found (Some x) g d n h = n x (cc)

payload_by : (b1 b2 b3 b4 b5 b6 b7 : Bool) (r q : Option Register) (e d : List ℕ)
    → cond b1 (known r (λ x. read_register x e)) (cond b2 (known q (λ x. write_register x e)) (cond b3 (Ok (read_payload e)) (cond b4 (Ok (write_payload e))
    (cond b5 (Ok (flush_tx e)) (cond b6 (Ok (flush_rx e)) (cond b7 (Ok (nop e)) (Err Unknown))))))) ≡ Ok (write_payload d) → e ≡ d
payload_by true b2 b3 b4 b5 b6 b7 r q e d h = absurd (found r (λ x. read_register x e) d (λ x k. let z : ◌≡◌ {A = ℕ} 0 1 = cc in absurd (omega arith)) h)
payload_by false true b3 b4 b5 b6 b7 r q e d h = absurd (found q (λ x. write_register x e) d (λ x k. let z : ◌≡◌ {A = ℕ} 0 1 = cc in absurd (omega arith)) h)
payload_by false false true b4 b5 b6 b7 r q e d h = let z : ◌≡◌ {A = ℕ} 0 1 = cc in absurd (omega arith)
payload_by false false false true b5 b6 b7 r q e d h = cc
payload_by false false false false true b6 b7 r q e d h = let z : ◌≡◌ {A = ℕ} 0 1 = cc in absurd (omega arith)
payload_by false false false false false true b7 r q e d h = let z : ◌≡◌ {A = ℕ} 0 1 = cc in absurd (omega arith)
payload_by false false false false false false true r q e d h = let z : ◌≡◌ {A = ℕ} 0 1 = cc in absurd (omega arith)
payload_by false false false false false false false r q e d h = let z : ◌≡◌ {A = ℕ} 0 1 = cc in absurd (omega arith)

-- the bytes written are the host's, behind the first
payload_bytes : (host d : List ℕ) → ordered host ≡ Ok (write_payload d) → Bytes host → Bytes d
unfolding ordered
payload_bytes [] d h b = let z : ◌≡◌ {A = ℕ} 0 1 = cc in absurd (omega arith)
payload_bytes (x ∷ xs) d h b =
    let e : xs ≡ d = payload_by (ltb x 0x20) (ltb x 0x40) (eqb x 0x61) (eqb x 0xA0) (eqb x 0xE1) (eqb x 0xE2) (eqb x 0xFF)
    (register_at x) (register_at (x - 0x20)) xs d h in
    subst Bytes e (λ i. b (suc i))

-- ---- modes

calm_powered : (m : Mode) (up : Bool) → Calm m (powered m up)
calm_powered Shutdown true = inr (refl, refl)
calm_powered Shutdown false = inl refl
calm_powered (Starting left) true = inl refl
calm_powered (Starting left) false = inr (refl, refl)
calm_powered Standby true = inl refl
calm_powered Standby false = inr (refl, refl)
calm_powered IdleTx true = inl refl
calm_powered IdleTx false = inr (refl, refl)
calm_powered (Tuning left) up = inl refl
calm_powered Rx up = inl refl
calm_powered (Waiting left) up = inl refl

calm_raised : (m : Mode) → Calm m (raised m Sender)
calm_raised Shutdown = inl refl
calm_raised (Starting left) = inl refl
calm_raised Standby = inr (refl, refl)
calm_raised IdleTx = inl refl
calm_raised (Tuning left) = inl refl
calm_raised Rx = inl refl
calm_raised (Waiting left) = inl refl

calm_lowered : (m : Mode) → Calm m (lowered m Sender)
calm_lowered Shutdown = inl refl
calm_lowered (Starting left) = inl refl
calm_lowered Standby = inl refl
calm_lowered IdleTx = inr (refl, refl)
calm_lowered (Tuning left) = inl refl
calm_lowered Rx = inl refl
calm_lowered (Waiting left) = inl refl

pub resting_idle : (level : Bool) → trying (resting Sender level) ≡ false
resting_idle true = refl
resting_idle false = refl

flushed_idle : (m : Mode) (level : Bool) → trying (cond (busy m) (resting Sender level) m) ≡ false
flushed_idle Shutdown level = refl
flushed_idle (Starting left) level = refl
flushed_idle Standby level = refl
flushed_idle IdleTx level = refl
flushed_idle (Tuning left) level = resting_idle level
flushed_idle Rx level = resting_idle level
flushed_idle (Waiting left) level = resting_idle level

flushed_mode : (b : Core) → trying (flushed_core b).mode ≡ false
flushed_mode b = by (busy b.mode) refl where
  by : (x : Bool) → busy b.mode ≡ x → trying (cond x (record { ce = b.ce; mode = resting Sender b.ce; config = b.config; flags = b.flags; counts = b.counts }) b).mode ≡ false
  by true e = resting_idle b.ce
  by false e = subst (λ x. trying (cond x (resting Sender b.ce) b.mode) ≡ false) e (flushed_idle b.mode b.ce)

-- a core after which a sender goes on as before
pub record Quiet (b a : Core) : Type 0 where
  pub mode : Calm b.mode a.mode
  pub again : a.counts.again ≡ b.counts.again

quiet_leveled : (level now : Bool) (b : Core) → b.ce ≡ now → Quiet b (leveled_core Sender level b)
quiet_leveled true true b e = subst (λ x. Quiet b (cond x b (record { ce = true; mode = raised b.mode Sender; config = b.config; flags = b.flags; counts = b.counts }))) (sym e)
    (record { mode = inl refl; again = refl })
quiet_leveled true false b e = subst (λ x. Quiet b (cond x b (record { ce = true; mode = raised b.mode Sender; config = b.config; flags = b.flags; counts = b.counts }))) (sym e)
    (record { mode = calm_raised b.mode; again = refl })
quiet_leveled false true b e = subst (λ x. Quiet b (cond x (record { ce = false; mode = lowered b.mode Sender; config = b.config; flags = b.flags; counts = b.counts }) b)) (sym e)
    (record { mode = calm_lowered b.mode; again = refl })
quiet_leveled false false b e = subst (λ x. Quiet b (cond x (record { ce = false; mode = lowered b.mode Sender; config = b.config; flags = b.flags; counts = b.counts }) b)) (sym e)
    (record { mode = inl refl; again = refl })

-- nothing is written down of CE
pub note_ce : (h : History) (d : Inside) (u : ℕ) (level : Bool) (o : Outcome) (t : Inside) → note h d (ce u level) o t ≡ h
note_ce h d u level (replied reply) t = refl
note_ce h d u level accepted t = refl
note_ce h d u level (refused e) t = refl

module _ (w : ℕ) (f : List Bool → ℕ) where
  -- ---- what changes nothing of what was written down

  pub quiet_sender : (c d : Inside) (h : History) (u : ℕ) (s t : State) → 1 ≤ u → unit_at d u ≡ Some s → Inv w f c d h
      → t.registers ≡ s.registers → t.fault ≡ None → length t.memories.at ≡ 6 → t.pid ≡ s.pid → t.tx ≡ s.tx → Quiet s.core t.core
      → Inv w f c (with_unit d u t) h
  quiet_sender c d h u s t pos e i regs sound long pid tx quiet =
      let ok = i.senders u s pos e in
      sender_changes w f c d h u s t h.writes h.trials pos e i regs sound long (record { more = λ k n b m. m; later = λ k. omega arith })
      (λ j n. (refl, refl, refl)) (λ j. refl)
      (record {
        within = ok.within;
        pid = pid ∙ ok.pid;
        tail = ap entries tx ∙ ok.tail;
        busy = λ b. ok.busy (calm_busy s.core.mode t.core.mode quiet.mode b);
        sendable = ok.sendable;
      })
      (subst (λ n. TriesOk t.core.mode n (retry_of t.registers).count (h.trials.exchanges u) (Pending d.air h.aired u)) (sym quiet.again)
      (subst (λ r. TriesOk t.core.mode s.core.counts.again (retry_of r).count (h.trials.exchanges u) (Pending d.air h.aired u)) (sym regs)
      (calm_tries s.core.mode t.core.mode s.core.counts.again (retry_of s.registers).count (h.trials.exchanges u) (Pending d.air h.aired u)
      quiet.mode (i.tries u s pos e))))
      (λ wait. (calm_waits s.core.mode t.core.mode quiet.mode wait, refl))

  -- ---- a payload is written

  write_keeps : (c d : Inside) (h : History) (u : ℕ) (s : State) (b : List ℕ) → 1 ≤ u → unit_at d u ≡ Some s → Inv w f c d h
      → s.fault ≡ None → length s.memories.at ≡ 6 → Sendable b → tx_full s ≡ false → Inv w f c (with_unit d u (queued s b)) (wrote u b h)
  write_keeps c d h u s b pos e i sound long sendable room =
      let ok = i.senders u s pos e in
      let old = h.writes.written u in
      let new = at u (old ++ (b ∷ [])) h.writes.written in
      let here : new u ≡ old ++ (b ∷ []) = at_there u (old ++ (b ∷ [])) h.writes.written in
      let next : next_pid s.pid ≡ pid_at (suc (length old)) = ap next_pid ok.pid ∙ sym (next_identity (length old)) in
      let one : length (old ++ (b ∷ [])) ≡ suc (length old) = length_push old b ∙ add-one (length old) in
      sender_changes w f c d h u s (queued s b) (record { written = new; gone = h.writes.gone }) h.trials pos e i refl sound long
      (record {
        more = λ k n x m. at_each (λ j l. slice_get (h.writes.written j) n ≡ Some x → slice_get l n ≡ Some x) u (old ++ (b ∷ [])) h.writes.written k
            (λ same j. nth_push old b n x (subst (λ v. slice_get (h.writes.written v) n ≡ Some x) same j)) (λ other j. j) m;
        later = λ k. omega arith;
      })
      (λ j n. (at_elsewhere u j (old ++ (b ∷ [])) h.writes.written n, refl, refl)) (λ j. refl)
      (subst (λ l. SenderOk (queued s b) l (h.writes.gone u)) (sym here) (record {
        within = omega (arith, ok.within, one);
        pid = next ∙ ap pid_at (sym one);
        tail = pushed_last s.tx (record { pid = next_pid s.pid; «data» = data_of b }) room
            ∙ ap (λ l. l ++ (record { pid = next_pid s.pid; «data» = data_of b } ∷ [])) ok.tail
            ∙ ap (λ p. numbered (h.writes.gone u) (drop (h.writes.gone u) old) ++ (record { pid = p; «data» = data_of b } ∷ [])) next
            ∙ sym (tail_push (h.writes.gone u) old b ok.within);
        busy = λ t. omega (arith, ok.busy t, one);
        sendable = all_push Sendable old b ok.sendable sendable;
      }))
      (i.tries u s pos e) (λ wait. (wait, refl))

  -- ---- all that waits is flushed

  flush_keeps : (c d : Inside) (h : History) (u : ℕ) (s : State) (b : List ℕ) → 1 ≤ u → unit_at d u ≡ Some s → Inv w f c d h
      → s.fault ≡ None → length s.memories.at ≡ 6 → Inv w f c (with_unit d u (done s (flush_tx b))) (flushed u h)
  flush_keeps c d h u s b pos e i sound long =
      let ok = i.senders u s pos e in
      let old = h.writes.written u in
      let t = done s (flush_tx b) in
      let idle : trying t.core.mode ≡ false = flushed_mode s.core in
      let gone_here : at u (length old) h.writes.gone u ≡ length old = at_there u (length old) h.writes.gone in
      let none_here : at u [] h.trials.exchanges u ≡ [] = at_there u [] h.trials.exchanges in
      sender_changes w f c d h u s t (record { written = h.writes.written; gone = at u (length old) h.writes.gone })
      (record { exchanges = at u [] h.trials.exchanges; failed = h.trials.failed }) pos e i refl sound long
      (record {
        more = λ k n x m. m;
        later = λ k. at_each (λ j n. h.writes.gone j ≤ n) u (length old) h.writes.gone k
            (λ same. subst (λ j. h.writes.gone j ≤ length old) (sym same) ok.within) (λ other. omega arith);
      })
      (λ j n. (refl, at_elsewhere u j (length old) h.writes.gone n, at_elsewhere u j [] h.trials.exchanges n)) (λ j. refl)
      (subst (λ n. SenderOk t old n) (sym gone_here) (record {
        within = omega arith;
        pid = ok.pid;
        tail = sym (tail_none old);
        busy = λ busy. let z : ◌≡◌ {A = Bool} true false = sym busy ∙ idle in let y : ◌≡◌ {A = ℕ} 0 1 = cc in absurd (omega arith);
        sendable = ok.sendable;
      }))
      (tries_none t.core.mode t.core.counts.again (retry_of t.registers).count _ _ idle none_here)
      (λ wait. let z : ◌≡◌ {A = Bool} true false = sym (waiting_tries t.core.mode wait) ∙ idle in let y : ◌≡◌ {A = ℕ} 0 1 = cc in absurd (omega arith))

  -- ---- a command that is not refused

  register_keeps : (c d : Inside) (h : History) (u : ℕ) (s : State) (r : Register) (v : ℕ) → 1 ≤ u → unit_at d u ≡ Some s → Inv w f c d h
      → s.fault ≡ None → length s.memories.at ≡ 6 → Inv w f c (with_unit d u (written s r v)) h
  register_keeps c d h u s r v pos e i sound long = by (eqb (address_of r) 0x07) where
    flags : Core
    flags = Rattle.modes.specs.Modes.flagged s.core (Rattle.commands.specs.Status.cleared s.core.flags v)

    by : (x : Bool) → Inv w f c (with_unit d u (cond x (with_core s flags) (with_core s (reconfigured v s.core)))) h
    by true = quiet_sender c d h u s (with_core s flags) pos e i refl sound long refl refl (record { mode = inl refl; again = refl })
    by false = quiet_sender c d h u s (with_core s (reconfigured v s.core)) pos e i refl sound long refl refl
        (record { mode = calm_powered s.core.mode (Rattle.registers.specs.Bits.bit 1 v); again = refl })

  done_keeps : (c d : Inside) (h : History) (u : ℕ) (s : State) (host reply : List ℕ) (room : ℕ) (o : Order) → 1 ≤ u → unit_at d u ≡ Some s → Inv w f c d h
      → s.fault ≡ None → length s.memories.at ≡ 6 → is_receiver s.registers ≡ false → Bytes host → ordered host ≡ Ok o → first_of (refusals s room o) ≡ None
      → Inv w f c (with_unit d u (done s o)) (note_order (Ok o) u reply h)
  done_keeps c d h u s host reply room (read_register r b) pos e i sound long role bytes is free =
      quiet_sender c d h u s s pos e i refl sound long refl refl (record { mode = inl refl; again = refl })
  done_keeps c d h u s host reply room (write_register r b) pos e i sound long role bytes is free = register_keeps c d h u s r (get_or b 0 0) pos e i sound long
  done_keeps c d h u s host reply room (write_payload b) pos e i sound long role bytes is free =
      let one = first_none (receiver s) NotForUnit _ free in
      let two = first_none (not (leb 1 (length b) && leb (length b) 32)) DataLength _ one.1 in
      let three = first_none (ltb room 1) ReplyRoom _ two.1 in
      let four = first_none (tx_full s) QueueFull _ three.1 in
      let fits = and_parts (leb 1 (length b)) (leb (length b) 32) (not-false (leb 1 (length b) && leb (length b) 32) two.0) in
      write_keeps c d h u s b pos e i sound long
      (record { some = leb-true 1 (length b) fits.0; few = leb-true (length b) 32 fits.1; bytes = payload_bytes host b is bytes }) four.0
  done_keeps c d h u s host reply room (read_payload b) pos e i sound long role bytes is free =
      let one = first_none (not (receiver s)) NotForUnit _ free in
      let z : ◌≡◌ {A = Bool} true false = ap not (sym role) ∙ one.0 in let y : ◌≡◌ {A = ℕ} 0 1 = cc in absurd (omega arith)
  done_keeps c d h u s host reply room (flush_tx b) pos e i sound long role bytes is free = flush_keeps c d h u s b pos e i sound long
  done_keeps c d h u s host reply room (flush_rx b) pos e i sound long role bytes is free =
      let one = first_none (not (receiver s)) NotForUnit _ free in
      let z : ◌≡◌ {A = Bool} true false = ap not (sym role) ∙ one.0 in let y : ◌≡◌ {A = ℕ} 0 1 = cc in absurd (omega arith)
  done_keeps c d h u s host reply room (nop b) pos e i sound long role bytes is free =
      quiet_sender c d h u s s pos e i refl sound long refl refl (record { mode = inl refl; again = refl })

  -- ---- every command

  ordered_keeps : (c d : Inside) (h : History) (u : ℕ) (s : State) (host buffer : List ℕ) (room n : ℕ) (o : Result Order UnitRefusal) (r : Option UnitRefusal)
      → 1 ≤ u → unit_at d u ≡ Some s → Inv w f c d h
      → s.fault ≡ None → length s.memories.at ≡ 6 → is_receiver s.registers ≡ false → Bytes host → ordered host ≡ o → order_refusal s room o ≡ r
      → Inv w f c (with_unit d u (kept_or r s (done_by s o)))
      (note h d (command u host room) (reply_of (of_the_unit u (unless r n)) buffer) (with_unit d u (kept_or r s (done_by s o))))
  ordered_keeps c d h u s host buffer room n o (Some x) pos e i sound long role bytes is free =
      quiet_sender c d h u s s pos e i refl sound long refl refl (record { mode = inl refl; again = refl })
  ordered_keeps c d h u s host buffer room n (Err x) None pos e i sound long role bytes is free = let z : ◌≡◌ {A = ℕ} 0 1 = cc in absurd (omega arith)
  ordered_keeps c d h u s host buffer room n (Ok o) None pos e i sound long role bytes is free =
      subst (λ x. Inv w f c (with_unit d u (done s o)) (note_order x u (take n buffer) h)) (sym is) (done_keeps c d h u s host (take n buffer) room o pos e i sound long role bytes is free)

  pub sender_command : (c d : Inside) (h : History) (u : ℕ) (s : State) (host : List ℕ) (room : ℕ) → 1 ≤ u → unit_at d u ≡ Some s → Inv w f c d h
      → s.fault ≡ None → length s.memories.at ≡ 6 → is_receiver s.registers ≡ false → Bytes host
      → Inv w f c (commanded d u host room) (note h d (command u host room) (outcome w f d (command u host room)) (commanded d u host room))
  sender_command c d h u s host room pos e i sound long role bytes =
      let buffer = reply_by (Some s) host (replicate room 0) in
      subst (λ m. Inv w f c (commanded_by m d u host room)
      (note h d (command u host room) (reply_of (command_answer_by m u host room) (reply_by m host (replicate room 0))) (commanded_by m d u host room))) (sym e)
      (subst (λ r. Inv w f c (with_unit d u (kept_or r s (done_by s (ordered host))))
      (note h d (command u host room) (reply_of (of_the_unit u (unless r (1 + length (answer_of s (ordered host))))) buffer) (with_unit d u (kept_or r s (done_by s (ordered host))))))
      (sym (sound_refusal s room (ordered host) sound))
      (ordered_keeps c d h u s host buffer room (1 + length (answer_of s (ordered host))) (ordered host) (order_refusal s room (ordered host)) pos e i sound long role bytes refl refl))

  -- ---- the level of CE

  pub sender_ce : (c d : Inside) (h : History) (u : ℕ) (s : State) (level : Bool) → 1 ≤ u → unit_at d u ≡ Some s → Inv w f c d h
      → s.fault ≡ None → length s.memories.at ≡ 6 → is_receiver s.registers ≡ false
      → Inv w f c (leveled d u level) (note h d (ce u level) (outcome w f d (ce u level)) (leveled d u level))
  sender_ce c d h u s level pos e i sound long role =
      subst (λ g. Inv w f c (leveled d u level) g) (sym (note_ce h d u level (outcome w f d (ce u level)) (leveled d u level)))
      (subst (λ m. Inv w f c (leveled_by m d u level) h) (sym e)
      (by s.fault sound)) where
        at_level : Inv w f c (with_unit d u (with_core s (leveled_core (role_of s.registers) level s.core))) h
        at_level = quiet_sender c d h u s (with_core s (leveled_core (role_of s.registers) level s.core)) pos e i refl sound long refl refl
            (subst (λ x. Quiet s.core (leveled_core (cond x Receiver Sender) level s.core)) (sym role) (quiet_leveled level s.core.ce s.core refl))

        by : (x : Option Register) → x ≡ None
            → Inv w f c (with_unit d u (kept_or (elim x [ None ↦ None | Some r ↦ Some (Fault r) ]) s (with_core s (leveled_core (role_of s.registers) level s.core)))) h
        by None k = at_level
        by (Some r) k = let z : ◌≡◌ {A = ℕ} 0 1 = cc in absurd (omega arith)
