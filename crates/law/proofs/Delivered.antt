-- A sender accepts the acknowledgement of its oldest payload.
use Rattle.std.proofs.Common.{◌≡◌, ℕ, suc, ◌<◌, ◌≤◌, Bool, true, false, cond, not, ◌&&◌, eqb, ◌⊎◌, List, [], ◌∷◌, length, drop, Some, None, sym, refl, ap, ◌∙◌, subst, inl, inr, ⊎_elim, arith, lt-ltb, Option}
use Rattle.queue.proofs.Kept.{popped_rest}
use Rattle.std.proofs.lemmas.Bool.{and_parts, not-true, eqb-false, cases_eq}
use Rattle.queue.specs.Entries.{entries, popped}
use Rattle.modes.specs.declared.parts.Core.{Core}
use Rattle.modes.specs.declared.parts.Mode.{Mode}
use Rattle.modes.specs.declared.parts.Mode.TheVariants.{Shutdown, Starting, Standby, IdleTx, Tuning, Rx, Waiting}
use Rattle.modes.specs.declared.parts.Role.TheVariants.{Sender}
use Rattle.modes.specs.Modes.{is_waiting, resting, acknowledged}
use Rattle.unit.specs.declared.state.State.{State}
use Rattle.unit.specs.Units.{retry_of}
use Rattle.unit.specs.Hearing.{delivered}
use Rattle.cell.specs.declared.air.Frame.{Frame}
use Rattle.cell.specs.declared.parts.Inside.{Inside}
use Rattle.cell.specs.Calls.{unit_at, with_unit, with_air}
use Rattle.law.specs.Lists.{All, SomeOf, In}
use Rattle.law.specs.Law.{Counting, Exchange, History, Writes, oldest}
use Rattle.law.specs.Law.{Mistaken, Accounted}
use Rattle.law.proofs.Inv.{SenderOk, trying, TriesOk, Pending, numbered, AirOk, Inv}
use Rattle.law.proofs.Grows.{Extends, mistaken_grows}
use Rattle.law.proofs.Changes.{sender_changes, now_there}
use Rattle.law.proofs.Tails.{tail_rest, tail_length, tries_none, waiting_tries}
use Rattle.law.proofs.Senders.{resting_idle}
use Rattle.law.proofs.Ticks.{repend}

-- ---- modes

-- after an acknowledgement a new transaction begins, or nothing is under way
abbrev rested : Core → Core
rested b = record { ce = b.ce; mode = resting Sender b.ce; config = b.config; flags = record { rx_dr = b.flags.rx_dr; tx_ds = true; max_rt = b.flags.max_rt }; counts = b.counts }

abbrev begun : Core → Core
begun b = record {
  ce = b.ce;
  mode = Tuning 13;
  config = b.config;
  flags = record { rx_dr = b.flags.rx_dr; tx_ds = true; max_rt = b.flags.max_rt };
  counts = record { again = 0; lost = b.counts.lost };
}

either : (P : Core → Type 0) (b : Core) (x left : Bool) → (left ≡ true → P (begun b)) → P (rested b) → b.ce && left ≡ x → P (cond x (begun b) (rested b))
either P b true left begins rests e = begins (and_parts b.ce left e).1
either P b false left begins rests e = rests

-- P of the core after an acknowledgement
pub after_acknowledgement : (P : Core → Type 0) (b : Core) (left : Bool) → (left ≡ true → P (begun b)) → P (rested b) → P (acknowledged left b)
after_acknowledgement P b left begins rests = either P b (b.ce && left) left begins rests refl

module _ (w : ℕ) (f : List Bool → ℕ) where
  -- ---- the air falls silent

  silence : (c d : Inside) (h : History) → Inv w f c d h
      → ((v : ℕ) (s : State) → 1 ≤ v → unit_at d v ≡ Some s → is_waiting s.core.mode ≡ true → Pending d.air h.aired v → ⊥) → Inv w f c (with_air d None) h
  silence c d h i none = record {
    like = i.like;
    senders = i.senders;
    tries = λ v s one there. silent s.core.mode s.core.counts.again (retry_of s.registers).count (h.trials.exchanges v) (Pending d.air h.aired v) (none v s one there) (i.tries v s one there);
    receiver = i.receiver;
    memories = i.memories;
    taken = i.taken;
    order = i.order;
    air = tt;
    law = i.law;
  } where
    silent : (m : Mode) (again arc : ℕ) (xs : List Exchange) (P : Type 0) → (is_waiting m ≡ true → P → ⊥) → TriesOk m again arc xs P → TriesOk m again arc xs ⊥
    silent Shutdown again arc xs P g t = t
    silent (Starting left) again arc xs P g t = t
    silent Standby again arc xs P g t = t
    silent IdleTx again arc xs P g t = t
    silent (Tuning left) again arc xs P g t = t
    silent Rx again arc xs P g t = t
    silent (Waiting left) again arc xs P g t =
        repend (Waiting left) again arc xs P ⊥ (λ p. g refl p) t

  -- ---- a payload is noted as counted

  counted_noted : (c d : Inside) (h : History) (k : ℕ) (new : Counting) (counted : ℕ → List Counting) → Inv w f c d h → Accounted f c h.writes new
      → counted k ≡ new ∷ h.counted k → ((j : ℕ) → (j ≡ k → ⊥) → counted j ≡ h.counted j)
      → Inv w f c d (record { writes = h.writes; aired = h.aired; receipts = h.receipts; counted = counted; trials = h.trials })
  counted_noted c d h k new counted i ok here elsewhere = record {
    like = i.like;
    senders = i.senders;
    tries = i.tries;
    receiver = i.receiver;
    memories = i.memories;
    taken = i.taken;
    order = i.order;
    air = same d.air i.air;
    law = record {
      reads_are_writes = i.law.reads_are_writes;
      in_order = i.law.in_order;
      sent_means_taken = λ j. ⊎_elim
          (λ it. subst (λ v. All (Accounted f c h.writes) (counted v)) (sym it) (subst (λ l. All (Accounted f c h.writes) l) (sym here) (ok, i.law.sent_means_taken k)))
          (λ other. subst (λ l. All (Accounted f c h.writes) l) (sym (elsewhere j other)) (i.law.sent_means_taken j)) (cases_eq j k);
      no_giving_up_within_the_retry_budget = i.law.no_giving_up_within_the_retry_budget;
    };
  } where
    g : History
    g = record { writes = h.writes; aired = h.aired; receipts = h.receipts; counted = counted; trials = h.trials }

    same : (a : Option Frame) → AirOk w f c d h a → AirOk w f c d g a
    same None o = tt
    same (Some x) o = (
      o.0,
      o.1,
      o.2,
      record {
        sender = o.3.sender;
        unit = o.3.unit;
        there = o.3.there;
        bytes = o.3.bytes;
        written = o.3.written;
        aimed = o.3.aimed;
        gone = o.3.gone;
        kind = o.3.kind;
      },
    )

  -- ---- the acknowledgement

  pub delivers : (c d : Inside) (h : History) (k n : ℕ) (s : State) (gone : ℕ → ℕ) (counted : ℕ → List Counting) (exchanges : ℕ → List Exchange)
      → 1 ≤ k → unit_at d k ≡ Some s → s.fault ≡ None → length s.memories.at ≡ 6 → is_waiting s.core.mode ≡ true → Inv w f c d h
      → ((v : ℕ) → Pending d.air h.aired v → v ≡ k) → h.writes.gone k ≡ n
      → (In (record { sender = k; number = n }) h.receipts.taken ⊎ SomeOf (Mistaken f c h.writes (record { sender = k; number = n })) h.receipts.answered)
      → gone k ≡ suc (h.writes.gone k) → ((j : ℕ) → (j ≡ k → ⊥) → gone j ≡ h.writes.gone j)
      → counted k ≡ record { payload = oldest h.writes k; taken = h.receipts.taken; answered = h.receipts.answered } ∷ h.counted k → ((j : ℕ) → (j ≡ k → ⊥) → counted j ≡ h.counted j)
      → exchanges k ≡ [] → ((j : ℕ) → (j ≡ k → ⊥) → exchanges j ≡ h.trials.exchanges j)
      → Inv w f c (with_air (with_unit d k (delivered s)) None)
      (record {
        writes = record { written = h.writes.written; gone = gone };
        aired = h.aired;
        receipts = h.receipts;
        counted = counted;
        trials = record { exchanges = exchanges; failed = h.trials.failed };
      })
  delivers c d h k n s gone counted exchanges pos e sound six waits i only aimed accounted gone_here gone_there counted_here counted_there none_here same_there =
      let ok = i.senders k s pos e in
      let some : h.writes.gone k < length (h.writes.written k) = ok.busy (waiting_tries s.core.mode waits) in
      let x : Writes = record { written = h.writes.written; gone = gone } in
      let grow : Extends h.writes x = record {
        more = λ j m b z. z;
        later = λ j. ⊎_elim (λ it. subst (λ v. h.writes.gone v ≤ gone v) (sym it) (omega (arith, gone_here))) (λ other. omega (arith, gone_there j other)) (cases_eq j k);
      } in
      let left = not (eqb (length (entries (popped s.tx))) 0) in
      let rest : entries (popped s.tx) ≡ numbered (suc (h.writes.gone k)) (drop (suc (h.writes.gone k)) (h.writes.written k)) =
      popped_rest s.tx ∙ ap (drop 1) ok.tail ∙ tail_rest (h.writes.gone k) (h.writes.written k) in
      let more : left ≡ true → suc (h.writes.gone k) < length (h.writes.written k) = λ z.
      omega (
        arith,
        tail_length (suc (h.writes.gone k)) (h.writes.written k) (omega (arith, some)),
        ap length rest,
        eqb-false (length (entries (popped s.tx))) 0 (not-true (eqb (length (entries (popped s.tx))) 0) z),
      ) in
      let idle = resting_idle s.core.ce in
      let changed = sender_changes w f c d h k s (delivered s) x (record { exchanges = exchanges; failed = h.trials.failed }) pos e i refl sound six grow
      (λ j other. (refl, gone_there j other, same_there j other)) (λ j. refl)
      (subst (λ m. SenderOk (delivered s) (h.writes.written k) m) (sym gone_here) (record {
        within = omega (arith, some);
        pid = ok.pid;
        tail = rest;
        busy = after_acknowledgement (λ b. trying b.mode ≡ true → suc (h.writes.gone k) < length (h.writes.written k)) s.core left (λ z _. more z)
            (λ b. let z : ◌≡◌ {A = Bool} true false = sym b ∙ idle in let y : ◌≡◌ {A = ℕ} 0 1 = cc in absurd (omega arith));
        sendable = ok.sendable;
      }))
      (after_acknowledgement (λ b. TriesOk b.mode b.counts.again (retry_of s.registers).count (exchanges k) (Pending d.air h.aired k)) s.core left (λ _. (none_here, refl))
      (tries_none (resting Sender s.core.ce) s.core.counts.again (retry_of s.registers).count (exchanges k) (Pending d.air h.aired k) idle none_here))
      (after_acknowledgement (λ b. is_waiting b.mode ≡ true → (is_waiting s.core.mode ≡ true) × (gone k ≡ h.writes.gone k)) s.core left
      (λ _ b. let y : ◌≡◌ {A = ℕ} 0 1 = cc in absurd (omega arith))
      (λ b. let z : ◌≡◌ {A = Bool} true false = sym (waiting_tries (resting Sender s.core.ce) b) ∙ idle in let y : ◌≡◌ {A = ℕ} 0 1 = cc in absurd (omega arith))) in
      let g : History = record { writes = x; aired = h.aired; receipts = h.receipts; counted = h.counted; trials = record { exchanges = exchanges; failed = h.trials.failed } } in
      let noted = counted_noted c (with_unit d k (delivered s)) g k (record { payload = oldest h.writes k; taken = h.receipts.taken; answered = h.receipts.answered }) counted changed
      (record {
        payload = record { sender = k; number = n };
        named = ap (λ z. cond z (Some (record { sender = k; number = h.writes.gone k })) None) (lt-ltb (h.writes.gone k) (length (h.writes.written k)) some)
            ∙ ap (λ m. Some (record { sender = k; number = m })) aimed;
        taken = ⊎_elim (λ z. inl z) (λ z. inr (mistaken_grows f c h.writes x grow (record { sender = k; number = n }) h.receipts.answered z)) accounted;
      }) counted_here counted_there in
      silence c (with_unit d k (delivered s)) (record { writes = x; aired = h.aired; receipts = h.receipts; counted = counted; trials = record { exchanges = exchanges; failed = h.trials.failed } }) noted
      (λ v y one there wait pending.
      let it : v ≡ k = only v pending in
      let at_k : unit_at (with_unit d k (delivered s)) k ≡ Some y = subst (λ j. unit_at (with_unit d k (delivered s)) j ≡ Some y) it there in
      let same : delivered s ≡ y = cc (now_there d k s (delivered s) e, at_k) in
      let waits_still : is_waiting (delivered s).core.mode ≡ true = subst (λ z. is_waiting z.core.mode ≡ true) (sym same) wait in
      after_acknowledgement (λ b. is_waiting b.mode ≡ true → ⊥) s.core left
      (λ _ b. let y : ◌≡◌ {A = ℕ} 0 1 = cc in absurd (omega arith))
      (λ b. let z : ◌≡◌ {A = Bool} true false = sym (waiting_tries (resting Sender s.core.ce) b) ∙ idle in let y : ◌≡◌ {A = ℕ} 0 1 = cc in absurd (omega arith)) waits_still)
