-- A carry after which the air is empty and no unit changed; and what every carry needs.
use Rattle.std.proofs.Common.{◌≡◌, ℕ, suc, ◌≤◌, Bool, true, false, cond, ◌&&◌, ◌||◌, ltb, ◌⊎◌, List, [], ◌∷◌, length, drop, Some, Option, sym, refl, ap, ◌∙◌, subst, inl, inr, ⊎_elim, append-nil, arith, le-ltb, None}
use Rattle.std.proofs.Math.Bool.{or-true, and-false}
use Rattle.std.proofs.lemmas.Bool.{cases_eq}
use Rattle.std.proofs.Math.Path.{fun_ext}
use Rattle.modes.specs.declared.parts.Mode.{Mode}
use Rattle.modes.specs.declared.parts.Mode.TheVariants.{Shutdown, Starting, Standby, IdleTx, Tuning, Rx, Waiting}
use Rattle.modes.specs.Modes.{is_waiting}
use Rattle.unit.specs.declared.state.State.{State}
use Rattle.unit.specs.Units.{retry_of}
use Rattle.cell.specs.declared.air.Frame.{Frame}
use Rattle.cell.specs.declared.parts.Inside.{Inside}
use Rattle.cell.specs.Calls.{unit_at, with_air}
use Rattle.law.specs.Lists.{All}
use Rattle.law.specs.Law.{Payload, Exchange, Counting, History, at, oldest, tx_length, touched, touching, taking, shrank, note_counting, with_receipts}
use Rattle.law.proofs.Terms.{Like}
use Rattle.law.proofs.Facts.{at_there, at_elsewhere}
use Rattle.law.proofs.Inv.{other_trials, Failed, TriesOk, Pending, AirOk, Inv}
use Rattle.law.proofs.Ticks.{repend}

-- ---- the units by their places are all that counts

module _ (w : ℕ) (f : List Bool → ℕ) where
  pub by_places : (c d e : Inside) (h : History) → ((u : ℕ) → unit_at d u ≡ unit_at e u) → d.air ≡ e.air → Inv w f c d h → Inv w f c e h
  by_places c d e h same air i = record {
    like = λ u. subst (λ z. Like (unit_at c u) z) (same u) (i.like u);
    senders = λ k s one there. i.senders k s one (same k ∙ there);
    tries = λ k s one there. subst (λ a. TriesOk s.core.mode s.core.counts.again (retry_of s.registers).count (h.trials.exchanges k) (Pending a h.aired k)) air
        (i.tries k s one (same k ∙ there));
    receiver = λ r there. i.receiver r (same 0 ∙ there);
    memories = λ r there. i.memories r (same 0 ∙ there);
    taken = i.taken;
    order = i.order;
    air = subst (λ a. AirOk w f c e h a) air (moved d.air i.air);
    law = i.law;
  } where
    moved : (a : Option Frame) → AirOk w f c d h a → AirOk w f c e h a
    moved None o = tt
    moved (Some x) o = (
      o.0,
      o.1,
      o.2,
      record {
        sender = o.3.sender;
        unit = o.3.unit;
        there = o.3.there;
        bytes = o.3.bytes;
        written = o.3.written;
        aimed = λ s there wait. o.3.aimed s (same o.0 ∙ there) wait;
        gone = o.3.gone;
        kind = o.3.kind;
      },
    )

-- ---- what is written down of a carry

-- no sender accepted an acknowledgement
pub none_counted : (s t : Inside) (h : History) → ((k : ℕ) → shrank s t k ≡ false) → note_counting s t h ≡ h
none_counted s t h none =
    let gone : (λ k. cond (shrank s t k) (suc (h.writes.gone k)) (h.writes.gone k)) ≡ h.writes.gone =
    fun_ext (λ k. ap (λ b. cond b (suc (h.writes.gone k)) (h.writes.gone k)) (none k)) in
    let counted : (λ k. cond (shrank s t k) (record { payload = oldest h.writes k; taken = h.receipts.taken; answered = h.receipts.answered } ∷ h.counted k) (h.counted k)) ≡ h.counted =
    fun_ext (λ k. ap (λ b. cond b (record { payload = oldest h.writes k; taken = h.receipts.taken; answered = h.receipts.answered } ∷ h.counted k) (h.counted k)) (none k)) in
    let exchanges : (λ k. cond (shrank s t k) [] (h.trials.exchanges k)) ≡ h.trials.exchanges =
    fun_ext (λ k. ap (λ b. cond b [] (h.trials.exchanges k)) (none k)) in
    ap (λ (g : ℕ → ℕ). record {
      writes = record { written = h.writes.written; gone = g };
      aired = h.aired;
      receipts = h.receipts;
      counted = λ k. cond (shrank s t k) (record { payload = oldest h.writes k; taken = h.receipts.taken; answered = h.receipts.answered } ∷ h.counted k) (h.counted k);
      trials = record { exchanges = λ k. cond (shrank s t k) [] (h.trials.exchanges k); failed = h.trials.failed };
    }) gone
    ∙ ap (λ (g : ℕ → List Counting). record {
      writes = h.writes;
      aired = h.aired;
      receipts = h.receipts;
      counted = g;
      trials = record { exchanges = λ k. cond (shrank s t k) [] (h.trials.exchanges k); failed = h.trials.failed };
    }) counted
    ∙ ap (λ (g : ℕ → List Exchange). record { writes = h.writes; aired = h.aired; receipts = h.receipts; counted = h.counted; trials = record { exchanges = g; failed = h.trials.failed } }) exchanges

pub same_shrank : (s t : Inside) (k : ℕ) → unit_at t k ≡ unit_at s k → shrank s t k ≡ false
same_shrank s t k e = ap (λ u. ltb (tx_length u) (tx_length (unit_at s k))) e ∙ le-ltb (tx_length (unit_at s k)) (tx_length (unit_at s k)) (omega arith)

-- nothing was taken
pub none_taken : (n : ℕ) (p : Payload) (h : History) → n ≡ 0 → taking n p h ≡ h
none_taken n p h e =
    ap (λ m. taking m p h) e
    ∙ ap (λ l. with_receipts (record { taken = h.receipts.taken; unread = l; answered = h.receipts.answered; reads = h.receipts.reads }) h) (append-nil h.receipts.unread)

-- ---- the newest exchange

length_touched : (bad free : Bool) (xs : List Exchange) → length (touched bad free xs) ≡ length xs
length_touched bad free [] = refl
length_touched bad free (x ∷ xs) = refl

rest_touched : (bad free : Bool) (xs : List Exchange) → drop 1 (touched bad free xs) ≡ drop 1 xs
rest_touched bad free [] = refl
rest_touched bad free (x ∷ xs) = refl

failed_touched : (bad free : Bool) (xs : List Exchange) → (bad ≡ true) ⊎ (free ≡ false) → All Failed (drop 1 xs) → All Failed (touched bad free xs)
failed_touched bad free [] why a = tt
failed_touched bad free (x ∷ xs) why a =
    (⊎_elim (λ e. inl (ap (λ b. x.spoiled || b) e ∙ or-true x.spoiled)) (λ e. inr (ap (λ b. x.ready && b) e ∙ and-false x.ready)) why, a)

-- it failed, or what is pending goes on
pub touched_tries : (m : Mode) (again arc : ℕ) (bad free : Bool) (xs : List Exchange) (P Q : Type 0) → (is_waiting m ≡ true → Q ⊎ ((bad ≡ true) ⊎ (free ≡ false)))
    → TriesOk m again arc xs P → TriesOk m again arc (touched bad free xs) Q
touched_tries Shutdown again arc bad free xs P Q why t = ap (touched bad free) t
touched_tries (Starting left) again arc bad free xs P Q why t = ap (touched bad free) t
touched_tries Standby again arc bad free xs P Q why t = ap (touched bad free) t
touched_tries IdleTx again arc bad free xs P Q why t = ap (touched bad free) t
touched_tries (Tuning left) again arc bad free xs P Q why t = (ap (touched bad free) t.0, t.1)
touched_tries Rx again arc bad free xs P Q why t = ap (touched bad free) t
touched_tries (Waiting left) again arc bad free xs P Q why t = record {
  count = length_touched bad free xs ∙ t.count;
  budget = t.budget;
  earlier = subst (λ l. All Failed l) (sym (rest_touched bad free xs)) t.earlier;
  newest = ⊎_elim (λ q. inl q) (λ e. inr (failed_touched bad free xs e t.earlier)) (why refl);
}

module _ (w : ℕ) (f : List Bool → ℕ) where
  -- the exchanges of every sender after the carry of a frame of sender k, or of its answer
  pub tries_carried : (c d : Inside) (h : History) (k : ℕ) (bad free : Bool) (a : Option Frame) (o : Option Payload)
      → ((v : ℕ) → Pending d.air h.aired v → v ≡ k) → Inv w f c d h
      → ((s : State) → unit_at d k ≡ Some s → is_waiting s.core.mode ≡ true → Pending a o k ⊎ ((bad ≡ true) ⊎ (free ≡ false)))
      → (v : ℕ) (s : State) → 1 ≤ v → unit_at d v ≡ Some s
      → TriesOk s.core.mode s.core.counts.again (retry_of s.registers).count (at k (touched bad free (h.trials.exchanges k)) h.trials.exchanges v) (Pending a o v)
  tries_carried c d h k bad free a o only i why v s one there =
      ⊎_elim
      (λ same.
      let at_k : unit_at d k ≡ Some s = subst (λ j. unit_at d j ≡ Some s) same there in
      subst (λ j. TriesOk s.core.mode s.core.counts.again (retry_of s.registers).count (at k (touched bad free (h.trials.exchanges k)) h.trials.exchanges j) (Pending a o j)) (sym same)
      (subst (λ l. TriesOk s.core.mode s.core.counts.again (retry_of s.registers).count l (Pending a o k)) (sym (at_there k (touched bad free (h.trials.exchanges k)) h.trials.exchanges))
      (touched_tries s.core.mode s.core.counts.again (retry_of s.registers).count bad free (h.trials.exchanges k) (Pending d.air h.aired k) (Pending a o k) (why s at_k)
      (i.tries k s (subst (λ j. 1 ≤ j) same one) at_k))))
      (λ other.
      subst (λ l. TriesOk s.core.mode s.core.counts.again (retry_of s.registers).count l (Pending a o v)) (sym (at_elsewhere k v (touched bad free (h.trials.exchanges k)) h.trials.exchanges other))
      (repend s.core.mode s.core.counts.again (retry_of s.registers).count (h.trials.exchanges v) (Pending d.air h.aired v) (Pending a o v)
      (λ p. absurd (other (only v p))) (i.tries v s one there))) (cases_eq v k)

  -- nobody heard anything, or nobody that heard it changed
  pub quiet_carry : (c d : Inside) (h : History) (k : ℕ) (bad free : Bool)
      → ((v : ℕ) → Pending d.air h.aired v → v ≡ k) → Inv w f c d h
      → ((s : State) → unit_at d k ≡ Some s → is_waiting s.core.mode ≡ true → (bad ≡ true) ⊎ (free ≡ false))
      → Inv w f c (with_air d None) (touching k bad free h)
  quiet_carry c d h k bad free only i why = record {
    like = i.like;
    senders = i.senders;
    tries = tries_carried c d h k bad free None h.aired only i (λ s there wait. inr (why s there wait));
    receiver = i.receiver;
    memories = i.memories;
    taken = i.taken;
    order = i.order;
    air = tt;
    law = other_trials i.law _ _ i.law.no_giving_up_within_the_retry_budget;
  }
