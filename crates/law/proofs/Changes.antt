-- One unit changes, and the notes with it: what the rest of the invariant asks.
use Rattle.std.proofs.Common.{◌≡◌, ℕ, ◌≤◌, Bool, true, List, [], length, Some, None, Option, sym, refl, ap, ◌∙◌, subst, inl, inr, ⊎_elim, arith}
use Rattle.std.proofs.lemmas.List.{get_or-set_same, get_or-set_other}
use Rattle.std.proofs.lemmas.Bool.{cases_eq}
use Rattle.queue.specs.Entries.{entries}
use Rattle.modes.specs.Modes.{is_waiting}
use Rattle.unit.specs.declared.state.State.{State}
use Rattle.unit.specs.Units.{retry_of}
use Rattle.unit.specs.Hearing.{recalled}
use Rattle.cell.specs.declared.air.Frame.{Frame}
use Rattle.cell.specs.declared.parts.Inside.{Inside}
use Rattle.cell.specs.Calls.{unit_at, with_unit}
use Rattle.law.specs.Lists.{All}
use Rattle.law.specs.Law.{Payload, Read, Writes, Trials, Receipts, History, with_receipts, pipe_of_sender}
use Rattle.law.specs.Law.{ReadsAWrite, InOrder, OverBudget, Lawful}
use Rattle.law.proofs.Terms.{Like, AllLike}
use Rattle.law.proofs.Facts.{there_within}
use Rattle.law.proofs.Inv.{other_receipts, SenderOk, TriesOk, Pending, EntriesOk, MemoryOk, last_number, OrderOk, PayloadFrame, OnAir, AirOk, Inv}
use Rattle.law.proofs.Grows.{Extends, entries_grow, taken_grows, mistaken_grows, accounted_grows, memory_grows, reads_grow}

-- ---- a unit in place of another

pub now_there : (d : Inside) (u : ℕ) (s t : State) → unit_at d u ≡ Some s → unit_at (with_unit d u t) u ≡ Some t
now_there d u s t e = get_or-set_same d.places.at u (Some t) None (there_within d.places.at u s e)

pub now_elsewhere : (d : Inside) (u v : ℕ) (t : State) → (v ≡ u → ⊥) → unit_at (with_unit d u t) v ≡ unit_at d v
now_elsewhere d u v t n = get_or-set_other d.places.at u v (Some t) None n

-- what is at a place afterwards is the new unit, or what was there
pub now_is : (P : ℕ → State → Type 0) (d : Inside) (u : ℕ) (s t : State) → unit_at d u ≡ Some s → P u t
    → ((v : ℕ) (y : State) → (v ≡ u → ⊥) → unit_at d v ≡ Some y → P v y)
    → (v : ℕ) (y : State) → unit_at (with_unit d u t) v ≡ Some y → P v y
now_is P d u s t e here there v y k =
    ⊎_elim (λ same.
    let at_u : unit_at (with_unit d u t) u ≡ Some y = subst (λ i. unit_at (with_unit d u t) i ≡ Some y) same k in
    let it : t ≡ y = cc (now_there d u s t e, at_u) in
    subst (λ i. P i y) (sym same) (subst (λ z. P u z) it here))
    (λ other. there v y other (sym (now_elsewhere d u v t other) ∙ k)) (cases_eq v u)

like_next : (a : Option State) (s t : State) → t.registers ≡ s.registers → t.fault ≡ None → length t.memories.at ≡ 6 → Like a (Some s) → Like a (Some t)
like_next None s t r f m h = absurd h
like_next (Some a) s t r f m h = (r ∙ h.0, f, m)

pub like_changes : (c d : Inside) (u : ℕ) (s t : State) → unit_at d u ≡ Some s → t.registers ≡ s.registers → t.fault ≡ None → length t.memories.at ≡ 6
    → AllLike c d → AllLike c (with_unit d u t)
like_changes c d u s t e r f m i v =
    ⊎_elim (λ same. subst (λ i. Like (unit_at c i) (unit_at (with_unit d u t) i)) (sym same)
    (subst (λ z. Like (unit_at c u) z) (sym (now_there d u s t e)) (like_next (unit_at c u) s t r f m (subst (λ z. Like (unit_at c u) z) e (i u)))))
    (λ other. subst (λ z. Like (unit_at c v) z) (sym (now_elsewhere d u v t other)) (i v)) (cases_eq v u)

module _ (w : ℕ) (f : List Bool → ℕ) where
  -- the frame on the air goes on to be what it was
  pub on_air_changes : (c d e : Inside) (h g : History) → Extends h.writes g.writes → h.receipts.taken ≡ g.receipts.taken → h.receipts.answered ≡ g.receipts.answered
      → ((k n : ℕ) → 1 ≤ k → ((s : State) → unit_at d k ≡ Some s → is_waiting s.core.mode ≡ true → h.writes.gone k ≡ n)
      → (s : State) → unit_at e k ≡ Some s → is_waiting s.core.mode ≡ true → g.writes.gone k ≡ n)
      → (x : Frame) (k n : ℕ) → OnAir w f c d h x k n → OnAir w f c e g x k n
  on_air_changes c d e h g grow taken answered aimed x k n o = record {
    sender = o.sender;
    unit = o.unit;
    there = o.there;
    bytes = o.bytes;
    written = grow.more k n o.bytes o.written;
    aimed = aimed k n o.sender o.aimed;
    gone = omega (arith, o.gone, grow.later k);
    kind = ⊎_elim
        (λ p. inl (subst (λ l. PayloadFrame w f x k n o.unit o.bytes l) taken p))
        (λ p. inr (
          p.0,
          ⊎_elim (λ i. inl (subst (λ l. Rattle.law.specs.Lists.In (record { sender = k; number = n }) l) taken i))
              (λ m. inr (subst (λ l. Rattle.law.specs.Lists.SomeOf (Rattle.law.specs.Law.Mistaken f c g.writes (record { sender = k; number = n })) l) answered
              (mistaken_grows f c h.writes g.writes grow (record { sender = k; number = n }) h.receipts.answered m))) p.1,
        )) o.kind;
  }

  pub air_changes : (c d e : Inside) (h g : History) → Extends h.writes g.writes → h.receipts.taken ≡ g.receipts.taken → h.receipts.answered ≡ g.receipts.answered
      → h.aired ≡ g.aired
      → ((k n : ℕ) → 1 ≤ k → ((s : State) → unit_at d k ≡ Some s → is_waiting s.core.mode ≡ true → h.writes.gone k ≡ n)
      → (s : State) → unit_at e k ≡ Some s → is_waiting s.core.mode ≡ true → g.writes.gone k ≡ n)
      → (a : Option Frame) → AirOk w f c d h a → AirOk w f c e g a
  air_changes c d e h g grow taken answered aired aimed None o = tt
  air_changes c d e h g grow taken answered aired aimed (Some x) o =
      (o.0, o.1, sym aired ∙ o.2, on_air_changes c d e h g grow taken answered aimed x o.0 o.1 o.3)

  -- ---- a sender changes, its writes and its exchanges

  pub sender_changes : (c d : Inside) (h : History) (u : ℕ) (s t : State) (x : Writes) (tr : Trials)
      → 1 ≤ u → unit_at d u ≡ Some s → Inv w f c d h
      → t.registers ≡ s.registers → t.fault ≡ None → length t.memories.at ≡ 6
      → Extends h.writes x
      → ((j : ℕ) → (j ≡ u → ⊥) → (x.written j ≡ h.writes.written j) × (x.gone j ≡ h.writes.gone j) × (tr.exchanges j ≡ h.trials.exchanges j))
      → ((j : ℕ) → tr.failed j ≡ h.trials.failed j)
      → SenderOk t (x.written u) (x.gone u)
      → TriesOk t.core.mode t.core.counts.again (retry_of t.registers).count (tr.exchanges u) (Pending d.air h.aired u)
      → (is_waiting t.core.mode ≡ true → (is_waiting s.core.mode ≡ true) × (x.gone u ≡ h.writes.gone u))
      → Inv w f c (with_unit d u t) (record { writes = x; aired = h.aired; receipts = h.receipts; counted = h.counted; trials = tr })
  sender_changes c d h u s t x tr pos e i regs sound long grow elsewhere failed ok tries aimed =
      let g : History = record { writes = x; aired = h.aired; receipts = h.receipts; counted = h.counted; trials = tr } in
      let zero_is : (r : State) → unit_at (with_unit d u t) 0 ≡ Some r → unit_at d 0 ≡ Some r =
      λ r k. sym (now_elsewhere d u 0 t (λ z. absurd (omega (arith, z, pos)))) ∙ k in
      record {
        like = like_changes c d u s t e regs sound long i.like;
        senders = λ k y one there. now_is (λ v z. 1 ≤ v → SenderOk z (x.written v) (x.gone v)) d u s t e (λ _. ok)
            (λ v z other at-v first. subst (λ l. SenderOk z l (x.gone v)) (sym (elsewhere v other).0)
            (subst (λ n. SenderOk z (h.writes.written v) n) (sym (elsewhere v other).1) (i.senders v z first at-v))) k y there one;
        tries = λ k y one there. now_is (λ v z. 1 ≤ v
            → TriesOk z.core.mode z.core.counts.again (retry_of z.registers).count (tr.exchanges v) (Pending d.air h.aired v)) d u s t e (λ _. tries)
            (λ v z other at-v first.
            subst (λ l. TriesOk z.core.mode z.core.counts.again (retry_of z.registers).count l (Pending d.air h.aired v)) (sym (elsewhere v other).2)
            (i.tries v z first at-v)) k y there one;
        receiver = λ r there.
            ((i.receiver r (zero_is r there)).0, entries_grow c h.writes x grow (entries r.rx) h.receipts.unread (i.receiver r (zero_is r there)).1);
        memories = λ r there k a one at_k q pipe.
            memory_grows f a (h.writes.written k) (x.written k) (last_number k h.receipts.taken) (recalled r.memories q) (λ n b m. grow.more k n b m)
            (i.memories r (zero_is r there) k a one at_k q pipe);
        taken = taken_grows c h.writes x grow h.receipts.taken i.taken;
        order = i.order;
        air = air_changes c d (with_unit d u t) h g grow refl refl refl
            (λ k n one before y there. now_is
            (λ v z. ((q : State) → unit_at d v ≡ Some q → is_waiting q.core.mode ≡ true → h.writes.gone v ≡ n) → is_waiting z.core.mode ≡ true → x.gone v ≡ n) d u s t e
            (λ b wait. (aimed wait).1 ∙ b s e (aimed wait).0) (λ v z other at-v b wait. (elsewhere v other).1 ∙ b z at-v wait) k y there before) d.air i.air;
        law = record {
          reads_are_writes = reads_grow c h.writes x grow h.receipts.reads i.law.reads_are_writes;
          in_order = i.law.in_order;
          sent_means_taken = λ k. accounted_grows f c h.writes x grow (h.counted k) (i.law.sent_means_taken k);
          no_giving_up_within_the_retry_budget = λ k y one there.
              subst (λ l. All (OverBudget (retry_of y.registers).count) l) (sym (failed k)) (i.law.no_giving_up_within_the_retry_budget k y one there);
        };
      }

  -- ---- the receiver changes, what is unread and what was read

  pub receiver_changes : (c d : Inside) (h : History) (s t : State) (unread : List Payload) (reads : List Read)
      → unit_at d 0 ≡ Some s → Inv w f c d h
      → t.registers ≡ s.registers → t.fault ≡ None → t.memories ≡ s.memories → length s.memories.at ≡ 6
      → entries t.tx ≡ [] → EntriesOk c h.writes (entries t.rx) unread
      → OrderOk h.receipts.taken unread reads → All (ReadsAWrite c h.writes) reads → InOrder reads
      → Inv w f c (with_unit d 0 t) (with_receipts (record { taken = h.receipts.taken; unread = unread; answered = h.receipts.answered; reads = reads }) h)
  receiver_changes c d h s t unread reads e i regs sound same long tx rx order right rising =
      let g : History = with_receipts (record { taken = h.receipts.taken; unread = unread; answered = h.receipts.answered; reads = reads }) h in
      let other_is : (k : ℕ) (y : State) → 1 ≤ k → unit_at (with_unit d 0 t) k ≡ Some y → unit_at d k ≡ Some y =
      λ k y one there. sym (now_elsewhere d 0 k t (λ z. absurd (omega (arith, z, one)))) ∙ there in
      record {
        like = like_changes c d 0 s t e regs sound (ap (λ m. length m.at) same ∙ long) i.like;
        senders = λ k y one there. i.senders k y one (other_is k y one there);
        tries = λ k y one there. i.tries k y one (other_is k y one there);
        receiver = λ r there. let it : t ≡ r = cc (now_there d 0 s t e, there) in
            subst (λ z. (entries z.tx ≡ []) × EntriesOk c h.writes (entries z.rx) unread) it (tx, rx);
        memories = λ r there k a one at_k q pipe. let it : t ≡ r = cc (now_there d 0 s t e, there) in
            subst (λ z. MemoryOk f a (h.writes.written k) (last_number k h.receipts.taken) (recalled z.memories q)) it
            (subst (λ m. MemoryOk f a (h.writes.written k) (last_number k h.receipts.taken) (recalled m q)) (sym same) (i.memories s e k a one at_k q pipe));
        taken = i.taken;
        order = order;
        air = air_changes c d (with_unit d 0 t) h g (record { more = λ k n b m. m; later = λ k. omega arith }) refl refl refl
            (λ k n one before y there wait. before y (other_is k y one there) wait) d.air i.air;
        law = other_receipts i.law _ right rising;
      }
