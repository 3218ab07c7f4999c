-- The receiver answers a frame: as a repeat, or since it takes the payload.
use Rattle.std.proofs.Common.{◌≡◌, ℕ, ◌+◌, ◌%◌, ◌<◌, ◌≤◌, Bool, true, false, cond, eqb, ltb, ◌⊎◌, List, [], ◌∷◌, ◌++◌, length, Some, None, Option, sym, refl, ap, ◌∙◌, subst, inl, inr, ⊎_elim, arith, eq-eqb, ne_eqb, eqb-true}
use Rattle.std.proofs.lemmas.Bool.{and_parts, and_from, ltb-true, ltb-false, cases_eq}
use Rattle.std.specs.Option.{option_map}
use Rattle.std.specs.List.{slice_get}
use Rattle.frames.specs.Packet.{covered, frame_bits}
use Rattle.queue.specs.Entries.{entries}
use Rattle.registers.specs.declared.pipe.Pipe.{Pipe}
use Rattle.registers.specs.Pipes.{index_of}
use Rattle.unit.specs.declared.entry.Received.{Received}
use Rattle.unit.specs.declared.memory.Memory.{Memory}
use Rattle.unit.specs.declared.state.State.{State}
use Rattle.unit.specs.Hearing.{recalled, same_memory}
use Rattle.cell.specs.declared.air.Frame.{Frame}
use Rattle.cell.specs.declared.parts.Inside.{Inside}
use Rattle.cell.specs.Air.{frame_of}
use Rattle.cell.specs.Making.{pipe_for, same_pipe}
use Rattle.cell.specs.Calls.{unit_at, with_unit, with_air}
use Rattle.law.specs.Lists.{All, SomeOf, In}
use Rattle.law.specs.Law.{Payload, Answering, Exchange, Receipts, History, Writes, Trials, at, touched, pipe_between, pipe_of_sender, latest, bytes_of}
use Rattle.law.specs.Law.{pid_of, packet_by, check_of, Mistaken, Lawful}
use Rattle.law.proofs.Terms.{Fits, Like, AllLike}
use Rattle.law.proofs.Facts.{all_weaker, all_push}
use Rattle.law.proofs.Inv.{other_trials, other_receipts, Pending, last_number, EntryOk, EntriesOk, TakenByNow, Before, Rising, ReadBefore, OrderOk, TakenOk, packet_with, memory_with, MemoryOk, Settled, acknowledging, OnAir, Inv}
use Rattle.law.proofs.Changes.{like_changes, now_there, now_elsewhere}
use Rattle.law.proofs.Carrying.{tries_carried}

-- ---- the last payload taken

pub last_in : (k n : ℕ) (ps : List Payload) → last_number k ps ≡ Some n → In (record { sender = k; number = n }) ps
unfolding last_number
last_in k n [] h = let z : ◌≡◌ {A = ℕ} 0 1 = cc in absurd (omega arith)
last_in k n (p ∷ ps) h = by (last_in k n ps) (eqb p.sender k) refl h where
  by : (last_number k ps ≡ Some n → In (record { sender = k; number = n }) ps) → (b : Bool) → eqb p.sender k ≡ b → cond b (Some p.number) (last_number k ps) ≡ Some n
      → In (record { sender = k; number = n }) (p ∷ ps)
  by rest true e g =
      let same : p.sender ≡ k = eqb-true p.sender k e in
      let number : p.number ≡ n = cc in
      inl (ap (λ j. record { sender = j; number = n }) (sym same) ∙ ap (λ m. record { sender = p.sender; number = m }) (sym number))
  by rest false e g = inr (rest g)

pub last_new : (k n : ℕ) (ps : List Payload) → last_number k (record { sender = k; number = n } ∷ ps) ≡ Some n
unfolding last_number
last_new k n ps = ap (λ b. cond b (Some n) (last_number k ps)) (eq-eqb k k refl)

pub last_other : (j k n : ℕ) (ps : List Payload) → (j ≡ k → ⊥) → last_number j (record { sender = k; number = n } ∷ ps) ≡ last_number j ps
unfolding last_number
last_other j k n ps other = ap (λ b. cond b (Some n) (last_number j ps)) (ne_eqb k j (λ e. other (sym e)))

-- ---- pipes

-- the pipe of a sender stays
pub pipe_stays : (c d : Inside) (k : ℕ) → AllLike c d → pipe_of_sender d k ≡ pipe_of_sender c k
pipe_stays c d k like = by (unit_at c 0) (unit_at d 0) (unit_at c k) (unit_at d k) (like 0) (like k) where
  by : (a b s t : Option State) → Like a b → Like s t → pipe_between b t ≡ pipe_between a s
  by None None s t l m = refl
  by None (Some b) s t l m = absurd l
  by (Some a) None s t l m = absurd l
  by (Some a) (Some b) None None l m = refl
  by (Some a) (Some b) None (Some t) l m = absurd m
  by (Some a) (Some b) (Some s) None l m = absurd m
  by (Some a) (Some b) (Some s) (Some t) l m = ap (λ r. pipe_for r t.registers) l.0 ∙ ap (λ r. pipe_for a.registers r) m.0

-- of a cell that was made: the pipe of a sender that is there
pub pipe_is : (w : ℕ) (c : Inside) (fits : Fits w c) (k : ℕ) (a : State) → unit_at c k ≡ Some a → pipe_of_sender c k ≡ pipe_for fits.receiver.registers a.registers
pipe_is w c fits k a there = ap (λ u. pipe_between u (unit_at c k)) fits.there ∙ ap (λ u. pipe_between (Some fits.receiver) u) there

same_pipe_self : (o : Option Pipe) (q : Pipe) → o ≡ Some q → same_pipe o o ≡ true
same_pipe_self o q e = ap (λ z. same_pipe z z) e ∙ eq-eqb (index_of q) (index_of q) refl

-- the last payload taken on the pipe of a sender is its own last one
pub latest_is : (w : ℕ) (c d : Inside) (fits : Fits w c) → AllLike c d → (x : Writes) (k : ℕ) (a : State) → 1 ≤ k → unit_at c k ≡ Some a → (ps : List Payload) → All (TakenOk c x) ps
    → latest d k ps ≡ option_map (λ n. record { sender = k; number = n }) (last_number k ps)
unfolding latest last_number
latest_is w c d fits like x k a one there [] ok = refl
latest_is w c d fits like x k a one there (p ∷ ps) ok = by (latest_is w c d fits like x k a one there ps ok.1) (cases_eq p.sender k) where
  pipe_p : pipe_of_sender d p.sender ≡ pipe_for fits.receiver.registers ok.0.unit.registers
  pipe_p = pipe_stays c d p.sender like ∙ pipe_is w c fits p.sender ok.0.unit ok.0.there

  pipe_k : pipe_of_sender d k ≡ pipe_for fits.receiver.registers a.registers
  pipe_k = pipe_stays c d k like ∙ pipe_is w c fits k a there

  its : (q : Pipe) × (pipe_for fits.receiver.registers a.registers ≡ Some q)
  its = fits.pipe k a one there

  by : latest d k ps ≡ option_map (λ n. record { sender = k; number = n }) (last_number k ps) → (p.sender ≡ k) ⊎ (p.sender ≡ k → ⊥)
      → cond (same_pipe (pipe_of_sender d p.sender) (pipe_of_sender d k)) (Some p) (latest d k ps)
      ≡ option_map (λ n. record { sender = k; number = n }) (cond (eqb p.sender k) (Some p.number) (last_number k ps))
  by rest (inl same) =
      let yes : same_pipe (pipe_of_sender d p.sender) (pipe_of_sender d k) ≡ true =
      ap (λ j. same_pipe (pipe_of_sender d j) (pipe_of_sender d k)) same ∙ same_pipe_self (pipe_of_sender d k) its.0 (pipe_k ∙ its.1) in
      ap (λ b. cond b (Some p) (latest d k ps)) yes ∙ ap (λ j. Some (record { sender = j; number = p.number })) same
      ∙ sym (ap (λ b. option_map (λ n. record { sender = k; number = n }) (cond b (Some p.number) (last_number k ps))) (eq-eqb p.sender k same))
  by rest (inr other) =
      let no : same_pipe (pipe_of_sender d p.sender) (pipe_of_sender d k) ≡ false =
      ap (λ z. same_pipe z (pipe_of_sender d k)) pipe_p ∙ ap (λ z. same_pipe (pipe_for fits.receiver.registers ok.0.unit.registers) z) pipe_k
      ∙ fits.apart p.sender k ok.0.unit a ok.0.sender one ok.0.there there other in
      ap (λ b. cond b (Some p) (latest d k ps)) no ∙ rest
      ∙ sym (ap (λ b. option_map (λ n. record { sender = k; number = n }) (cond b (Some p.number) (last_number k ps))) (ne_eqb p.sender k other))

module _ (w : ℕ) (f : List Bool → ℕ) where
  -- ---- an answer goes on the air

  pub answers : (c d : Inside) (h : History) (k n : ℕ) (x : Frame) (r t : State) (rc : Receipts) (bad free : Bool) (o : OnAir w f c d h x k n)
      → Inv w f c d h → d.air ≡ Some x → h.aired ≡ Some (record { sender = k; number = n })
      → unit_at d 0 ≡ Some r → t.registers ≡ r.registers → t.fault ≡ None → length t.memories.at ≡ 6 → entries t.tx ≡ []
      → EntriesOk c h.writes (entries t.rx) rc.unread
      → ((j : ℕ) (a : State) → 1 ≤ j → unit_at c j ≡ Some a → (q : Pipe) → pipe_of_sender c j ≡ Some q
      → MemoryOk f a (h.writes.written j) (last_number j rc.taken) (recalled t.memories q))
      → All (TakenOk c h.writes) rc.taken → OrderOk rc.taken rc.unread rc.reads → rc.reads ≡ h.receipts.reads
      → (In (record { sender = k; number = n }) rc.taken ⊎ SomeOf (Mistaken f c h.writes (record { sender = k; number = n })) rc.answered)
      → Inv w f c (with_air (with_unit d 0 t) (Some (frame_of 0 (frame_bits w f (acknowledging (packet_with o.unit n o.bytes))))))
      (record {
        writes = h.writes;
        aired = h.aired;
        receipts = rc;
        counted = h.counted;
        trials = record { exchanges = at k (touched bad free (h.trials.exchanges k)) h.trials.exchanges; failed = h.trials.failed };
      })
  answers c d h k n x r t rc bad free o i air aired e regs sound long tx rx memories ok order reads accounted =
      let y : Frame = frame_of 0 (frame_bits w f (acknowledging (packet_with o.unit n o.bytes))) in
      let other_is : (j : ℕ) (z : State) → 1 ≤ j → unit_at (with_unit d 0 t) j ≡ Some z → unit_at d j ≡ Some z =
      λ j z one there. sym (now_elsewhere d 0 j t (λ v. absurd (omega (arith, v, one)))) ∙ there in
      let only : (v : ℕ) → Pending d.air h.aired v → v ≡ k =
      λ v p. sym (subst (λ m. Pending (Some x) m v) aired (subst (λ b. Pending b h.aired v) air p)) in
      let pending : Pending (Some y) h.aired k = subst (λ m. Pending (Some y) m k) (sym aired) refl in
      record {
        like = like_changes c d 0 r t e regs sound long i.like;
        senders = λ j z one there. i.senders j z one (other_is j z one there);
        tries = λ j z one there. tries_carried w f c d h k bad free (Some y) h.aired only i (λ s at_k wait. inl pending) j z one (other_is j z one there);
        receiver = λ z there. let it : t ≡ z = cc (now_there d 0 r t e, there) in
            subst (λ v. (entries v.tx ≡ []) × EntriesOk c h.writes (entries v.rx) rc.unread) it (tx, rx);
        memories = λ z there j a one at_j q pipe. let it : t ≡ z = cc (now_there d 0 r t e, there) in
            subst (λ v. MemoryOk f a (h.writes.written j) (last_number j rc.taken) (recalled v.memories q)) it (memories j a one at_j q pipe);
        taken = ok;
        order = order;
        air = (
          k,
          n,
          aired,
          record {
            sender = o.sender;
            unit = o.unit;
            there = o.there;
            bytes = o.bytes;
            written = o.written;
            aimed = λ z there wait. o.aimed z (other_is k z o.sender there) wait;
            gone = o.gone;
            kind = inr (refl, accounted);
          },
        );
        law = other_trials
            (other_receipts i.law rc (subst (λ l. All (Rattle.law.specs.Law.ReadsAWrite c h.writes) l) (sym reads) i.law.reads_are_writes)
            (subst Rattle.law.specs.Law.InOrder (sym reads) i.law.in_order))
            _ _ i.law.no_giving_up_within_the_retry_budget;
      }

  -- ---- a repeat

  -- the check of a payload's frames
  check_is : (c : Inside) (x : Writes) (k n : ℕ) (a : State) (b : List ℕ) → unit_at c k ≡ Some a → slice_get (x.written k) n ≡ Some b
      → check_of f c x (record { sender = k; number = n }) ≡ Some (f (covered (packet_with a n b)))
  check_is c x k n a b there written =
      ap (λ u. option_map (λ packet. f (covered packet)) (packet_by u (slice_get (x.written k) n) ((n + 1) % 4))) there
      ∙ ap (λ u. option_map (λ packet. f (covered packet)) (packet_by (Some a) u ((n + 1) % 4))) written

  -- what the pipe remembers is the payload itself, or one that it is mistaken for
  pub repeated : (c d : Inside) (h : History) (fits : Fits w c) (k n : ℕ) (x : Frame) (o : OnAir w f c d h x k n) (m : Option Memory) (last : Option ℕ)
      → AllLike c d → All (TakenOk c h.writes) h.receipts.taken → last_number k h.receipts.taken ≡ last
      → MemoryOk f o.unit (h.writes.written k) last m → same_memory m (memory_with f o.unit n o.bytes) ≡ true
      → In (record { sender = k; number = n }) h.receipts.taken
      ⊎ SomeOf (Mistaken f c h.writes (record { sender = k; number = n }))
      (record { payload = record { sender = k; number = n }; latest = latest d k h.receipts.taken } ∷ h.receipts.answered)
  repeated c d h fits k n x o m None like ok last memory same =
      let z : ◌≡◌ {A = Bool} false true = ap (λ v. same_memory v (memory_with f o.unit n o.bytes)) (sym memory) ∙ same in
      let y : ◌≡◌ {A = ℕ} 0 1 = cc in absurd (omega arith)
  repeated c d h fits k n x o m (Some l) like ok last memory same =
      let both : same_memory (Some (memory_with f o.unit l memory.0)) (memory_with f o.unit n o.bytes) ≡ true =
      ap (λ v. same_memory v (memory_with f o.unit n o.bytes)) (sym memory.2) ∙ same in
      let parts = and_parts (eqb ((l + 1) % 4) ((n + 1) % 4)) (eqb (f (covered (packet_with o.unit l memory.0))) (f (covered (packet_with o.unit n o.bytes)))) both in
      ⊎_elim (λ (e : l ≡ n). inl (last_in k n h.receipts.taken (last ∙ ap Some e)))
      (λ other. inr (inl (record {
        of_it = refl;
        last = record { sender = k; number = l };
        was_last = latest_is w c d fits like h.writes k o.unit o.sender o.there h.receipts.taken ok ∙ ap (option_map (λ v. record { sender = k; number = v })) last;
        another = λ e. other (ap (λ (p : Payload). p.number) e);
        same_pid = eqb-true ((l + 1) % 4) ((n + 1) % 4) parts.0;
        check = f (covered (packet_with o.unit n o.bytes));
        its_check = check_is c h.writes k n o.unit o.bytes o.there o.written;
        same_check = check_is c h.writes k l o.unit memory.0 o.there memory.1
            ∙ ap Some (eqb-true (f (covered (packet_with o.unit l memory.0))) (f (covered (packet_with o.unit n o.bytes))) parts.1);
      }))) (cases_eq l n)

  -- ---- a payload is taken

  -- the payload is newer than the last one taken of its sender
  pub newer : (a : State) (written : List (List ℕ)) (n : ℕ) (b : List ℕ) (m : Option Memory) (last : Option ℕ) → slice_get written n ≡ Some b → MemoryOk f a written last m → Settled last n
      → same_memory m (memory_with f a n b) ≡ false → (v : ℕ) → last ≡ Some v → v < n
  newer a written n b m None its memory settled fresh v e = let z : ◌≡◌ {A = ℕ} 0 1 = cc in absurd (omega arith)
  newer a written n b m (Some l) its memory settled fresh v e =
      let same : l ≡ v = cc in
      let not_it : l ≡ n → ⊥ = λ it.
      let bytes : memory.0 ≡ b = cc (memory.1, its, it) in
      let known : m ≡ Some (memory_with f a n b) = memory.2 ∙ ap (λ z. Some (memory_with f a z memory.0)) it ∙ ap (λ z. Some (memory_with f a n z)) bytes in
      let yes : same_memory m (memory_with f a n b) ≡ true = ap (λ z. same_memory z (memory_with f a n b)) known
      ∙ and_from _ _ (eq-eqb ((n + 1) % 4) ((n + 1) % 4) refl) (eq-eqb (f (covered (packet_with a n b))) (f (covered (packet_with a n b))) refl) in
      let z : ◌≡◌ {A = Bool} true false = sym yes ∙ fresh in let y : ◌≡◌ {A = ℕ} 0 1 = cc in absurd (omega arith) in
      ⊎_elim (λ it. absurd (not_it it)) (λ _. omega (arith, settled, same, below l n settled not_it)) (cases_eq l n) where
        below : (i j : ℕ) → i ≤ j → (i ≡ j → ⊥) → i < j
        below i j le ne = by (ltb i j) refl where
          by : (t : Bool) → ltb i j ≡ t → i < j
          by true e = ltb-true i j e
          by false e = absurd (ne (omega (arith, le, ltb-false i j e)))

  module _ (k n : ℕ) (taken : List Payload) (fresh : (v : ℕ) → last_number k taken ≡ Some v → v < n) where
    abbrev new : Payload
    new = record { sender = k; number = n }

    before_new : (o : Payload) → TakenByNow taken o → Before o new
    before_new o t same = omega (arith, t.2, fresh t.0 (subst (λ j. last_number j taken ≡ Some t.0) same t.1))

    still_taken : (o : Payload) → TakenByNow taken o → TakenByNow (new ∷ taken) o
    still_taken o t =
        ⊎_elim (λ same. (n, ap (λ j. last_number j (new ∷ taken)) same ∙ last_new k n taken, omega (arith, before_new o t same)))
        (λ other. (t.0, last_other o.sender k n taken other ∙ t.1, t.2)) (cases_eq o.sender k)

    rising_push : (ps : List Payload) → Rising ps → All (λ o. Before o new) ps → Rising (ps ++ (new ∷ []))
    rising_push [] r a = (tt, tt)
    rising_push (p ∷ ps) r a = (all_push (Before p) ps new r.0 a.0, rising_push ps r.1 a.1)

    pub order_push : (unread : List Payload) (reads : List Rattle.law.specs.Law.Read) → OrderOk taken unread reads → OrderOk (new ∷ taken) (unread ++ (new ∷ [])) reads
    order_push unread reads i = record {
      unread_taken = all_push (TakenByNow (new ∷ taken)) unread new (all_weaker _ _ still_taken unread i.unread_taken) (n, last_new k n taken, omega arith);
      reads_taken = all_weaker _ _ (λ r g p e. still_taken p (g p e)) reads i.reads_taken;
      rising = rising_push unread i.rising (all_weaker _ _ before_new unread i.unread_taken);
      reads_first = all_push (λ p. All (ReadBefore p) reads) unread new i.reads_first (all_weaker _ _ (λ r g o e. before_new o (g o e)) reads i.reads_taken);
    }

  pub entries_push : (c : Inside) (x : Writes) (e : Received) (p : Payload) (es : List Received) (ps : List Payload) → EntriesOk c x es ps → EntryOk c x e p
      → EntriesOk c x (es ++ (e ∷ [])) (ps ++ (p ∷ []))
  entries_push c x e p [] [] h k = (k, tt)
  entries_push c x e p [] (q ∷ ps) h k = absurd h
  entries_push c x e p (d ∷ es) [] h k = absurd h
  entries_push c x e p (d ∷ es) (q ∷ ps) h k = (h.0, entries_push c x e p es ps h.1 k)
