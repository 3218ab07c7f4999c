-- A payload's frame is heard: the receiver drops it, answers a repeat, or takes the payload.
use Rattle.std.proofs.Common.{◌≡◌, ℕ, ◌-◌, Bool, true, false, cond, ◌&&◌, eqb, ltb, leb, ◌⊎◌, List, [], ◌∷◌, ◌++◌, length, Some, None, sym, refl, ap, ◌∙◌, subst, inl, inr, ⊎_elim, arith, le-ltb, eqb-true}
use Rattle.queue.proofs.Kept.{pushed_last}
use Rattle.std.proofs.Math.Bool.{and-false}
use Rattle.std.proofs.lemmas.Bool.{and_from, le-leb, cond-true, cond_both, eqb-false, cases_eq}
use Rattle.std.proofs.lemmas.List.{get_or-set_same, get_or-set_other, length-set, length_push}
use Rattle.frames.specs.Packet.{Packet, covered, frame_bits}
use Rattle.queue.specs.Entries.{entries}
use Rattle.registers.specs.declared.pipe.Pipe.{Pipe}
use Rattle.registers.specs.File.{byte_of}
use Rattle.registers.specs.Pipes.{index_of, width_register}
use Rattle.bench.specs.Checking.{is_receiver}
use Rattle.modes.specs.Modes.{is_rx}
use Rattle.unit.specs.declared.entry.Data.{Data}
use Rattle.unit.specs.declared.memory.Memory.{Memory}
use Rattle.unit.specs.declared.state.State.{State}
use Rattle.unit.specs.Entries.{data_of, entry_of}
use Rattle.unit.specs.Ticking.{bits_of}
use Rattle.unit.specs.Hearing.{recalled, same_memory, pipe_of, Outcome, dropped, answered, taken, fresh, on_its_pipe, hears}
use Rattle.cell.specs.declared.air.Frame.{Frame}
use Rattle.cell.specs.declared.parts.Inside.{Inside}
use Rattle.cell.specs.Air.{frame_of, air_of}
use Rattle.cell.specs.Making.{pipe_for, same_pipe}
use Rattle.cell.specs.Calls.{unit_at, with_unit, with_air}
use Rattle.law.specs.Law.{Payload, History, touching, taking, answering, pipe_of_sender, latest}
use Rattle.law.proofs.Terms.{Fits}
use Rattle.law.proofs.Inv.{Sendable, last_number, Pending, MemoryOk, Settled, PayloadFrame, acknowledging, packet_with, memory_with, OnAir, Inv}
use Rattle.law.proofs.Changes.{now_there, now_elsewhere}
use Rattle.law.proofs.Ticks.{some_bits}
use Rattle.law.proofs.Carries.{index_below}
use Rattle.law.proofs.Carrying.{by_places, none_taken, quiet_carry}
use Rattle.law.proofs.Answering.{last_new, last_other, pipe_is, answers, repeated, newer, order_push, entries_push}

nobody : (a b : Bool) → a && (b && false) ≡ false
nobody a b = ap (λ z. a && z) (and-false b) ∙ and-false a

-- the same unit in its place
pub same_place : (d : Inside) (u : ℕ) (s : State) → unit_at d u ≡ Some s → (v : ℕ) → unit_at (with_unit d u s) v ≡ unit_at d v
same_place d u s e v =
    ⊎_elim (λ same. ap (λ i. unit_at (with_unit d u s) i) same ∙ now_there d u s s e ∙ sym e ∙ ap (λ i. unit_at d i) (sym same)) (λ other. now_elsewhere d u v s other) (cases_eq v u)

-- an entry is made of a payload that can be written
pub makes_entry : (b : List ℕ) → Sendable b → entry_of b ≡ Some (data_of b)
makes_entry b h = cond-true (leb 1 (length b) && leb (length b) 32) (Some (data_of b)) None (and_from _ _ (le-leb 1 (length b) h.some) (le-leb (length b) 32 h.few))

-- what a receiver makes of a packet to one of its pipes
pub receiver_cases : (P : Outcome → Type 0) (r : State) (p : Packet) (check : ℕ) (q : Pipe) (b : Data) → is_receiver r.registers ≡ true → pipe_of r.registers p.address ≡ Some q
    → entry_of p.payload ≡ Some b
    → (is_rx r.core.mode ≡ false → P (dropped r))
    → (eqb (length p.payload) (byte_of r.registers (width_register q)) ≡ false → P (dropped r))
    → (same_memory (recalled r.memories q) (record { pid = p.pid; check = check }) ≡ true → P (answered r p))
    → (eqb (length (entries r.rx)) 3 ≡ true → P (dropped r))
    → (same_memory (recalled r.memories q) (record { pid = p.pid; check = check }) ≡ false → eqb (length (entries r.rx)) 3 ≡ false
    → P (answered (taken r q b (record { pid = p.pid; check = check })) p))
    → P (hears r p check)
receiver_cases P r p check q b role pipe entry deaf unlike repeat full takes =
    let x : Memory = record { pid = p.pid; check = check } in
    subst P (sym (cond-true (is_receiver r.registers) _ _ role))
    (cond_both (is_rx r.core.mode) _ _ P
    (λ listens. subst (λ o. P (on_its_pipe r p x o)) (sym pipe)
    (cond_both (eqb (length p.payload) (byte_of r.registers (width_register q))) _ _ P
    (λ alike. cond_both (same_memory (recalled r.memories q) x) _ _ P repeat
    (λ new. subst (λ o. P (fresh r q p x o)) (sym entry)
    (cond_both (eqb (length (entries r.rx)) 3) _ _ P full (λ room. takes new room)))) unlike)) deaf)

module _ (w : ℕ) (f : List Bool → ℕ) where
  module _ (c d : Inside) (h : History) (fits : Fits w c) (k n : ℕ) (x : Frame) (o : OnAir w f c d h x k n) (i : Inv w f c d h) (air : d.air ≡ Some x)
      (aired : h.aired ≡ Some (record { sender = k; number = n })) (r : State) (e : unit_at d 0 ≡ Some r) (sound : r.fault ≡ None) (six : length r.memories.at ≡ 6)
      (q : Pipe) (pipe : pipe_of_sender c k ≡ Some q) (sendable : Sendable o.bytes) (bad free : Bool) where
    abbrev payload : Payload
    payload = record { sender = k; number = n }

    abbrev acknowledged_frame : Frame
    acknowledged_frame = frame_of 0 (frame_bits w f (acknowledging (packet_with o.unit n o.bytes)))

    -- the repeat is answered
    repeats : same_memory (recalled r.memories q) (memory_with f o.unit n o.bytes) ≡ true
        → Inv w f c (with_air (with_unit d 0 r) (Some acknowledged_frame)) (answering d (Some acknowledged_frame) payload (touching k bad free h))
    repeats same =
        answers w f c d h k n x r r (record {
          taken = h.receipts.taken;
          unread = h.receipts.unread;
          answered = record { payload = payload; latest = latest d k h.receipts.taken } ∷ h.receipts.answered;
          reads = h.receipts.reads;
        }) bad free o i air aired
        e refl sound six (i.receiver r e).0 (i.receiver r e).1 (λ j a one there p its. i.memories r e j a one there p its) i.taken i.order refl
        (repeated w f c d h fits k n x o (recalled r.memories q) (last_number k h.receipts.taken) i.like i.taken refl
        (i.memories r e k o.unit o.sender o.there q pipe) same)

    -- the payload is taken and answered
    takes : Settled (last_number k h.receipts.taken) n → same_memory (recalled r.memories q) (memory_with f o.unit n o.bytes) ≡ false → eqb (length (entries r.rx)) 3 ≡ false
        → Inv w f c (with_air (with_unit d 0 (taken r q (data_of o.bytes) (memory_with f o.unit n o.bytes))) (Some acknowledged_frame))
        (answering d (Some acknowledged_frame) payload (taking 1 payload (touching k bad free h)))
    takes settled new room =
        let t = taken r q (data_of o.bytes) (memory_with f o.unit n o.bytes) in
        let memory = i.memories r e k o.unit o.sender o.there q pipe in
        let fresh_one = newer w f o.unit (h.writes.written k) n o.bytes (recalled r.memories q) (last_number k h.receipts.taken) o.written memory settled new in
        answers w f c d h k n x r t (record {
          taken = payload ∷ h.receipts.taken;
          unread = h.receipts.unread ++ (payload ∷ []);
          answered = record { payload = payload; latest = latest d k (payload ∷ h.receipts.taken) } ∷ h.receipts.answered;
          reads = h.receipts.reads;
        }) bad free o i air aired
        e refl sound (length-set r.memories.at (index_of q) (Some (memory_with f o.unit n o.bytes)) ∙ six) (i.receiver r e).0
        (subst (λ l. Rattle.law.proofs.Inv.EntriesOk c h.writes l (h.receipts.unread ++ (payload ∷ []))) (sym (pushed_last r.rx (record { pipe = q; «data» = data_of o.bytes }) room))
        (entries_push w f c h.writes (record { pipe = q; «data» = data_of o.bytes }) payload (entries r.rx) h.receipts.unread (i.receiver r e).1
        (record { pipe = pipe; bytes = o.bytes; written = o.written; held = refl; sendable = sendable })))
        (λ j a one there p its. ⊎_elim
        (λ same.
        let at_k : unit_at c k ≡ Some a = subst (λ v. unit_at c v ≡ Some a) same there in
        let it : o.unit ≡ a = cc (at_k, o.there) in
        let its_pipe : q ≡ p = cc (pipe, subst (λ v. pipe_of_sender c v ≡ Some p) same its) in
        subst (λ v. MemoryOk f a (h.writes.written v) (last_number v (payload ∷ h.receipts.taken)) (recalled t.memories p)) (sym same)
        (subst (λ l. MemoryOk f a (h.writes.written k) l (recalled t.memories p)) (sym (last_new k n h.receipts.taken)) (
          o.bytes,
          o.written,
          ap (λ z. recalled t.memories z) (sym its_pipe)
              ∙ get_or-set_same r.memories.at (index_of q) (Some (memory_with f o.unit n o.bytes)) None (omega (arith, six, index_below q))
              ∙ ap (λ z. Some (memory_with f z n o.bytes)) it,
        )))
        (λ other.
        let apart : same_pipe (Some p) (Some q) ≡ false =
        ap (λ z. same_pipe z (Some q)) (sym its ∙ pipe_is w c fits j a there) ∙ ap (λ z. same_pipe (pipe_for fits.receiver.registers a.registers) z) (sym pipe ∙ pipe_is w c fits k o.unit o.there)
        ∙ fits.apart j k a o.unit one o.sender there o.there other in
        subst (λ l. MemoryOk f a (h.writes.written j) l (recalled t.memories p)) (sym (last_other j k n h.receipts.taken other))
        (subst (λ m. MemoryOk f a (h.writes.written j) (last_number j h.receipts.taken) m)
        (sym (get_or-set_other r.memories.at (index_of q) (index_of p) (Some (memory_with f o.unit n o.bytes)) None (eqb-false (index_of p) (index_of q) apart)))
        (i.memories r e j a one there p its))) (cases_eq j k))
        (record { sender = o.sender; unit = o.unit; there = o.there; gone = o.gone; bytes = o.bytes; written = o.written }, i.taken)
        (order_push w f k n h.receipts.taken fresh_one h.receipts.unread h.receipts.reads i.order) refl (inl (inl refl))

    -- ---- whatever the receiver makes of it

    abbrev After : Outcome → Type 0
    After y = Inv w f c (with_air (with_unit d 0 y.state) (air_of 0 (bits_of w f y.answer)))
        (answering d (air_of 0 (bits_of w f y.answer)) payload (taking (length (entries y.state.rx) - length (entries r.rx)) payload (touching k bad free h)))

    -- only this sender's exchange is pending
    only : (v : ℕ) → Pending d.air h.aired v → v ≡ k
    only v p = sym (subst (λ m. Pending (Some x) m v) aired (subst (λ b. Pending b h.aired v) air p))

    after_dropped : (bad ≡ true) ⊎ (free ≡ false) → After (dropped r)
    after_dropped why =
        subst (λ g. Inv w f c (with_air (with_unit d 0 r) None) g) (sym (none_taken (length (entries r.rx) - length (entries r.rx)) payload (touching k bad free h) (omega arith)))
        (by_places w f c (with_air d None) (with_air (with_unit d 0 r) None) (touching k bad free h) (λ u. sym (same_place d 0 r e u)) refl
        (quiet_carry w f c d h k bad free only i (λ s there wait. why)))

    holds_answer : air_of 0 (bits_of w f (Some (acknowledging (packet_with o.unit n o.bytes)))) ≡ Some acknowledged_frame
    holds_answer = ap (λ z. cond z None (Some acknowledged_frame)) (some_bits w f (acknowledging (packet_with o.unit n o.bytes)))

    after_repeat : same_memory (recalled r.memories q) (memory_with f o.unit n o.bytes) ≡ true → After (answered r (packet_with o.unit n o.bytes))
    after_repeat same =
        subst (λ a. Inv w f c (with_air (with_unit d 0 r) a) (answering d a payload (taking (length (entries r.rx) - length (entries r.rx)) payload (touching k bad free h)))) (sym holds_answer)
        (subst (λ g. Inv w f c (with_air (with_unit d 0 r) (Some acknowledged_frame)) (answering d (Some acknowledged_frame) payload g))
        (sym (none_taken (length (entries r.rx) - length (entries r.rx)) payload (touching k bad free h) (omega arith))) (repeats same))

    after_taking : Settled (last_number k h.receipts.taken) n → same_memory (recalled r.memories q) (memory_with f o.unit n o.bytes) ≡ false → eqb (length (entries r.rx)) 3 ≡ false
        → After (answered (taken r q (data_of o.bytes) (memory_with f o.unit n o.bytes)) (packet_with o.unit n o.bytes))
    after_taking settled new room =
        let t = taken r q (data_of o.bytes) (memory_with f o.unit n o.bytes) in
        let one : length (entries t.rx) - length (entries r.rx) ≡ 1 =
        omega (arith, ap length (pushed_last r.rx (record { pipe = q; «data» = data_of o.bytes }) room), length_push (entries r.rx) (record { pipe = q; «data» = data_of o.bytes })) in
        subst (λ a. Inv w f c (with_air (with_unit d 0 t) a) (answering d a payload (taking (length (entries t.rx) - length (entries r.rx)) payload (touching k bad free h)))) (sym holds_answer)
        (subst (λ m. Inv w f c (with_air (with_unit d 0 t) (Some acknowledged_frame)) (answering d (Some acknowledged_frame) payload (taking m payload (touching k bad free h)))) (sym one)
        (takes settled new room))

    -- with the receiver ready it is answered
    pub after_hearing : is_receiver r.registers ≡ true → pipe_of r.registers (packet_with o.unit n o.bytes).address ≡ Some q → Settled (last_number k h.receipts.taken) n
        → free ≡ is_rx r.core.mode && (ltb (length (entries r.rx)) 3 && eqb (length o.bytes) (byte_of r.registers (width_register q)))
        → After (hears r (packet_with o.unit n o.bytes) (f (covered (packet_with o.unit n o.bytes))))
    after_hearing role its settled is_free =
        receiver_cases After r (packet_with o.unit n o.bytes) (f (covered (packet_with o.unit n o.bytes))) q (data_of o.bytes) role its (makes_entry o.bytes sendable)
        (λ deaf. after_dropped (inr (is_free ∙ ap (λ b. b && (ltb (length (entries r.rx)) 3 && eqb (length o.bytes) (byte_of r.registers (width_register q)))) deaf)))
        (λ unlike. after_dropped (inr (is_free ∙ ap (λ b. is_rx r.core.mode && (ltb (length (entries r.rx)) 3 && b)) unlike ∙ nobody (is_rx r.core.mode) (ltb (length (entries r.rx)) 3))))
        after_repeat
        (λ full. after_dropped (inr (is_free ∙ ap (λ b. is_rx r.core.mode && (b && eqb (length o.bytes) (byte_of r.registers (width_register q))))
        (le-ltb (length (entries r.rx)) 3 (omega (arith, eqb-true (length (entries r.rx)) 3 full))) ∙ and-false (is_rx r.core.mode))))
        (after_taking settled)
