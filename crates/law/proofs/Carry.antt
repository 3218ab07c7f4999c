-- Every carry keeps the invariant.
use Rattle.std.proofs.Common.{◌≡◌, ℕ, zero, suc, ◌+◌, ◌-◌, ◌^◌, ◌<◌, ◌≤◌, Bool, true, false, cond, ◌&&◌, eqb, ltb, leb, ◌⊎◌, List, [], ◌∷◌, length, get_or, Some, None, Ok, Err, Option, sym, refl, ap, ◌∙◌, subst, inl, inr, ⊎_elim, arith, length-drop, le-ltb, lt-ltb, eq-eqb, ne_eqb, leb-true}
use Rattle.queue.proofs.Kept.{popped_rest}
use Rattle.std.proofs.lemmas.Bool.{and_parts, cond-true, cond-false, cond_both, cases_eq}
use Rattle.std.proofs.lemmas.Slice.Eq.{bytes_eq-Decides}
use Rattle.std.specs.Str.{bytes_eq}
use Rattle.std.specs.Option.{option_map}
use Rattle.std.specs.List.{slice_get}
use Rattle.frames.specs.Packet.{Packet, Bytes, Valid, covered, frame_bits}
use Rattle.frames.specs.Damage.{PatternShows}
use Rattle.queue.specs.Entries.{entries, popped}
use Rattle.registers.specs.declared.pipe.Pipe.{Pipe}
use Rattle.registers.specs.declared.pipe.Pipe.TheVariants.{P0}
use Rattle.registers.specs.declared.register.Register.TheVariants.{SetupAw}
use Rattle.registers.specs.File.{byte_of}
use Rattle.registers.specs.Pipes.{index_of, width_register}
use Rattle.registers.specs.Readings.{width_of, pipe_address}
use Rattle.bench.specs.Checking.{is_receiver, in_use}
use Rattle.modes.specs.Modes.{is_waiting, is_rx}
use Rattle.unit.specs.declared.state.State.{State}
use Rattle.unit.specs.Entries.{data_of}
use Rattle.unit.specs.Units.{tx_address}
use Rattle.unit.specs.Ticking.{bits_of}
use Rattle.unit.specs.Hearing.{pipe_of, Outcome, dropped, is_acknowledgement, heard_by_sender, delivered, hears, address_width}
use Rattle.cell.specs.declared.air.Frame.{Frame}
use Rattle.cell.specs.declared.air.Fate.{Fate}
use Rattle.cell.specs.declared.parts.Inside.{Inside}
use Rattle.cell.specs.declared.refusal.Cause.TheVariants.{FateNotAllowed}
use Rattle.cell.specs.Refusals.{refusal_of}
use Rattle.cell.specs.Air.{frame_of, air_of, fate_of, fate_allowed}
use Rattle.cell.specs.Making.{pipe_for, same_pipe, OfBytesInside}
use Rattle.cell.specs.Calls.{unit_at, with_unit, with_air, carry_result_by, carried_so, carried_if, carried_by, carried}
use Rattle.law.specs.Lists.{SomeOf, In}
use Rattle.law.specs.Runs.{carry, answer_of, outcome}
use Rattle.law.specs.Law.{Payload, History, at, oldest, rx_length, tx_length, spoils, ready, ready_by, pipe_of_sender, touched, touching, taking, answering, shrank, note_counting, note_frame, note_aired, note_fate, note}
use Rattle.law.specs.Law.{Mistaken}
use Rattle.law.proofs.Terms.{Fits, Like, hears_packet, each_hears, answer_to, hearing}
use Rattle.law.proofs.Facts.{at_there, at_elsewhere, nth_all}
use Rattle.law.proofs.Inv.{Sendable, SenderOk, last_number, Pending, Settled, acknowledging, packet_with, OnAir, AirOk, Inv}
use Rattle.law.proofs.Changes.{now_there, now_elsewhere}
use Rattle.law.proofs.Tails.{tail_length, waiting_tries}
use Rattle.law.proofs.Carries.{carries}
use Rattle.law.proofs.Carrying.{by_places, none_counted, same_shrank, none_taken, quiet_carry}
use Rattle.law.proofs.Answering.{pipe_stays, pipe_is}
use Rattle.law.proofs.Hearings.{makes_entry, receiver_cases, after_hearing}
use Rattle.law.proofs.Delivered.{delivers}

-- ---- units of the cell now, and as it was made

pub record Known (a s : State) : Type 0 where
  pub registers : s.registers ≡ a.registers
  pub sound : s.fault ≡ None
  pub six : length s.memories.at ≡ 6

-- a unit now was there when the cell was made
pub was_there : (m : Option State) (s : State) → Like m (Some s) → (a : State) × (m ≡ Some a) × Known a s
was_there None s l = absurd l
was_there (Some a) s l = (a, refl, record { registers = l.0; sound = l.1; six = l.2 })

-- and a unit of the cell as it was made is there now
pub is_there : (a : State) (m : Option State) → Like (Some a) m → (s : State) × (m ≡ Some s) × Known a s
is_there a None l = absurd l
is_there a (Some s) l = (s, refl, record { registers = l.0; sound = l.1; six = l.2 })

-- ---- which packets are valid

width_bounds : (v : ℕ) → (3 ≤ width_of v) × (width_of v ≤ 5)
width_bounds v = cond_both (leb 1 v && leb v 3) (v + 2) 5 (λ n. (3 ≤ n) × (n ≤ 5))
    (λ h. let p = and_parts (leb 1 v) (leb v 3) h in (omega (arith, leb-true 1 v p.0), omega (arith, leb-true v 3 p.1))) (λ h. (omega arith, omega arith))

valid_packet : (w : ℕ) (c : Inside) (fits : Fits w c) → OfBytesInside c → (k n : ℕ) (a : State) (b : List ℕ) → unit_at c k ≡ Some a → length b ≤ 32 → Bytes b
    → Valid (address_width fits.receiver) (packet_with a n b)
valid_packet w c fits typed k n a b there few bytes =
    let bounds = width_bounds (byte_of fits.receiver.registers SetupAw) in
    let address = typed k a there in
    record {
      wide = bounds.0;
      narrow = bounds.1;
      long = address.1 ∙ fits.width k a there;
      address = address.0;
      pid = omega arith;
      fits = few;
      payload = bytes;
    }

-- the answer to a packet
valid_answer : (w : ℕ) (c : Inside) (fits : Fits w c) → OfBytesInside c → (k n : ℕ) (a : State) (b : List ℕ) → unit_at c k ≡ Some a
    → Valid (address_width fits.receiver) (acknowledging (packet_with a n b))
valid_answer w c fits typed k n a b there = valid_packet w c fits typed k n a [] there (omega arith) (λ i. omega arith)

-- ---- who hears what

cond_same : {X : Type 0} (b : Bool) (x : X) → cond b x x ≡ x
cond_same true x = refl
cond_same false x = refl

module _ (w : ℕ) (f : List Bool → ℕ) where
  each_at : (i from : ℕ) (p : Packet) (us : List (Option State)) (j : ℕ)
      → get_or (each_hears w f i from p us) j None ≡ cond (eqb (i + j) from) (get_or us j None) (option_map (hears_packet w f p) (get_or us j None))
  unfolding each_hears
  each_at i from p [] j = sym (cond_same (eqb (i + j) from) None)
  each_at i from p (u ∷ us) zero = let e : i ≡ i + 0 = omega arith in ap (λ n. cond (eqb n from) u (option_map (hears_packet w f p) u)) e
  each_at i from p (u ∷ us) (suc j) =
      let e : suc i + j ≡ i + suc j = omega arith in
      each_at (suc i) from p us j ∙ ap (λ n. cond (eqb n from) (get_or us j None) (option_map (hears_packet w f p) (get_or us j None))) e

  heard_at : (d : Inside) (from : ℕ) (p : Packet) (j : ℕ)
      → unit_at (hearing w f d from p) j ≡ cond (eqb j from) (unit_at d j) (option_map (hears_packet w f p) (unit_at d j))
  heard_at d from p j =
      let e : 0 + j ≡ j = omega arith in
      each_at 0 from p d.places.at j ∙ ap (λ n. cond (eqb n from) (unit_at d j) (option_map (hears_packet w f p) (unit_at d j))) e

  -- a sender that hears no acknowledgement of its own stays as it is
  deaf : (s : State) (p : Packet) (check : ℕ) → is_receiver s.registers ≡ false → is_acknowledgement s p ≡ false → (hears s p check).state ≡ s
  deaf s p check role not_so =
      ap (λ (o : Outcome). o.state) (cond-false (is_receiver s.registers) _ _ role)
      ∙ cond_both (is_waiting s.core.mode) _ _ (λ (o : Outcome). o.state ≡ s) (λ _. ap (λ (o : Outcome). o.state) (cond-false (is_acknowledgement s p) (dropped (delivered s)) (dropped s) not_so)) (λ _. refl)

  idle : (s : State) (p : Packet) (check : ℕ) → is_receiver s.registers ≡ false → is_waiting s.core.mode ≡ false → (hears s p check).state ≡ s
  idle s p check role not_so =
      ap (λ (o : Outcome). o.state) (cond-false (is_receiver s.registers) _ _ role ∙ cond-false (is_waiting s.core.mode) (heard_by_sender s p) (dropped s) not_so)

  accepts_it : (s : State) (p : Packet) (check : ℕ) → is_receiver s.registers ≡ false → is_waiting s.core.mode ≡ true → is_acknowledgement s p ≡ true → (hears s p check).state ≡ delivered s
  accepts_it s p check role waits so =
      ap (λ (o : Outcome). o.state) (cond-false (is_receiver s.registers) _ _ role ∙ cond-true (is_waiting s.core.mode) (heard_by_sender s p) (dropped s) waits
      ∙ cond-true (is_acknowledgement s p) (dropped (delivered s)) (dropped s) so)

  -- a place at which what hears stays as it is
  place_same : (d : Inside) (from : ℕ) (p : Packet) (j : ℕ) → ((j ≡ from → ⊥) → (s : State) → unit_at d j ≡ Some s → hears_packet w f p s ≡ s) → unit_at (hearing w f d from p) j ≡ unit_at d j
  place_same d from p j same = heard_at d from p j ∙ by (cases_eq j from) where
    there : (m : Option State) → ((s : State) → m ≡ Some s → hears_packet w f p s ≡ s) → option_map (hears_packet w f p) m ≡ m
    there None g = refl
    there (Some s) g = ap Some (g s refl)

    by : (j ≡ from) ⊎ (j ≡ from → ⊥) → cond (eqb j from) (unit_at d j) (option_map (hears_packet w f p) (unit_at d j)) ≡ unit_at d j
    by (inl e) = cond-true (eqb j from) _ _ (eq-eqb j from e)
    by (inr n) = cond-false (eqb j from) _ _ (ne_eqb j from n) ∙ there (unit_at d j) (same n)

  place_other : (d : Inside) (from : ℕ) (p : Packet) (j : ℕ) (s : State) → (j ≡ from → ⊥) → unit_at d j ≡ Some s → unit_at (hearing w f d from p) j ≡ Some (hears_packet w f p s)
  place_other d from p j s n e = heard_at d from p j ∙ cond-false (eqb j from) _ _ (ne_eqb j from n) ∙ ap (option_map (hears_packet w f p)) e

  -- ---- a payload's frame

  module _ (below : (s : List Bool) → f s < 2 ^ w) (shows : PatternShows w f) (c d : Inside) (h : History) (fits : Fits w c) (typed : OfBytesInside c) (i : Inv w f c d h) (fate : Fate)
      (k n : ℕ) (x : Frame) (o : OnAir w f c d h x k n) (air : d.air ≡ Some x) (aired : h.aired ≡ Some (record { sender = k; number = n })) where
    abbrev its_packet : Packet
    its_packet = packet_with o.unit n o.bytes

    abbrev its_payload : Payload
    its_payload = record { sender = k; number = n }

    only_its : (v : ℕ) → Pending d.air h.aired v → v ≡ k
    only_its v p = sym (subst (λ m. Pending (Some x) m v) aired (subst (λ b. Pending b h.aired v) air p))

    -- the sender as it is now
    sender_now : (s : State) × (unit_at d k ≡ Some s) × Known o.unit s
    sender_now = is_there o.unit (unit_at d k) (subst (λ m. Like m (unit_at d k)) o.there (i.like k))

    receiver_now : (r : State) × (unit_at d 0 ≡ Some r) × Known fits.receiver r
    receiver_now = is_there fits.receiver (unit_at d 0) (subst (λ m. Like m (unit_at d 0)) fits.there (i.like 0))

    sendable_it : Sendable o.bytes
    sendable_it = nth_all Sendable (h.writes.written k) n o.bytes o.written (i.senders k sender_now.0 o.sender sender_now.1).sendable

    -- every sender's role
    sends_only : (j : ℕ) (s : State) → 1 ≤ j → unit_at d j ≡ Some s → is_receiver s.registers ≡ false
    sends_only j s one there =
        let was = was_there (unit_at c j) s (subst (λ m. Like (unit_at c j) m) there (i.like j)) in
        ap is_receiver was.2.registers ∙ fits.sends j was.0 one was.1

    zero_is_not : k ≡ 0 → ⊥
    zero_is_not e = absurd (omega (arith, e, o.sender))

    -- nobody heard it
    unheard : (spoils fate ≡ true) → (free : Bool) → Inv w f c (with_air d None) (touching k (spoils fate) free h)
    unheard bad free = quiet_carry w f c d h k (spoils fate) free only_its i (λ s there wait. inl bad)

    none_shrank : (j : ℕ) → shrank d (with_air d None) j ≡ false
    none_shrank j = same_shrank d (with_air d None) j refl

    payload_lost : (spoils fate ≡ true) → Inv w f c (with_air d None) (note_frame false fate d (with_air d None) its_payload (note_counting d (with_air d None) h))
    payload_lost bad =
        subst (λ g. Inv w f c (with_air d None) (note_frame false fate d (with_air d None) its_payload g)) (sym (none_counted d (with_air d None) h none_shrank))
        (subst (λ g. Inv w f c (with_air d None) g)
        (sym (none_taken (rx_length (unit_at d 0) - rx_length (unit_at d 0)) its_payload (touching k (spoils fate) (ready d h.writes its_payload) h) (omega arith)))
        (unheard bad (ready d h.writes its_payload)))

    -- the units after a payload's frame: only the receiver may have changed
    no_acknowledgement : (s : State) → is_acknowledgement s its_packet ≡ false
    no_acknowledgement s = ap (λ b. b && bytes_eq (in_use s.registers (pipe_address s.registers P0)) its_packet.address)
        (ne_eqb (length o.bytes) 0 (λ e. absurd (omega (arith, e, sendable_it.some))))

    abbrev t_heard : Inside
    t_heard = hearing w f d k its_packet

    others_stay : (j : ℕ) → 1 ≤ j → unit_at t_heard j ≡ unit_at d j
    others_stay j one = place_same d k its_packet j (λ n s there. deaf s its_packet (f (covered its_packet)) (sends_only j s one there) (no_acknowledgement s))

    module _ (r : State) (e : unit_at d 0 ≡ Some r) (known : Known fits.receiver r) where
      abbrev y : Outcome
      y = hears r its_packet (f (covered its_packet))

      abbrev t_as : Inside
      t_as = with_air (with_unit d 0 y.state) (air_of 0 (bits_of w f y.answer))

      receiver_at : unit_at t_heard 0 ≡ Some y.state
      receiver_at = place_other d k its_packet 0 r (λ z. zero_is_not (sym z)) e

      role_r : is_receiver r.registers ≡ true
      role_r = ap is_receiver known.registers ∙ fits.receives

      q_is : (q : Pipe) × (pipe_for fits.receiver.registers o.unit.registers ≡ Some q)
      q_is = fits.pipe k o.unit o.sender o.there

      pipe_c : pipe_of_sender c k ≡ Some q_is.0
      pipe_c = pipe_is w c fits k o.unit o.there ∙ q_is.1

      pipe_r : pipe_of r.registers its_packet.address ≡ Some q_is.0
      pipe_r = ap (λ g. pipe_of g its_packet.address) known.registers ∙ q_is.1

      -- the receiver's outgoing queue stays
      tx_stays : y.state.tx ≡ r.tx
      tx_stays = receiver_cases (λ z. z.state.tx ≡ r.tx) r its_packet (f (covered its_packet)) q_is.0 (data_of o.bytes) role_r pipe_r (makes_entry o.bytes sendable_it)
          (λ _. refl) (λ _. refl) (λ _. refl) (λ _. refl) (λ _ _. refl)

      heard_none_shrank : (j : ℕ) → shrank d t_heard j ≡ false
      heard_none_shrank zero =
          ap (λ u. ltb (tx_length u) (tx_length (unit_at d 0))) receiver_at ∙ ap (λ u. ltb (length (entries y.state.tx)) (tx_length u)) e
          ∙ ap (λ q. ltb (length (entries q)) (length (entries r.tx))) tx_stays ∙ le-ltb (length (entries r.tx)) (length (entries r.tx)) (omega arith)
      heard_none_shrank (suc j) = same_shrank d t_heard (suc j) (others_stay (suc j) (omega arith))

      places_as : (j : ℕ) → unit_at t_as j ≡ unit_at t_heard j
      places_as zero = now_there d 0 r y.state e ∙ sym receiver_at
      places_as (suc j) = now_elsewhere d 0 (suc j) y.state (λ z. absurd (omega (arith, z))) ∙ sym (others_stay (suc j) (omega arith))

      air_as : t_as.air ≡ t_heard.air
      air_as = sym (ap (λ m. air_of 0 (answer_to w f m k its_packet)) e ∙ ap (λ b. air_of 0 (cond b [] (bits_of w f y.answer))) (ne_eqb k 0 zero_is_not))

      is_free : ready d h.writes its_payload ≡ is_rx r.core.mode && (ltb (length (entries r.rx)) 3
          && eqb (length o.bytes) (byte_of r.registers (width_register q_is.0)))
      is_free =
          ap (λ m. ready_by m (pipe_of_sender d k) (slice_get (h.writes.written k) n)) e
          ∙ ap (λ p. ready_by (Some r) p (slice_get (h.writes.written k) n)) (pipe_stays c d k i.like ∙ pipe_c)
          ∙ ap (λ b. ready_by (Some r) (Some q_is.0) b) o.written

      payload_heard_by : Settled (last_number k h.receipts.taken) n → Inv w f c t_heard (note_frame false fate d t_heard its_payload (note_counting d t_heard h))
      payload_heard_by settled =
          subst (λ g. Inv w f c t_heard (note_frame false fate d t_heard its_payload g)) (sym (none_counted d t_heard h heard_none_shrank))
          (subst (λ m. Inv w f c t_heard (answering d t_heard.air its_payload (taking m its_payload (touching k (spoils fate) (ready d h.writes its_payload) h))))
          (sym (ap (λ u. rx_length u - rx_length (unit_at d 0)) receiver_at ∙ ap (λ u. length (entries y.state.rx) - rx_length u) e))
          (subst (λ a. Inv w f c t_heard (answering d a its_payload (taking (length (entries y.state.rx) - length (entries r.rx)) its_payload (touching k (spoils fate) (ready d h.writes its_payload) h)))) air_as
          (by_places w f c t_as t_heard _ places_as air_as
          (after_hearing w f c d h fits k n x o i air aired r e known.sound known.six q_is.0 pipe_c sendable_it (spoils fate) (ready d h.writes its_payload) role_r pipe_r settled is_free))))

    payload_heard : Settled (last_number k h.receipts.taken) n → Inv w f c t_heard (note_frame false fate d t_heard its_payload (note_counting d t_heard h))
    payload_heard = payload_heard_by receiver_now.0 receiver_now.1 receiver_now.2

    -- ---- the answer to it

    abbrev its_answer : Packet
    its_answer = acknowledging its_packet

    answer_lost : (spoils fate ≡ true) → Inv w f c (with_air d None) (note_frame true fate d (with_air d None) its_payload (note_counting d (with_air d None) h))
    answer_lost bad =
        subst (λ g. Inv w f c (with_air d None) (touching k (spoils fate) true g)) (sym (none_counted d (with_air d None) h none_shrank)) (unheard bad true)

    abbrev t_answered : Inside
    t_answered = hearing w f d 0 its_answer

    -- a sender listens on its own address, which no other sender has
    listens_on : (j : ℕ) (s a : State) → 1 ≤ j → unit_at c j ≡ Some a → Known a s → in_use s.registers (pipe_address s.registers P0) ≡ tx_address a.registers
    listens_on j s a one there known = ap (λ g. in_use g (pipe_address g P0)) known.registers ∙ fits.own j a one there

    not_theirs : (j : ℕ) (s : State) → 1 ≤ j → (j ≡ k → ⊥) → unit_at d j ≡ Some s → is_acknowledgement s its_answer ≡ false
    not_theirs j s one other there = by (bytes_eq (in_use s.registers (pipe_address s.registers P0)) (tx_address o.unit.registers)) refl where
      was : (a : State) × (unit_at c j ≡ Some a) × Known a s
      was = was_there (unit_at c j) s (subst (λ m. Like (unit_at c j) m) there (i.like j))

      by : (b : Bool) → bytes_eq (in_use s.registers (pipe_address s.registers P0)) (tx_address o.unit.registers) ≡ b
          → bytes_eq (in_use s.registers (pipe_address s.registers P0)) (tx_address o.unit.registers) ≡ false
      by false e = e
      by true e =
          let alike : tx_address was.0.registers ≡ tx_address o.unit.registers =
          sym (listens_on j s was.0 one was.1 was.2) ∙ (bytes_eq-Decides (in_use s.registers (pipe_address s.registers P0)) (tx_address o.unit.registers)).0 e in
          let q = fits.pipe k o.unit o.sender o.there in
          let same : pipe_for fits.receiver.registers was.0.registers ≡ pipe_for fits.receiver.registers o.unit.registers = ap (pipe_of fits.receiver.registers) alike in
          let z : ◌≡◌ {A = Bool} true false =
          sym (ap (λ m. same_pipe m (pipe_for fits.receiver.registers o.unit.registers)) same ∙ ap (λ m. same_pipe m m) q.1 ∙ eq-eqb (index_of q.0) (index_of q.0) refl)
          ∙ fits.apart j k was.0 o.unit one o.sender was.1 o.there other in
          let u : ◌≡◌ {A = ℕ} 0 1 = cc in absurd (omega arith)

    theirs : (s : State) → Known o.unit s → is_acknowledgement s its_answer ≡ true
    theirs s known = (bytes_eq-Decides (in_use s.registers (pipe_address s.registers P0)) (tx_address o.unit.registers)).1 (listens_on k s o.unit o.sender o.there known)

    rest_stays : (j : ℕ) → (j ≡ k → ⊥) → unit_at t_answered j ≡ unit_at d j
    rest_stays zero other = place_same d 0 its_answer zero (λ z. absurd (z refl))
    rest_stays (suc j) other =
        place_same d 0 its_answer (suc j) (λ z s there. deaf s its_answer (f (covered its_answer)) (sends_only (suc j) s (omega arith) there) (not_theirs (suc j) s (omega arith) other there))

    air_silent : t_answered.air ≡ None
    air_silent = ap (λ m. air_of 0 (answer_to w f m 0 its_answer)) receiver_now.1

    module _ (s : State) (e : unit_at d k ≡ Some s) (known : Known o.unit s)
        (accounted : In its_payload h.receipts.taken ⊎ SomeOf (Mistaken f c h.writes its_payload) h.receipts.answered) where
      role_s : is_receiver s.registers ≡ false
      role_s = sends_only k s o.sender e

      sender_at : unit_at t_answered k ≡ Some (hears_packet w f its_answer s)
      sender_at = place_other d 0 its_answer k s zero_is_not e

      -- it no longer waits for it
      not_awaited : is_waiting s.core.mode ≡ false → Inv w f c t_answered (note_frame true fate d t_answered its_payload (note_counting d t_answered h))
      not_awaited idle_now =
          subst (λ g. Inv w f c t_answered (touching k (spoils fate) true g)) (sym (none_counted d t_answered h (λ j. same_shrank d t_answered j (all_stay j))))
          (by_places w f c (with_air d None) t_answered _ (λ j. sym (all_stay j)) (sym air_silent)
          (quiet_carry w f c d h k (spoils fate) true only_its i (λ z there wait.
          let same : s ≡ z = cc (e, there) in
          let bad : ◌≡◌ {A = Bool} true false = sym wait ∙ ap (λ (v : State). is_waiting v.core.mode) (sym same) ∙ idle_now in
          let u : ◌≡◌ {A = ℕ} 0 1 = cc in absurd (omega arith)))) where
            all_stay : (j : ℕ) → unit_at t_answered j ≡ unit_at d j
            all_stay j = ⊎_elim
                (λ same. ap (unit_at t_answered) same ∙ sender_at ∙ ap Some (idle s its_answer (f (covered its_answer)) role_s idle_now) ∙ sym e ∙ ap (unit_at d) (sym same))
                (λ other. rest_stays j other) (cases_eq j k)

      awaited : is_waiting s.core.mode ≡ true → Inv w f c t_answered (note_frame true fate d t_answered its_payload (note_counting d t_answered h))
      awaited waits =
          by_places w f c (with_air (with_unit d k (delivered s)) None) t_answered _ places (sym air_silent)
          (delivers w f c d h k n s (λ j. cond (shrank d t_answered j) (suc (h.writes.gone j)) (h.writes.gone j))
          (λ j. cond (shrank d t_answered j) (record { payload = oldest h.writes j; taken = h.receipts.taken; answered = h.receipts.answered } ∷ h.counted j) (h.counted j))
          (at k (touched (spoils fate) true (cond (shrank d t_answered k) [] (h.trials.exchanges k))) (λ j. cond (shrank d t_answered j) [] (h.trials.exchanges j)))
          o.sender e known.sound known.six waits i only_its (o.aimed s e waits) accounted
          (ap (λ b. cond b (suc (h.writes.gone k)) (h.writes.gone k)) it_shrank)
          (λ j other. ap (λ b. cond b (suc (h.writes.gone j)) (h.writes.gone j)) (others_not j other))
          (ap (λ b. cond b (record { payload = oldest h.writes k; taken = h.receipts.taken; answered = h.receipts.answered } ∷ h.counted k) (h.counted k)) it_shrank)
          (λ j other. ap (λ b. cond b (record { payload = oldest h.writes j; taken = h.receipts.taken; answered = h.receipts.answered } ∷ h.counted j) (h.counted j)) (others_not j other))
          (at_there k (touched (spoils fate) true (cond (shrank d t_answered k) [] (h.trials.exchanges k))) (λ j. cond (shrank d t_answered j) [] (h.trials.exchanges j))
          ∙ ap (λ b. touched (spoils fate) true (cond b [] (h.trials.exchanges k))) it_shrank)
          (λ j other. at_elsewhere k j (touched (spoils fate) true (cond (shrank d t_answered k) [] (h.trials.exchanges k))) (λ v. cond (shrank d t_answered v) [] (h.trials.exchanges v)) other
          ∙ ap (λ b. cond b [] (h.trials.exchanges j)) (others_not j other))) where
            ok : SenderOk s (h.writes.written k) (h.writes.gone k)
            ok = i.senders k s o.sender e

            accepted : hears_packet w f its_answer s ≡ delivered s
            accepted = accepts_it s its_answer (f (covered its_answer)) role_s waits (theirs s known)

            shorter : length (entries (popped s.tx)) < length (entries s.tx)
            shorter = omega (
              arith,
              ap length (popped_rest s.tx),
              length-drop 1 (entries s.tx),
              ap length ok.tail,
              tail_length (h.writes.gone k) (h.writes.written k) ok.within,
              ok.busy (waiting_tries s.core.mode waits),
            )

            it_shrank : shrank d t_answered k ≡ true
            it_shrank =
                ap (λ u. ltb (tx_length u) (tx_length (unit_at d k))) (sender_at ∙ ap Some accepted) ∙ ap (λ u. ltb (length (entries (popped s.tx))) (tx_length u)) e
                ∙ lt-ltb (length (entries (popped s.tx))) (length (entries s.tx)) shorter

            others_not : (j : ℕ) → (j ≡ k → ⊥) → shrank d t_answered j ≡ false
            others_not j other = same_shrank d t_answered j (rest_stays j other)

            places : (j : ℕ) → unit_at (with_unit d k (delivered s)) j ≡ unit_at t_answered j
            places j = ⊎_elim (λ same. ap (unit_at (with_unit d k (delivered s))) same ∙ now_there d k s (delivered s) e ∙ sym (ap (unit_at t_answered) same ∙ sender_at ∙ ap Some accepted))
                (λ other. now_elsewhere d k j (delivered s) other ∙ sym (rest_stays j other)) (cases_eq j k)

      answer_heard_by : (b : Bool) → is_waiting s.core.mode ≡ b → Inv w f c t_answered (note_frame true fate d t_answered its_payload (note_counting d t_answered h))
      answer_heard_by true waits = awaited waits
      answer_heard_by false waits = not_awaited waits

    -- ---- whatever becomes of the frame

    payload_carried : x ≡ frame_of k (frame_bits w f its_packet) → Settled (last_number k h.receipts.taken) n → fate_allowed w x.count (Some fate) ≡ true
        → Inv w f c (carried_so w f fate d x) (note_frame (eqb x.from 0) fate d (carried_so w f fate d x) its_payload (note_counting d (carried_so w f fate d x) h))
    payload_carried is settled allowed =
        let y = frame_of k (frame_bits w f its_packet) in
        let P : Inside → Type 0 = λ t. Inv w f c t (note_frame (eqb k 0) fate d t its_payload (note_counting d t h)) in
        subst (λ z. Inv w f c (carried_so w f fate d z) (note_frame (eqb z.from 0) fate d (carried_so w f fate d z) its_payload (note_counting d (carried_so w f fate d z) h))) (sym is)
        (⊎_elim
        (λ lost. subst P (sym lost.1)
        (subst (λ b. Inv w f c (with_air d None) (note_frame b fate d (with_air d None) its_payload (note_counting d (with_air d None) h))) (sym (ne_eqb k 0 zero_is_not)) (payload_lost lost.0)))
        (λ heard. subst P (sym heard)
        (subst (λ b. Inv w f c t_heard (note_frame b fate d t_heard its_payload (note_counting d t_heard h))) (sym (ne_eqb k 0 zero_is_not)) (payload_heard settled)))
        (carries w f below shows c d fits i.like k its_packet (valid_packet w c fits typed k n o.unit o.bytes o.there sendable_it.few sendable_it.bytes) fate
        (subst (λ z. fate_allowed w z.count (Some fate) ≡ true) is allowed)))

    answer_carried : x ≡ frame_of 0 (frame_bits w f its_answer)
        → (In its_payload h.receipts.taken ⊎ SomeOf (Mistaken f c h.writes its_payload) h.receipts.answered) → fate_allowed w x.count (Some fate) ≡ true
        → Inv w f c (carried_so w f fate d x) (note_frame (eqb x.from 0) fate d (carried_so w f fate d x) its_payload (note_counting d (carried_so w f fate d x) h))
    answer_carried is accounted allowed =
        let P : Inside → Type 0 = λ t. Inv w f c t (note_frame true fate d t its_payload (note_counting d t h)) in
        subst (λ z. Inv w f c (carried_so w f fate d z) (note_frame (eqb z.from 0) fate d (carried_so w f fate d z) its_payload (note_counting d (carried_so w f fate d z) h))) (sym is)
        (⊎_elim (λ lost. subst P (sym lost.1) (answer_lost lost.0))
        (λ heard. subst P (sym heard) (answer_heard_by sender_now.0 sender_now.1 sender_now.2 accounted (is_waiting sender_now.0.core.mode) refl))
        (carries w f below shows c d fits i.like 0 its_answer (valid_answer w c fits typed k n o.unit o.bytes o.there) fate
        (subst (λ z. fate_allowed w z.count (Some fate) ≡ true) is allowed)))

    frame_carried : fate_allowed w x.count (Some fate) ≡ true
        → Inv w f c (carried_so w f fate d x) (note_aired h.aired (eqb x.from 0) fate d (carried_so w f fate d x) (note_counting d (carried_so w f fate d x) h))
    frame_carried allowed =
        subst (λ m. Inv w f c (carried_so w f fate d x) (note_aired m (eqb x.from 0) fate d (carried_so w f fate d x) (note_counting d (carried_so w f fate d x) h))) (sym aired)
        (⊎_elim (λ p. payload_carried p.0 p.1 allowed) (λ p. answer_carried p.0 p.1 allowed) o.kind)

  pub carry_keeps : (below : (s : List Bool) → f s < 2 ^ w) (shows : PatternShows w f) (c d : Inside) (h : History) (fits : Fits w c) (typed : OfBytesInside c) → Inv w f c d h
      → (number start pattern : ℕ)
      → Inv w f c (carried w f d number start pattern) (note h d (carry number start pattern) (outcome w f d (carry number start pattern)) (carried w f d number start pattern))
  carry_keeps below shows c d h fits typed i number start pattern = by_air d.air refl where
    by_fate : (x : Frame) → d.air ≡ Some x → (o : Option Fate) → fate_of number start pattern ≡ o → (b : Bool) → fate_allowed w x.count o ≡ b
        → Inv w f c (carried_if w f b o d x)
        (note h d (carry number start pattern) (answer_of (cond b (Ok tt) (Err (refusal_of 0 FateNotAllowed)))) (carried_if w f b o d x))
    by_fate x air o is false allowed = i
    by_fate x air None is true allowed = let u : ◌≡◌ {A = ℕ} 0 1 = cc in absurd (omega arith)
    by_fate x air (Some fate) is true allowed =
        let on = subst (λ a. AirOk w f c d h a) air i.air in
        subst (λ m. Inv w f c (carried_so w f fate d x) (note_fate m d.air d (carried_so w f fate d x) h)) (sym is)
        (subst (λ a. Inv w f c (carried_so w f fate d x) (note_fate (Some fate) a d (carried_so w f fate d x) h)) (sym air)
        (frame_carried below shows c d h fits typed i fate on.0 on.1 x on.3 air on.2 allowed))

    by_air : (a : Option Frame) → d.air ≡ a → Inv w f c (carried_by w f a d number start pattern)
        (note h d (carry number start pattern) (answer_of (carry_result_by w f a number start pattern)) (carried_by w f a d number start pattern))
    by_air None air = i
    by_air (Some x) air = by_fate x air (fate_of number start pattern) refl (fate_allowed w x.count (fate_of number start pattern)) refl
