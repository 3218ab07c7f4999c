-- A carry is either nothing heard, or the packet heard once.
use Rattle.std.proofs.Common.{◌≡◌, ℕ, suc, ◌-◌, ◌*◌, ◌%◌, ◌^◌, ◌<◌, ◌≤◌, Bool, true, false, cond, not, ◌&&◌, eqb, ◌⊎◌, List, [], ◌∷◌, length, get_or, replicate, Some, None, Option, sym, refl, ap, ◌∙◌, subst, ap₂, inl, inr, arith, rules}
use Rattle.unit.proofs.Holds.{either_way}
use Rattle.std.specs.Option.{option_map}
use Rattle.std.proofs.lemmas.List.{get_or-set_same, length-set}
use Rattle.std.proofs.lemmas.Bool.{le-ltb, eqb-true, eq-eqb, and_parts, and_from, cond-true, cond-false, cond_both}
use Rattle.checks.specs.Bits.{word}
use Rattle.frames.specs.Packet.{Packet, Valid, covered, frame_bits, reading}
use Rattle.frames.specs.Damage.{changed, UnharmedOrDropped, PatternShows}
use Rattle.frames.proofs.Lay.{laid_front, length_laid}
use Rattle.frames.proofs.Back.{reads_back}
use Rattle.queue.specs.Entries.{entries, popped}
use Rattle.registers.specs.declared.pipe.Pipe.{Pipe}
use Rattle.registers.specs.declared.register.Register.TheVariants.{SetupAw}
use Rattle.registers.specs.declared.held.Registers.{Registers}
use Rattle.registers.specs.File.{byte_of}
use Rattle.registers.specs.Pipes.{index_of, width_register}
use Rattle.registers.specs.Readings.{width_of}
use Rattle.commands.specs.declared.refusal.Refusal.{Refusal}
use Rattle.commands.specs.Refusals.{kept_or}
use Rattle.bench.specs.Checking.{is_receiver}
use Rattle.modes.specs.declared.parts.Core.{Core}
use Rattle.modes.specs.declared.parts.Role.TheVariants.{Sender}
use Rattle.modes.specs.Modes.{resting, is_waiting, is_rx, acknowledged}
use Rattle.unit.specs.declared.entry.Data.{Data}
use Rattle.unit.specs.declared.memory.Memory.{Memory}
use Rattle.unit.specs.declared.memory.Memories.{Memories}
use Rattle.unit.specs.declared.state.State.{State}
use Rattle.unit.specs.Entries.{entry_of}
use Rattle.unit.specs.Hearing.{recalled, same_memory, remembered, pipe_of, Outcome, dropped, answered, acknowledgement, taken, fresh, on_its_pipe, delivered, is_acknowledgement, hears, address_width, heard_packet, hear_refusal}
use Rattle.unit.specs.Ticking.{bits_of}
use Rattle.cell.specs.declared.air.Frame.{Frame}
use Rattle.cell.specs.declared.parts.Inside.{Inside}
use Rattle.cell.specs.declared.air.Fate.{Fate}
use Rattle.cell.specs.declared.air.Fate.TheVariants.{Lost, Heard, HeardTwice, Changed}
use Rattle.cell.specs.Air.{frame_of, bits_on, air_of, fate_allowed}
use Rattle.cell.specs.Calls.{unit_at, with_air, heard_by_unit, answer_bits, heard_from, answer_by, heard_once, carried_so}
use Rattle.law.specs.Lists.{All}
use Rattle.law.specs.Law.{spoils}
use Rattle.law.proofs.Terms.{Fits, Like, AllLike, hears_packet, each_hears, answer_to, hearing}

-- ---- a packet heard again leaves the unit as it is, and has the same answer

pub index_below : (q : Pipe) → index_of q < 6
index_below q = search rules

-- what a pipe remembers is a repeat
remembers : (m : Memories) (q : Pipe) (x : Memory) → length m.at ≡ 6 → same_memory (recalled (remembered m q x) q) x ≡ true
remembers m q x e =
    ap (λ (o : Option Memory). same_memory o x) (get_or-set_same m.at (index_of q) (Some x) None (omega (arith, index_below q)))
    ∙ and_from _ _ (eq-eqb x.pid x.pid refl) (eq-eqb x.check x.check refl)

-- after an acknowledgement a sender waits no more
at_rest : (level : Bool) → is_waiting (resting Sender level) ≡ false
at_rest true = refl
at_rest false = refl

waits_no_more : (left : Bool) (c : Core) → is_waiting (acknowledged left c).mode ≡ false
waits_no_more left c = either_way (λ (d : Core). is_waiting d.mode ≡ false) (c.ce && left) _ _ refl (at_rest c.ce)

-- Heard again, the packet changes nothing more and has the same answer. Registers and fault stay, and there are as many memories.
pub record Settled (s : State) (p : Packet) (check : ℕ) (o : Outcome) : Type 0 where
  pub again : hears s p check ≡ o → hears o.state p check ≡ o
  pub registers : o.state.registers ≡ s.registers
  pub fault : o.state.fault ≡ s.fault
  pub memories : length o.state.memories.at ≡ length s.memories.at

module _ (s : State) (p : Packet) (check : ℕ) (six : length s.memories.at ≡ 6) where
  abbrev Ends : Outcome → Type 0
  Ends o = Settled s p check o

  abbrev memory : Memory
  memory = record { pid = p.pid; check = check }

  unchanged : (a : Option Packet) → Ends (record { state = s; answer = a })
  unchanged a = record { again = λ e. e; registers = refl; fault = refl; memories = refl }

  by_delivery : is_receiver s.registers ≡ false → Ends (dropped (delivered s))
  by_delivery sends = record {
    again = λ _.
        cond-false (is_receiver s.registers) _ _ sends
        ∙ cond-false (is_waiting (delivered s).core.mode) _ _ (waits_no_more (not (eqb (length (entries (popped s.tx))) 0)) s.core);
    registers = refl;
    fault = refl;
    memories = refl;
  }

  module _ (receives : is_receiver s.registers ≡ true) (listens : is_rx s.core.mode ≡ true) where
    module _ (q : Pipe) (its_pipe : pipe_of s.registers p.address ≡ Some q)
        (its_length : eqb (length p.payload) (byte_of s.registers (width_register q)) ≡ true) where
      by_taking : (d : Data) → Ends (answered (taken s q d memory) p)
      by_taking d = record {
        again = λ _.
            cond-true (is_receiver s.registers) _ _ receives ∙ cond-true (is_rx s.core.mode) _ _ listens
            ∙ ap (on_its_pipe (taken s q d memory) p memory) its_pipe
            ∙ cond-true (eqb (length p.payload) (byte_of s.registers (width_register q))) _ _ its_length
            ∙ cond-true (same_memory (recalled (remembered s.memories q memory) q) memory) _ _ (remembers s.memories q memory six);
        registers = refl;
        fault = refl;
        memories = length-set s.memories.at (index_of q) (Some memory);
      }

      if_fresh : (d : Option Data) → Ends (fresh s q p memory d)
      if_fresh None = unchanged None
      if_fresh (Some d) = either_way Ends (eqb (length (entries s.rx)) 3) _ _ (unchanged None) (by_taking d)

    on_pipe : (o : Option Pipe) → pipe_of s.registers p.address ≡ o → Ends (on_its_pipe s p memory o)
    on_pipe None e = unchanged None
    on_pipe (Some q) e =
        cond_both (eqb (length p.payload) (byte_of s.registers (width_register q))) _ _ Ends
        (λ l. either_way Ends (same_memory (recalled s.memories q) memory) _ _ (unchanged (acknowledgement p)) (if_fresh q e l (entry_of p.payload)))
        (λ _. unchanged None)

  pub settled : Settled s p check (hears s p check)
  settled =
      cond_both (is_receiver s.registers) _ _ Ends
      (λ r. cond_both (is_rx s.core.mode) _ _ Ends (λ m. on_pipe r m (pipe_of s.registers p.address) refl) (λ _. unchanged None))
      (λ r. either_way Ends (is_waiting s.core.mode) _ _ (either_way Ends (is_acknowledgement s p) _ _ (by_delivery r) (unchanged None)) (unchanged None))

  pub hears_again : hears (hears s p check).state p check ≡ hears s p check
  hears_again = settled.again refl

-- ---- who hears

-- a unit that hears frames: addresses of this width, no fault, and six memories
abbrev Hearer : ℕ → Option State → Type 0
Hearer width None = Unit {0}
Hearer width (Some s) = (address_width s ≡ width) × (s.fault ≡ None) × (length s.memories.at ≡ 6)

like_hearer : (width : ℕ) (a b : Option State) → ((s : State) → a ≡ Some s → address_width s ≡ width) → Like a b → Hearer width b
like_hearer width None None h l = tt
like_hearer width None (Some s) h l = absurd l
like_hearer width (Some a) None h l = absurd l
like_hearer width (Some a) (Some s) h l = (ap (λ (f : Registers). width_of (byte_of f SetupAw)) l.0 ∙ h a refl, l.1, l.2)

all_hear : (width : ℕ) (us : List (Option State)) → ((u : ℕ) → Hearer width (get_or us u None)) → All (Hearer width) us
all_hear width [] h = tt
all_hear width (u ∷ us) h = (h 0, all_hear width us (λ k. h (suc k)))

first_hears : (width : ℕ) (us : List (Option State)) → All (Hearer width) us → Hearer width (get_or us 0 None)
first_hears width [] h = tt
first_hears width (u ∷ us) h = h.0

-- ---- a frame whose count its bytes have: no unit refuses it

no_refusal : (s : State) (bytes : List ℕ) (n : ℕ) → s.fault ≡ None → n ≤ 8 * length bytes → hear_refusal s bytes n 42 ≡ None
no_refusal s bytes n e h = rw (e, le-ltb (8 * length bytes) n h)

-- a cell of these units, with the answer of these bits on the air, if there are any
abbrev inside : List (Option State) → List Bool → Inside
inside us ys = record { places = record { at = us }; air = air_of 0 ys }

module _ (w : ℕ) (f : List Bool → ℕ) (x : Frame) (within : x.count ≤ 8 * length x.bytes) (xs : List Bool) where
  unit_hears : (s : State) (r : Option Packet) → s.fault ≡ None → reading w f (address_width s) xs ≡ r → heard_by_unit w f x xs s ≡ (heard_packet f s r).state
  unit_hears s r sound e =
      ap₂ (λ (o : Option Refusal) (q : Option Packet). kept_or o s (heard_packet f s q).state) (no_refusal s x.bytes x.count sound within) e

  unit_answers : (s : State) (r : Option Packet) → s.fault ≡ None → reading w f (address_width s) xs ≡ r → answer_bits w f x xs s ≡ bits_of w f (heard_packet f s r).answer
  unit_answers s r sound e =
      ap₂ (λ (o : Option Refusal) (q : Option Packet). kept_or o [] (bits_of w f (heard_packet f s q).answer)) (no_refusal s x.bytes x.count sound within) e

  -- read as a packet
  module _ (width : ℕ) (p : Packet) (read : reading w f width xs ≡ Some p) where
    reads : (s : State) → address_width s ≡ width → reading w f (address_width s) xs ≡ Some p
    reads s e = ap (λ (v : ℕ). reading w f v xs) e ∙ read

    place_hears : (o : Option State) → Hearer width o → option_map (heard_by_unit w f x xs) o ≡ option_map (hears_packet w f p) o
    place_hears None h = refl
    place_hears (Some s) h = ap Some (unit_hears s (Some p) h.1 (reads s h.0))

    each : (i : ℕ) (us : List (Option State)) → All (Hearer width) us → heard_from w f i x xs us ≡ each_hears w f i x.from p us
    unfolding heard_from each_hears
    each i [] h = refl
    each i (u ∷ us) h =
        ap₂ (λ (o : Option State) (os : List (Option State)). cond (eqb i x.from) u o ∷ os) (place_hears u h.0) (each (suc i) us h.1)

    answer : (o : Option State) → Hearer width o → answer_by w f o x xs ≡ answer_to w f o x.from p
    answer None h = refl
    answer (Some s) h = ap (cond (eqb x.from 0) []) (unit_answers s (Some p) h.1 (reads s h.0))

    heard : (c : Inside) → All (Hearer width) c.places.at → heard_once w f c x xs ≡ hearing w f c x.from p
    heard c h = ap₂ inside (each 0 c.places.at h) (answer (unit_at c 0) (first_hears width c.places.at h))

  -- read as nothing
  module _ (width : ℕ) (none : (v : ℕ) → reading w f v xs ≡ None) where
    place_stays : (o : Option State) → Hearer width o → option_map (heard_by_unit w f x xs) o ≡ o
    place_stays None h = refl
    place_stays (Some s) h = ap Some (unit_hears s None h.1 (none (address_width s)))

    each_stays : (i : ℕ) (us : List (Option State)) → All (Hearer width) us → heard_from w f i x xs us ≡ us
    unfolding heard_from
    each_stays i [] h = refl
    each_stays i (u ∷ us) h =
        ap₂ (λ (o : Option State) (os : List (Option State)). cond (eqb i x.from) u o ∷ os) (place_stays u h.0) (each_stays (suc i) us h.1)
        ∙ ap (λ (o : Option State). o ∷ us) (either_way (λ o. o ≡ u) (eqb i x.from) u u refl refl)

    no_answer : (o : Option State) → Hearer width o → answer_by w f o x xs ≡ []
    no_answer None h = refl
    no_answer (Some s) h =
        either_way (λ ys. ys ≡ []) (eqb x.from 0) [] (answer_bits w f x xs s) refl (unit_answers s None h.1 (none (address_width s)))

    unheard : (c : Inside) → All (Hearer width) c.places.at → heard_once w f c x xs ≡ with_air c None
    unheard c h = ap₂ inside (each_stays 0 c.places.at h) (no_answer (unit_at c 0) (first_hears width c.places.at h))

-- ---- the packet heard twice

module _ (w : ℕ) (f : List Bool → ℕ) (width from : ℕ) (p : Packet) where
  place_keeps : (o : Option State) → Hearer width o → Hearer width (option_map (hears_packet w f p) o)
  place_keeps None h = tt
  place_keeps (Some s) h =
      let k = settled s p (f (covered p)) h.2 in
      (ap (λ (g : Registers). width_of (byte_of g SetupAw)) k.registers ∙ h.0, k.fault ∙ h.1, k.memories ∙ h.2)

  each_keeps : (i : ℕ) (us : List (Option State)) → All (Hearer width) us → All (Hearer width) (each_hears w f i from p us)
  unfolding each_hears
  each_keeps i [] h = tt
  each_keeps i (u ∷ us) h = (either_way (Hearer width) (eqb i from) _ _ h.0 (place_keeps u h.0), each_keeps (suc i) us h.1)

  place_again : (b : Bool) (o : Option State) → Hearer width o
      → cond b (cond b o (option_map (hears_packet w f p) o)) (option_map (hears_packet w f p) (cond b o (option_map (hears_packet w f p) o)))
      ≡ cond b o (option_map (hears_packet w f p) o)
  place_again true o h = refl
  place_again false None h = refl
  place_again false (Some s) h = ap (λ (y : Outcome). Some y.state) (hears_again s p (f (covered p)) h.2)

  each_again : (i : ℕ) (us : List (Option State)) → All (Hearer width) us → each_hears w f i from p (each_hears w f i from p us) ≡ each_hears w f i from p us
  unfolding each_hears
  each_again i [] h = refl
  each_again i (u ∷ us) h = ap₂ (λ (o : Option State) (os : List (Option State)). o ∷ os) (place_again (eqb i from) u h.0) (each_again (suc i) us h.1)

  answer_again : (b : Bool) (o : Option State) → Hearer width o → answer_to w f (cond b o (option_map (hears_packet w f p) o)) from p ≡ answer_to w f o from p
  answer_again true o h = refl
  answer_again false None h = refl
  answer_again false (Some s) h = ap (λ (y : Outcome). cond (eqb from 0) [] (bits_of w f y.answer)) (hears_again s p (f (covered p)) h.2)

  first_again : (us : List (Option State)) → All (Hearer width) us → answer_to w f (get_or (each_hears w f 0 from p us) 0 None) from p ≡ answer_to w f (get_or us 0 None) from p
  unfolding each_hears
  first_again [] h = refl
  first_again (u ∷ us) h = answer_again (eqb 0 from) u h.0

  hearing_again : (c : Inside) → All (Hearer width) c.places.at → hearing w f (hearing w f c from p) from p ≡ hearing w f c from p
  hearing_again c h = ap₂ inside (each_again 0 c.places.at h) (first_again c.places.at h)

-- ---- the fates

module _ (w : ℕ) (f : List Bool → ℕ) (below : (s : List Bool) → f s < 2 ^ w) (shows : PatternShows w f)
    (c0 c : Inside) (fits : Fits w c0) (like : AllLike c0 c) (from : ℕ) (p : Packet) (valid : Valid (address_width fits.receiver) p) where
  abbrev width : ℕ
  width = address_width fits.receiver

  abbrev sent : List Bool
  sent = frame_bits w f p

  abbrev frame : Frame
  frame = frame_of from sent

  hearers : All (Hearer width) c.places.at
  hearers = all_hear width c.places.at (λ u. like_hearer width (unit_at c0 u) (unit_at c u) (fits.width u) (like u))

  on_the_air : bits_on frame ≡ sent
  on_the_air = laid_front sent (replicate 42 0)

  heard_as : (xs : List Bool) → reading w f width xs ≡ Some p → (d : Inside) → All (Hearer width) d.places.at → heard_once w f d frame xs ≡ hearing w f d from p
  heard_as xs e = heard w f frame (length_laid sent (replicate 42 0)) xs width p e

  as_sent : reading w f width (bits_on frame) ≡ Some p
  as_sent = ap (reading w f width) on_the_air ∙ reads_back f w below width p valid

  once : heard_once w f c frame (bits_on frame) ≡ hearing w f c from p
  once = heard_as (bits_on frame) as_sent c hearers

  twice : heard_once w f (heard_once w f c frame (bits_on frame)) frame (bits_on frame) ≡ hearing w f c from p
  twice =
      ap (λ (d : Inside). heard_once w f d frame (bits_on frame)) once
      ∙ heard_as (bits_on frame) as_sent (hearing w f c from p) (each_keeps w f width from p 0 c.places.at hearers)
      ∙ hearing_again w f width from p c hearers

  -- nobody hears the frame, which was spoiled; or each unit but its sender hears the packet, as if once
  abbrev pub Carried : Fate → Type 0
  Carried fate = ((spoils fate ≡ true) × (carried_so w f fate c frame ≡ with_air c None)) ⊎ (carried_so w f fate c frame ≡ hearing w f c from p)

  changes : (start pattern : ℕ) → UnharmedOrDropped w f width p (changed (bits_on frame) start (word 16 pattern)) → Carried (Changed start pattern)
  changes start pattern (inl h) = inr (heard_as (changed (bits_on frame) start (word 16 pattern)) h.1 c hearers)
  changes start pattern (inr h) = inl (refl, unheard w f frame (length_laid sent (replicate 42 0)) (changed (bits_on frame) start (word 16 pattern)) width h c hearers)

  pub carries : (fate : Fate) → fate_allowed w frame.count (Some fate) ≡ true → Carried fate
  carries Lost h = inl (refl, refl)
  carries Heard h = inr once
  carries HeardTwice h = inr twice
  carries (Changed start pattern) h =
      let top = (and_parts _ _ (and_parts _ _ h).1).0 in
      changes start pattern
      (subst (λ (xs : List Bool). UnharmedOrDropped w f width p (changed xs start (word 16 pattern))) (sym on_the_air)
      (shows width p start pattern valid (eqb-true (pattern % 2 ^ (16 - w)) 0 top)))
