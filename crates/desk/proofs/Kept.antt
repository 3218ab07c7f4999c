-- What a line leaves as it was.
use Rattle.std.proofs.Common.{◌≡◌, ℕ, Bool, List, ◌∷◌, get_or, set, Some, None, Ok, Err, Option, Result, unwrap_or, sym, refl, ap, ◌∙◌}
use Rattle.std.proofs.lemmas.List.{get_or-set_other, set-get_or}
use Rattle.checks.specs.Crc.{crc8, crc16}
use Rattle.registers.specs.declared.held.Registers.{Registers}
use Rattle.registers.specs.Address.{registers}
use Rattle.commands.specs.declared.refusal.Refusal.{Refusal}
use Rattle.commands.specs.Refusals.{unless, kept_or, first_of}
use Rattle.commands.specs.Decode.{Order, ordered}
use Rattle.bench.specs.Live.{at_rest}
use Rattle.bench.specs.Commands.{refusals, refusal, stored, answer_of, registers_after}
use Rattle.bench.specs.Loading.{load_refusal, fields_written}
use Rattle.unit.specs.declared.state.State.{State}
use Rattle.unit.specs.Units.{fault_refusal}
use Rattle.unit.specs.Commanding.{refusal as boxed_refusal}
use Rattle.unit.specs.Ticking.{tick_refusal}
use Rattle.unit.specs.Hearing.{hear_refusal}
use Rattle.requests.specs.declared.lines.Lack.{Lack}
use Rattle.requests.specs.Lines.{UnitRequest, bench, load, check, box, hear, Call, command, ce, irq, tick}
use Rattle.desk.specs.declared.slot.AnyUnit.TheVariants.{Bench, Boxed}
use Rattle.desk.specs.declared.slot.Desk.{Desk}
use Rattle.desk.specs.declared.slot.Units.{Units}
use Rattle.desk.specs.declared.slot.Units.TheVariants.{Crc8, Crc16}
use Rattle.desk.specs.declared.slot.Watched.{Watched}
use Rattle.cell.specs.declared.refusal.Refusal.{Refusal as CellRefusal}
use Rattle.cell.specs.declared.parts.Inside.{Inside}
use Rattle.cell.specs.Calls.{command_result, ce_result, tick_result, carry_result}
use Rattle.cell.specs.Pins.{irq_at}
use Rattle.law.specs.Runs.{Outcome, replied as law_replied, done as law_done, refused as law_refused, outcome, after as led_to, command as law_command, ce as law_ce, carry as law_carry}
use Rattle.desk.proofs.Refused.{reply_refused, answer_refused, command_kept, ce_kept as boxed_ce_kept, ticks_kept, carry_kept, counts_kept}
use Rattle.desk.specs.CellCalls.{CellTicks, cell_ticks, waiting_at, replied_counts, with_inside, said_by, ticks_said_by, pin_said, watched_said, watched_after, carry_said_by}
use Rattle.cell.specs.Making.{states, unit_at_fault}
use Rattle.desk.specs.declared.counts.Counts.{Counts}
use Rattle.desk.specs.Making.{boxed_first, made_unless, make_said_by, desk_made_by, desk_make_by}
use Rattle.requests.specs.declared.lines.Cannot.{Cannot}
use Rattle.desk.specs.Answers.{Said, done, pin, replied, ticked, heard, refused, refused_in_cell, or_refused, result_said}
use Rattle.desk.specs.Slots.{Slot, in_state, line_after, line_said, call_after, call_said}
use Rattle.desk.specs.Desks.{slot_at, with_slot, with_cell, desk_after_by, desk_after, desk_said_by, desk_said, desk_called_by, desk_called, desk_answer_by, desk_answer, units_after, units_said, desk_carried_by, desk_carry_by, units_called, units_answer, units_carried, units_carry_said, units_made, units_make_said, standing, Elsewhere, KeptUnlessDone}

-- ---- one place

mapped : {X Y : Type 0} (f : X → Y) (r : Result Said Lack) (before after : X) → KeptUnlessDone r before after → KeptUnlessDone r (f before) (f after)
mapped f (Err lack) before after h = ap f h
mapped f (Ok (refused e)) before after h = ap f h
mapped f (Ok (refused_in_cell e)) before after h = ap f h
mapped f (Ok done) before after h = tt
mapped f (Ok (pin low)) before after h = ap f h
mapped f (Ok (replied bytes)) before after h = tt
mapped f (Ok (ticked n frame)) before after h = tt
mapped f (Ok (heard frame)) before after h = tt

unmoved : {X : Type 0} (r : Result Said Lack) (x : X) → KeptUnlessDone r x x
unmoved (Err lack) x = refl
unmoved (Ok (refused e)) x = refl
unmoved (Ok (refused_in_cell e)) x = refl
unmoved (Ok done) x = tt
unmoved (Ok (pin low)) x = refl
unmoved (Ok (replied bytes)) x = tt
unmoved (Ok (ticked n frame)) x = tt
unmoved (Ok (heard frame)) x = tt

-- after a refusal stands what stood before
kept_refused : {X : Type 0} (x : Option Refusal) (s : Said) (before after : X) → ((b a : X) → KeptUnlessDone (Ok s) b a) → KeptUnlessDone (Ok (or_refused x s)) before (kept_or x before after)
kept_refused None s before after free = free before after
kept_refused (Some e) s before after free = refl

load_kept : (x : Option Refusal) (f g : Registers) → KeptUnlessDone (Ok (result_said (unless x tt))) f (kept_or x f g)
load_kept None f g = tt
load_kept (Some e) f g = refl

ce_kept : (x : Option Refusal) (s t : State) → KeptUnlessDone (Ok (result_said (unless x tt))) s (kept_or x s t)
ce_kept None s t = tt
ce_kept (Some e) s t = refl

bench_kept : (o : Result Order Refusal) (f : Registers) (room : ℕ) → KeptUnlessDone (Ok (or_refused (refusal f room o) (replied (at_rest.status ∷ answer_of f o)))) f (registers_after f room o)
bench_kept (Err e) f room = refl
bench_kept (Ok o) f room = kept_refused (first_of (refusals f room o)) (replied (at_rest.status ∷ answer_of f (Ok o))) f (stored f o) (λ b a. tt)

outcome_kept : {X : Type 0} (o : Outcome) (before after : X) → ((e : CellRefusal) → o ≡ law_refused e → after ≡ before) → KeptUnlessDone (Ok (said_by o)) before after
outcome_kept (law_replied bytes) before after same = tt
outcome_kept law_done before after same = tt
outcome_kept (law_refused e) before after same = same e refl

ticks_said_kept : {X : Type 0} (r : Result Unit CellRefusal) (w : ℕ) (f : List Bool → ℕ) (t : CellTicks) (before after : X) → ((e : CellRefusal) → r ≡ Err e → after ≡ before)
    → KeptUnlessDone (Ok (ticks_said_by w f r t)) before after
ticks_said_kept (Ok x) w f t before after same = tt
ticks_said_kept (Err e) w f t before after same = same e refl

pin_kept : {X : Type 0} (o : Option Bool) (w : ℕ) (f : List Bool → ℕ) (before after : X) → after ≡ before → KeptUnlessDone (pin_said w f o) before after
pin_kept None w f before after h = h
pin_kept (Some low) w f before after h = h

module _ {C : Type 0} where
  on_bench : Registers → Slot C
  on_bench f = Some (Bench (record { registers = f }))

  boxed_in : State → Slot C
  boxed_in s = Some (in_state s)

  commanded_kept : (room : ℕ) (bytes : List ℕ) (w : ℕ) (f : List Bool → ℕ) (s : Slot C) → KeptUnlessDone (call_said w f (command room bytes) s) s (call_after w f (command room bytes) s)
  unfolding on_bench boxed_in
  commanded_kept room bytes w f None = refl
  commanded_kept room bytes w f (Some (Bench b)) = mapped on_bench (call_said w f {C = C} (command room bytes) (Some (Bench b))) b.registers _ (bench_kept (ordered bytes) b.registers room)
  commanded_kept room bytes w f (Some (Boxed u)) =
      mapped boxed_in (call_said w f {C = C} (command room bytes) (Some (Boxed u))) u.state _ (kept_refused (boxed_refusal u.state room (ordered bytes)) _ u.state _ (λ b a. tt))

  line_kept : (w : ℕ) (f : List Bool → ℕ) (q : UnitRequest) (s : Slot C) → KeptUnlessDone (line_said w f q s) s (line_after w f q s)
  unfolding on_bench boxed_in
  line_kept w f bench s = tt
  line_kept w f (load p) None = refl
  line_kept w f (load p) (Some (Bench b)) =
      mapped on_bench (Ok (result_said (unless (load_refusal p) tt))) b.registers _ (load_kept (load_refusal p) b.registers (fields_written registers p b.registers))
  line_kept w f (load p) (Some (Boxed u)) = refl
  line_kept w f check s = unmoved (line_said w f check s) s
  line_kept w f box None = refl
  line_kept w f box (Some (Bench b)) = tt
  line_kept w f box (Some (Boxed u)) = refl
  line_kept w f (hear n bytes) None = refl
  line_kept w f (hear n bytes) (Some (Bench b)) = refl
  line_kept w f (hear n bytes) (Some (Boxed u)) =
      mapped boxed_in (line_said w f {C = C} (hear n bytes) (Some (Boxed u))) u.state _ (kept_refused (hear_refusal u.state bytes n 42) _ u.state _ (λ b a. tt))

  call_kept : (w : ℕ) (f : List Bool → ℕ) (c : Call) (s : Slot C) → KeptUnlessDone (call_said w f c s) s (call_after w f c s)
  unfolding on_bench boxed_in
  call_kept w f (command room bytes) s = commanded_kept room bytes w f s
  call_kept w f (ce high) None = refl
  call_kept w f (ce high) (Some (Bench b)) = refl
  call_kept w f (ce high) (Some (Boxed u)) =
      mapped boxed_in (call_said w f {C = C} (ce high) (Some (Boxed u))) u.state _ (ce_kept (fault_refusal u.state) u.state _)
  call_kept w f irq s = unmoved (call_said w f irq s) s
  call_kept w f (tick n) None = refl
  call_kept w f (tick n) (Some (Bench b)) = refl
  call_kept w f (tick n) (Some (Boxed u)) =
      mapped boxed_in (call_said w f {C = C} (tick n) (Some (Boxed u))) u.state _ (kept_refused (tick_refusal u.state 42) _ u.state _ (λ b a. tt))

  -- ---- eight places

  at_place : (r : Result Said Lack) (xs : List (Slot C)) (u : ℕ) (s : Slot C) → KeptUnlessDone r (get_or xs u None) s → KeptUnlessDone r xs (set xs u s)
  at_place (Err lack) xs u s h = ap (set xs u) h ∙ set-get_or xs u None
  at_place (Ok (refused e)) xs u s h = ap (set xs u) h ∙ set-get_or xs u None
  at_place (Ok (refused_in_cell e)) xs u s h = ap (set xs u) h ∙ set-get_or xs u None
  at_place (Ok done) xs u s h = tt
  at_place (Ok (pin low)) xs u s h = ap (set xs u) h ∙ set-get_or xs u None
  at_place (Ok (replied bytes)) xs u s h = tt
  at_place (Ok (ticked n frame)) xs u s h = tt
  at_place (Ok (heard frame)) xs u s h = tt

  slot_kept : (r : Result Said Lack) (d : Desk C) (u : ℕ) (s : Slot C) → KeptUnlessDone r (slot_at d u) s → KeptUnlessDone r d (with_slot d u s)
  slot_kept r d u s h = mapped (λ xs. record { slots = xs; cell = d.cell }) r d.slots _ (at_place r d.slots u s h)

  -- ---- a cell

  -- the same cell with the same counts
  same_cell : (x : Watched C) (d : Desk C) (c : Inside) (n : Counts) → d.cell ≡ Some x → c ≡ x.cell.inside → n ≡ x.counts → with_cell d (Some (with_inside c n)) ≡ d
  same_cell x d c n is inside counts =
      ap (λ i. with_cell d (Some (with_inside i n))) inside ∙ ap (λ m. with_cell d (Some (with_inside x.cell.inside m))) counts ∙ ap (with_cell d) (sym is)

  watched_kept : (w : ℕ) (f : List Bool → ℕ) (x : Watched C) (d : Desk C) (u : ℕ) (c : Call) → d.cell ≡ Some x
      → KeptUnlessDone (watched_said w f x u c) d (with_cell d (Some (watched_after w f x u c)))
  watched_kept w f x d u (command room bytes) is =
      outcome_kept (outcome w f x.cell.inside (law_command u bytes room)) d _
      (λ e refused. same_cell x d _ _ is
      (command_kept x.cell.inside u bytes room e (reply_refused (command_result x.cell.inside u bytes room) _ e refused))
      (ap (λ o. replied_counts o x.counts u bytes (unwrap_or (waiting_at x.cell.inside u) 0)) refused))
  watched_kept w f x d u (ce high) is =
      outcome_kept (outcome w f x.cell.inside (law_ce u high)) d _
      (λ e refused. same_cell x d _ _ is (boxed_ce_kept x.cell.inside u high e (answer_refused (ce_result x.cell.inside u) e refused)) refl)
  watched_kept w f x d u irq is = pin_kept (irq_at x.cell.inside u) w f d _ (ap (with_cell d) (sym is))
  watched_kept w f x d u (tick n) is =
      ticks_said_kept (tick_result w f x.cell.inside u) w f (cell_ticks w f n u x.cell.inside) d _
      (λ e refused.
      let same = ticks_kept w f n u x.cell.inside e refused in
      same_cell x d _ _ is same (counts_kept x.counts u x.cell.inside _ same))

  -- ---- a desk

  module _ (w : ℕ) (f : List Bool → ℕ) where
    desk_kept_by : (x : Option (Watched C)) (d : Desk C) (u : ℕ) (q : UnitRequest) → KeptUnlessDone (desk_said_by w f x d u q) d (desk_after_by w f x d u q)
    desk_kept_by None d u q = slot_kept (line_said w f q (slot_at d u)) d u _ (line_kept w f q (slot_at d u))
    desk_kept_by (Some x) d u q = refl

    desk_kept : (d : Desk C) (u : ℕ) (q : UnitRequest) → KeptUnlessDone (desk_said w f d u q) d (desk_after w f d u q)
    desk_kept d u q = desk_kept_by d.cell d u q

    desk_called_kept_by : (x : Option (Watched C)) (d : Desk C) (u : ℕ) (c : Call) → d.cell ≡ x → KeptUnlessDone (desk_answer_by w f x d u c) d (desk_called_by w f x d u c)
    desk_called_kept_by None d u c is = slot_kept (call_said w f c (slot_at d u)) d u _ (call_kept w f c (slot_at d u))
    desk_called_kept_by (Some x) d u c is = watched_kept w f x d u c is

    desk_called_kept : (d : Desk C) (u : ℕ) (c : Call) → KeptUnlessDone (desk_answer w f d u c) d (desk_called w f d u c)
    desk_called_kept d u c = desk_called_kept_by d.cell d u c refl

    elsewhere_by : (x : Option (Watched C)) (d : Desk C) (u : ℕ) (q : UnitRequest) (i : ℕ) → (i ≡ u → ⊥) → standing (slot_at (desk_after_by w f x d u q) i) ≡ standing (slot_at d i)
    elsewhere_by None d u q i other = ap standing (get_or-set_other d.slots u i _ None other)
    elsewhere_by (Some x) d u q i other = refl

    called_elsewhere_by : (x : Option (Watched C)) (d : Desk C) (u : ℕ) (c : Call) (i : ℕ) → (i ≡ u → ⊥) → standing (slot_at (desk_called_by w f x d u c) i) ≡ standing (slot_at d i)
    called_elsewhere_by None d u c i other = ap standing (get_or-set_other d.slots u i _ None other)
    called_elsewhere_by (Some x) d u c i other = refl

-- ---- the units

pub units_kept : (us : Units) (u : ℕ) (q : UnitRequest) → KeptUnlessDone (units_said us u q) us (units_after us u q)
units_kept (Crc8 d) u q = mapped Crc8 (units_said (Crc8 d) u q) d _ (desk_kept 8 crc8 d u q)
units_kept (Crc16 d) u q = mapped Crc16 (units_said (Crc16 d) u q) d _ (desk_kept 16 crc16 d u q)

pub units_called_kept : (us : Units) (u : ℕ) (c : Call) → KeptUnlessDone (units_answer us u c) us (units_called us u c)
units_called_kept (Crc8 d) u c = mapped Crc8 (units_answer (Crc8 d) u c) d _ (desk_called_kept 8 crc8 d u c)
units_called_kept (Crc16 d) u c = mapped Crc16 (units_answer (Crc16 d) u c) d _ (desk_called_kept 16 crc16 d u c)

pub elsewhere : (us : Units) (u : ℕ) (q : UnitRequest) → Elsewhere us u (units_after us u q)
elsewhere (Crc8 d) u q = record { stands = λ i other. elsewhere_by 8 crc8 d.cell d u q i other; check = refl }
elsewhere (Crc16 d) u q = record { stands = λ i other. elsewhere_by 16 crc16 d.cell d u q i other; check = refl }

pub called_elsewhere : (us : Units) (u : ℕ) (c : Call) → Elsewhere us u (units_called us u c)
called_elsewhere (Crc8 d) u c = record { stands = λ i other. called_elsewhere_by 8 crc8 d.cell d u c i other; check = refl }
called_elsewhere (Crc16 d) u c = record { stands = λ i other. called_elsewhere_by 16 crc16 d.cell d u c i other; check = refl }

-- ---- the cell made, and its frame carried

-- what stays where a line for the cell cannot be carried out, or is refused
abbrev pub KeptIfSaid : {X : Type 0} → Result Said Cannot → X → X → Type 0
KeptIfSaid (Ok s) before after = KeptUnlessDone (Ok s) before after
KeptIfSaid (Err e) before after = after ≡ before

moved : {X Y : Type 0} (f : X → Y) (r : Result Said Cannot) (before after : X) → KeptIfSaid r before after → KeptIfSaid r (f before) (f after)
moved f (Ok s) before after h = mapped f (Ok s) before after h
moved f (Err e) before after h = ap f h

module _ {C : Type 0} where
  carry_said_kept : (o : Outcome) (w : ℕ) (f : List Bool → ℕ) (c : Inside) (before after : Desk C) → ((e : CellRefusal) → o ≡ law_refused e → after ≡ before)
      → KeptIfSaid (Ok (carry_said_by w f o c)) before after
  carry_said_kept (law_replied bytes) w f c before after same = tt
  carry_said_kept law_done w f c before after same = tt
  carry_said_kept (law_refused e) w f c before after same = same e refl

  desk_carried_kept : (w : ℕ) (f : List Bool → ℕ) (x : Option (Watched C)) (d : Desk C) (fate start pattern : ℕ) → d.cell ≡ x
      → KeptIfSaid (desk_carry_by w f x fate start pattern) d (desk_carried_by w f x d fate start pattern)
  desk_carried_kept w f None d fate start pattern is = refl
  desk_carried_kept w f (Some x) d fate start pattern is =
      carry_said_kept (outcome w f x.cell.inside (law_carry fate start pattern)) w f (led_to w f x.cell.inside (law_carry fate start pattern)) d _
      (λ e refused. same_cell x d _ _ is (carry_kept w f x.cell.inside fate start pattern e (answer_refused (carry_result w f x.cell.inside fate start pattern) e refused)) refl)

  made_so : (o : Option ℕ) (d : Desk C) → KeptIfSaid (Ok (make_said_by o)) d (made_unless o d)
  made_so None d = tt
  made_so (Some u) d = refl

  desk_made_kept : (w : ℕ) (x : Option (Watched C)) (d : Desk C) → KeptIfSaid (desk_make_by x w d) d (desk_made_by x w d)
  desk_made_kept w None d = made_so (unit_at_fault w (states (boxed_first d.slots))) d
  desk_made_kept w (Some x) d = refl

pub units_carried_kept : (us : Units) (fate start pattern : ℕ) → KeptIfSaid (units_carry_said us fate start pattern) us (units_carried us fate start pattern)
units_carried_kept (Crc8 d) fate start pattern = moved Crc8 (units_carry_said (Crc8 d) fate start pattern) d _ (desk_carried_kept 8 crc8 d.cell d fate start pattern refl)
units_carried_kept (Crc16 d) fate start pattern = moved Crc16 (units_carry_said (Crc16 d) fate start pattern) d _ (desk_carried_kept 16 crc16 d.cell d fate start pattern refl)

pub units_made_kept : (us : Units) → KeptIfSaid (units_make_said us) us (units_made us)
units_made_kept (Crc8 d) = moved Crc8 (units_make_said (Crc8 d)) d _ (desk_made_kept 8 d.cell d)
units_made_kept (Crc16 d) = moved Crc16 (units_make_said (Crc16 d)) d _ (desk_made_kept 16 d.cell d)
