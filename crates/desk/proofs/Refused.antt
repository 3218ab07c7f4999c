-- A call that a cell refuses changes nothing.
use Rattle.std.proofs.Common.{◌≡◌, ℕ, zero, suc, ◌+◌, Bool, true, false, cond, not, ◌&&◌, List, [], length, set, Some, None, Ok, Err, Option, Result, sym, refl, ap, ◌∙◌, arith}
use Rattle.std.proofs.lemmas.List.{set-get_or}
use Rattle.commands.specs.declared.refusal.Refusal.{Refusal as UnitRefusal}
use Rattle.commands.specs.Refusals.{unless, kept_or}
use Rattle.commands.specs.Decode.{ordered}
use Rattle.unit.specs.declared.state.State.{State}
use Rattle.unit.specs.Units.{fault_refusal}
use Rattle.unit.specs.Commanding.{refusal, answer_of as unit_answer}
use Rattle.unit.specs.Ticking.{tick_refusal, tick_state, sent, bits_of}
use Rattle.cell.specs.declared.air.Frame.{Frame}
use Rattle.cell.specs.declared.air.Fate.{Fate}
use Rattle.cell.specs.declared.parts.Inside.{Inside}
use Rattle.cell.specs.declared.refusal.Refusal.{Refusal}
use Rattle.cell.specs.Refusals.{of_the_unit}
use Rattle.cell.specs.Air.{air_of, fate_of, fate_allowed}
use Rattle.cell.specs.Calls.{unit_at, with_places, with_air, with_unit, command_answer_by, command_result, commanded_by, commanded, ce_result_by, ce_result, leveled_by, leveled, done_if, tick_result_by, tick_result, ticked_by, ticked, carry_result_by, carry_result, carried_if, carried_by, carried}
use Rattle.law.specs.Runs.{refused, reply_of, answer_of}
use Rattle.desk.specs.declared.counts.Counts.{Counts}
use Rattle.desk.specs.Counts.{one_given_up}
use Rattle.desk.specs.CellCalls.{gave_up_at, ticked_counts, cell_ticks}
use Rattle.desk.proofs.TicksOfCell.{one_then, no_more}

-- ---- refusals as outcomes

pub reply_refused : (r : Result ℕ Refusal) (buffer : List ℕ) (e : Refusal) → reply_of r buffer ≡ refused e → r ≡ Err e
reply_refused (Ok n) buffer e h = let z : ◌≡◌ {A = ℕ} 0 1 = cc in absurd (omega arith)
reply_refused (Err d) buffer e h = cc

pub answer_refused : (r : Result Unit Refusal) (e : Refusal) → answer_of r ≡ refused e → r ≡ Err e
answer_refused (Ok x) e h = let z : ◌≡◌ {A = ℕ} 0 1 = cc in absurd (omega arith)
answer_refused (Err d) e h = cc

-- ---- a unit

-- what a unit keeps that refuses
kept : {X Y : Type 0} (r : Option UnitRefusal) (x : X) (u : ℕ) (e : Refusal) (before after : Y) → of_the_unit u (unless r x) ≡ Err e → kept_or r before after ≡ before
kept None x u e before after h = let z : ◌≡◌ {A = ℕ} 0 1 = cc in absurd (omega arith)
kept (Some q) x u e before after h = refl

-- a unit in its own place
same_unit : (c : Inside) (u : ℕ) (s : State) → unit_at c u ≡ Some s → with_unit c u s ≡ c
same_unit c u s is = ap (λ o. with_places c (set c.places.at u o)) (sym is) ∙ ap (with_places c) (set-get_or c.places.at u None)

-- ---- command and CE

command_by : (o : Option State) (c : Inside) (u : ℕ) (host : List ℕ) (room : ℕ) (e : Refusal) → unit_at c u ≡ o → command_answer_by o u host room ≡ Err e → commanded_by o c u host room ≡ c
command_by None c u host room e is h = refl
command_by (Some s) c u host room e is h =
    ap (with_unit c u) (kept (refusal s room (ordered host)) (1 + length (unit_answer s (ordered host))) u e s _ h) ∙ same_unit c u s is

pub command_kept : (c : Inside) (u : ℕ) (host : List ℕ) (room : ℕ) (e : Refusal) → command_result c u host room ≡ Err e → commanded c u host room ≡ c
command_kept c u host room e h = command_by (unit_at c u) c u host room e refl h

ce_by : (o : Option State) (c : Inside) (u : ℕ) (level : Bool) (e : Refusal) → unit_at c u ≡ o → ce_result_by o u ≡ Err e → leveled_by o c u level ≡ c
ce_by None c u level e is h = refl
ce_by (Some s) c u level e is h = ap (with_unit c u) (kept (fault_refusal s) tt u e s _ h) ∙ same_unit c u s is

pub ce_kept : (c : Inside) (u : ℕ) (level : Bool) (e : Refusal) → ce_result c u ≡ Err e → leveled c u level ≡ c
ce_kept c u level e h = ce_by (unit_at c u) c u level e refl h

-- ---- ticks and carries

module _ (w : ℕ) (f : List Bool → ℕ) where
  one_refused : (r : Option UnitRefusal) (c : Inside) (u n : ℕ) (s t : State) (xs : List Bool) (e : Refusal) → unit_at c u ≡ Some s → c.air ≡ None
      → done_if (of_the_unit u (unless r n)) ≡ Err e → with_air (with_unit c u (kept_or r s t)) (air_of u (kept_or r [] xs)) ≡ c
  one_refused None c u n s t xs e is air h = let z : ◌≡◌ {A = ℕ} 0 1 = cc in absurd (omega arith)
  one_refused (Some q) c u n s t xs e is air h = ap (λ d. with_air d None) (same_unit c u s is) ∙ ap (with_air c) (sym air)

  tick_by : (o : Option State) (a : Option Frame) (c : Inside) (u : ℕ) (e : Refusal) → unit_at c u ≡ o → c.air ≡ a → tick_result_by w f o a u ≡ Err e → ticked_by w f o a c u ≡ c
  tick_by None a c u e is air h = refl
  tick_by (Some s) None c u e is air h =
      one_refused (tick_refusal s 42) c u (length (bits_of w f (sent s))) s (tick_state s) (bits_of w f (sent s)) e is air h
  tick_by (Some s) (Some x) c u e is air h = refl

  tick_kept : (c : Inside) (u : ℕ) (e : Refusal) → tick_result w f c u ≡ Err e → ticked w f c u ≡ c
  tick_kept c u e h = tick_by (unit_at c u) c.air c u e refl refl h

  pub ticks_kept : (n u : ℕ) (c : Inside) (e : Refusal) → tick_result w f c u ≡ Err e → (cell_ticks w f n u c).inside ≡ c
  ticks_kept zero u c e h = ap (λ t. t.inside) (no_more w f u c)
  ticks_kept (suc n) u c e h = ap (λ t. t.inside) (one_then w f u n c (Err e) h) ∙ tick_kept c u e h

  carried_so : (b : Bool) (fate : Option Fate) (c : Inside) (x : Frame) (d e : Refusal) → ◌≡◌ {A = Result Unit Refusal} (cond b (Ok tt) (Err d)) (Err e) → carried_if w f b fate c x ≡ c
  carried_so true fate c x d e h = let z : ◌≡◌ {A = ℕ} 0 1 = cc in absurd (omega arith)
  carried_so false fate c x d e h = refl

  carry_by : (a : Option Frame) (c : Inside) (number start pattern : ℕ) (e : Refusal) → carry_result_by w f a number start pattern ≡ Err e → carried_by w f a c number start pattern ≡ c
  carry_by None c number start pattern e h = refl
  carry_by (Some x) c number start pattern e h = carried_so (fate_allowed w x.count (fate_of number start pattern)) (fate_of number start pattern) c x _ e h

  pub carry_kept : (c : Inside) (number start pattern : ℕ) (e : Refusal) → carry_result w f c number start pattern ≡ Err e → carried w f c number start pattern ≡ c
  carry_kept c number start pattern e h = carry_by c.air c number start pattern e h

-- ---- what is counted

never_new : {X : Type 0} (b : Bool) (x y : X) → cond (not b && b) y x ≡ x
never_new true x y = refl
never_new false x y = refl

pub counts_kept : (n : Counts) (u : ℕ) (before after : Inside) → after ≡ before → ticked_counts n u (gave_up_at before u) (gave_up_at after u) ≡ n
counts_kept n u before after same = ap (λ c. ticked_counts n u (gave_up_at before u) (gave_up_at c u)) same ∙ never_new (gave_up_at before u) n (one_given_up n u)
