-- Ticks of a unit of a cell, one after another.
use Rattle.std.proofs.Common.{◌≡◌, ℕ, zero, suc, ◌+◌, ◌-◌, ◌<◌, ◌≤◌, Bool, List, Ok, Err, Result, sym, refl, ap, ◌∙◌, subst, arith}
use Rattle.std.specs.Option.{option_map}
use Rattle.cell.specs.declared.parts.Inside.{Inside}
use Rattle.cell.specs.declared.refusal.Refusal.{Refusal}
use Rattle.cell.specs.Calls.{tick_result, ticked}
use Rattle.desk.specs.Answers.{ticked as ticks_taken}
use Rattle.desk.specs.CellCalls.{CellTicks, one_more, then_ticks, frame_aired, cell_ticks, ticks_said_by, ticks_said}

-- k ticks, then others
abbrev pub after_so_many : ℕ → CellTicks → CellTicks
after_so_many k t = record { taken = k + t.taken; inside = t.inside }

module _ (w : ℕ) (f : List Bool → ℕ) (u : ℕ) where
  -- k accepted ticks of at most n led from the first cell to this one
  pub record CellSoFar (n k : ℕ) (first now : Inside) : Type 0 where
    pub same : cell_ticks w f n u first ≡ after_so_many k (cell_ticks w f (n - k) u now)
    pub begun : k ≡ 0 → now ≡ first
    pub accepted : 0 < k → tick_result w f first u ≡ Ok tt

  counted : (k : ℕ) (t : CellTicks) → after_so_many k (one_more t) ≡ after_so_many (k + 1) t
  counted k t = ap (λ j. record { taken = j; inside = t.inside }) (omega arith)

  pub one_then : (m : ℕ) (c : Inside) (r : Result Unit Refusal) → tick_result w f c u ≡ r
      → cell_ticks w f (suc m) u c ≡ then_ticks r (ticked w f c u) (cell_ticks w f m u (ticked w f c u))
  unfolding cell_ticks
  one_then m c r is = ap (λ x. then_ticks x (ticked w f c u) (cell_ticks w f m u (ticked w f c u))) is

  pub no_more : (c : Inside) → cell_ticks w f 0 u c ≡ record { taken = 0; inside = c }
  unfolding cell_ticks
  no_more c = refl

  first_or_later : (n k : ℕ) (first now : Inside) → CellSoFar n k first now → tick_result w f now u ≡ Ok tt → tick_result w f first u ≡ Ok tt
  first_or_later n zero first now so is = ap (λ c. tick_result w f c u) (sym (so.begun refl)) ∙ is
  first_or_later n (suc k) first now so is = so.accepted (omega arith)

  pub one_accepted : (n k : ℕ) (first now next : Inside) → CellSoFar n k first now → k < n → Ok tt ≡ tick_result w f now u → next ≡ ticked w f now u
      → CellSoFar n (k + 1) first next
  one_accepted n k first now next so more answered after =
      subst (CellSoFar n (k + 1) first) (sym after) (record {
        same =
            so.same
            ∙ ap (λ m. after_so_many k (cell_ticks w f m u now)) (omega arith)
            ∙ ap (after_so_many k) (one_then (n - (k + 1)) now (Ok tt) (sym answered))
            ∙ counted k (cell_ticks w f (n - (k + 1)) u (ticked w f now u));
        begun = λ e. absurd (omega (arith, e));
        accepted = λ l. first_or_later n k first now so (sym answered);
      })

  -- a tick is refused
  stopped : (n k : ℕ) (first now : Inside) (e : Refusal) → CellSoFar n k first now → k < n → Err e ≡ tick_result w f now u
      → cell_ticks w f n u first ≡ record { taken = k; inside = ticked w f now u }
  stopped n k first now e so more answered =
      so.same
      ∙ ap (λ m. after_so_many k (cell_ticks w f m u now)) (omega arith)
      ∙ ap (after_so_many k) (one_then (n - (k + 1)) now (Err e) (sym answered))
      ∙ ap (λ j. record { taken = j; inside = ticked w f now u }) (omega arith)

  pub stopped_inside : (n k : ℕ) (first now : Inside) (e : Refusal) → CellSoFar n k first now → k < n → Err e ≡ tick_result w f now u
      → ticked w f now u ≡ (cell_ticks w f n u first).inside
  stopped_inside n k first now e so more answered = sym (ap (λ t. t.inside) (stopped n k first now e so more answered))

  pub later_refused : (n k : ℕ) (first now : Inside) (e : Refusal) → CellSoFar n k first now → k < n → 0 < k → Err e ≡ tick_result w f now u
      → ticks_taken k (option_map frame_aired (ticked w f now u).air) ≡ ticks_said w f n u first
  later_refused n k first now e so more some answered =
      sym (ap (λ r. ticks_said_by w f r (cell_ticks w f n u first)) (so.accepted some)
      ∙ ap (λ t. ticks_taken t.taken (option_map frame_aired t.inside.air)) (stopped n k first now e so more answered))

  ended : (n : ℕ) (first now : Inside) → CellSoFar n n first now → cell_ticks w f n u first ≡ record { taken = n; inside = now }
  ended n first now so =
      so.same
      ∙ ap (λ m. after_so_many n (cell_ticks w f m u now)) (omega arith)
      ∙ ap (after_so_many n) (no_more now)
      ∙ ap (λ j. record { taken = j; inside = now }) (omega arith)

  pub ended_inside : (n : ℕ) (first now : Inside) → CellSoFar n n first now → now ≡ (cell_ticks w f n u first).inside
  ended_inside n first now so = sym (ap (λ t. t.inside) (ended n first now so))

  pub ended_said : (n : ℕ) (first now : Inside) → CellSoFar n n first now → 1 ≤ n
      → ticks_taken n (option_map frame_aired now.air) ≡ ticks_said w f n u first
  ended_said n first now so some =
      sym (ap (λ r. ticks_said_by w f r (cell_ticks w f n u first)) (so.accepted (omega (arith, some)))
      ∙ ap (λ t. ticks_taken t.taken (option_map frame_aired t.inside.air)) (ended n first now so))
