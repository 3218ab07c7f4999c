-- Ticks of a boxed unit, one after another.
use Rattle.std.proofs.Common.{◌≡◌, ℕ, suc, ◌+◌, ◌-◌, ◌<◌, ◌≤◌, Bool, true, false, cond, ◌⊎◌, inl, inr, List, is_some, None, Ok, Option, sym, refl, ap, ◌∙◌, subst, arith}
use Rattle.commands.specs.Refusals.{unless, kept_or}
use Rattle.unit.specs.declared.state.State.{State}
use Rattle.unit.specs.Ticking.{tick_refusal, tick_state, tick_after}
use Rattle.desk.specs.declared.answer.Frame.{Frame}
use Rattle.desk.specs.Answers.{ticked, or_refused}
use Rattle.desk.specs.Boxed.{Ticks, one_more, frame_sent, ticks, boxed_ticks}
use Rattle.desk.proofs.Replies.{ok_unless}

-- k ticks, then others
abbrev pub after_so_many : ℕ → Ticks → Ticks
after_so_many k t = record { taken = k + t.taken; sent = t.sent; state = t.state }

module _ (w : ℕ) (f : List Bool → ℕ) where
  -- k ticks of at most n led from the first state to this one, and none of them sent a frame
  pub record SoFar (n k : ℕ) (first now : State) : Type 0 where
    pub same : ticks w f n first ≡ after_so_many k (ticks w f (n - k) now)
    pub fault : tick_refusal now 42 ≡ tick_refusal first 42
    pub begun : ((k ≡ 0) × (now ≡ first)) ⊎ (tick_refusal first 42 ≡ None)

  one_silent : (m : ℕ) (s : State) → is_some (frame_sent w f s) ≡ false → ticks w f (suc m) s ≡ one_more (ticks w f m (tick_state s))
  unfolding ticks
  one_silent m s h = ap (λ b. cond b (record { taken = 1; sent = frame_sent w f s; state = tick_state s }) (one_more (ticks w f m (tick_state s)))) h

  one_sends : (m : ℕ) (s : State) → is_some (frame_sent w f s) ≡ true → ticks w f (suc m) s ≡ record { taken = 1; sent = frame_sent w f s; state = tick_state s }
  unfolding ticks
  one_sends m s h = ap (λ b. cond b (record { taken = 1; sent = frame_sent w f s; state = tick_state s }) (one_more (ticks w f m (tick_state s)))) h

  no_more : (s : State) → ticks w f 0 s ≡ record { taken = 0; sent = None; state = s }
  unfolding ticks
  no_more s = refl

  counted : (k : ℕ) (t : Ticks) → after_so_many k (one_more t) ≡ after_so_many (k + 1) t
  counted k t = ap (λ j. record { taken = j; sent = t.sent; state = t.state }) (omega arith)

  not_refused : (s : State) → tick_refusal s 42 ≡ None → tick_after s 42 ≡ tick_state s
  not_refused s h = ap (λ x. kept_or x s (tick_state s)) h

  pub one_silent_more : (n k : ℕ) (first now next : State) (frame : Option Frame) → SoFar n k first now → k < n
      → Ok frame ≡ unless (tick_refusal now 42) (frame_sent w f now) → is_some frame ≡ false → next ≡ tick_after now 42 → SoFar n (k + 1) first next
  one_silent_more n k first now next frame so more answered silent after =
      let none = ok_unless (tick_refusal now 42) frame (frame_sent w f now) answered in
      let is : next ≡ tick_state now = after ∙ not_refused now none.0 in
      let quiet : is_some (frame_sent w f now) ≡ false = sym (ap is_some none.1) ∙ silent in
      subst (SoFar n (k + 1) first) (sym is) (record {
        same =
            so.same
            ∙ ap (λ m. after_so_many k (ticks w f m now)) (omega arith)
            ∙ ap (after_so_many k) (one_silent (n - (k + 1)) now quiet)
            ∙ counted k (ticks w f (n - (k + 1)) (tick_state now));
        fault = so.fault;
        begun = inr (sym so.fault ∙ none.0);
      })

  -- what stands after ticks that were not refused
  unrefused : (n : ℕ) (first : State) (t : Ticks) → ticks w f n first ≡ t → tick_refusal first 42 ≡ None
      → (kept_or (tick_refusal first 42) first (ticks w f n first).state ≡ t.state) × (boxed_ticks w f n first ≡ ticked t.taken t.sent)
  unrefused n first t is none = (
    ap (λ x. kept_or x first (ticks w f n first).state) none ∙ ap (λ t. t.state) is,
    ap (λ x. or_refused x (ticked (ticks w f n first).taken (ticks w f n first).sent)) none ∙ ap (λ t. ticked t.taken t.sent) is,
  )

  pub one_sends_last : (n k : ℕ) (first now : State) (frame : Option Frame) → SoFar n k first now → k < n
      → Ok frame ≡ unless (tick_refusal now 42) (frame_sent w f now) → is_some frame ≡ true
      → (kept_or (tick_refusal first 42) first (ticks w f n first).state ≡ tick_after now 42) × (boxed_ticks w f n first ≡ ticked (k + 1) frame)
  one_sends_last n k first now frame so more answered loud =
      let none = ok_unless (tick_refusal now 42) frame (frame_sent w f now) answered in
      let sends : is_some (frame_sent w f now) ≡ true = sym (ap is_some none.1) ∙ loud in
      let last : Ticks = record { taken = k + 1; sent = frame_sent w f now; state = tick_state now } in
      let is : ticks w f n first ≡ last = so.same ∙ ap (λ m. after_so_many k (ticks w f m now)) (omega arith) ∙ ap (after_so_many k) (one_sends (n - (k + 1)) now sends) in
      let ended = unrefused n first last is (sym so.fault ∙ none.0) in
      (ended.0 ∙ sym (not_refused now none.0), ended.1 ∙ ap (ticked (k + 1)) (sym none.1))

  pub all_taken : (n : ℕ) (first now : State) → SoFar n n first now → 1 ≤ n
      → (kept_or (tick_refusal first 42) first (ticks w f n first).state ≡ now) × (boxed_ticks w f n first ≡ ticked n None)
  all_taken n first now so some =
      let none : tick_refusal first 42 ≡ None = elim so.begun [ inl p ↦ absurd (omega (arith, p.0)) | inr h ↦ h ] in
      let last : Ticks = record { taken = n; sent = None; state = now } in
      let is : ticks w f n first ≡ last =
      so.same ∙ ap (λ m. after_so_many n (ticks w f m now)) (omega arith) ∙ ap (after_so_many n) (no_more now)
      ∙ ap (λ j. record { taken = j; sent = None; state = now }) (omega arith) in
      unrefused n first last is none
