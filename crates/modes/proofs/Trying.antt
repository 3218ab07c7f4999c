-- A transaction with nothing heard ends by MAX_RT within its budget of ticks.
use Rattle.std.proofs.Common.{◌≡◌, ℕ, zero, suc, ◌+◌, ◌-◌, ◌*◌, ◌≤◌, Bool, true, false, cond, ltb, refl, ap, ◌∙◌, mul-le-mul_right, suc-mul, add-mul, arith}
use Rattle.std.proofs.lemmas.Bool.{lt-ltb, le-ltb}
use Rattle.modes.specs.declared.parts.Mode.{Mode}
use Rattle.modes.specs.declared.parts.Mode.TheVariants.{Shutdown, Starting, Standby, IdleTx, Tuning, Rx, Waiting}
use Rattle.modes.specs.declared.parts.Role.TheVariants.{Sender}
use Rattle.modes.specs.declared.parts.Retry.{Retry}
use Rattle.modes.specs.declared.parts.Core.{Core}
use Rattle.modes.specs.Modes.{in_mode, ticked, tick_in, tuned, retried, given_up, tuning_ticks, wait_ticks}
use Rattle.modes.specs.Budget.{ticks, UnderWay, GivesUpInTime}

-- MAX_RT stands within m ticks
Within : ℕ → Retry → Bool → Core → Type 0
Within m retry waiting c = (n : ℕ) × (n ≤ m) × ((ticks n retry waiting c).flags.max_rt ≡ true)

module _ (retry : Retry) (waiting : Bool) where
  w : ℕ
  w = wait_ticks retry

  -- one tick first
  later : (m : ℕ) (c d : Core) → ticked Sender retry waiting c ≡ d → Within m retry waiting d → Within (suc m) retry waiting c
  unfolding Within ticks
  later m c d e (n, l, t) = (suc n, omega (arith, l), ap (λ (x : Core). (ticks n retry waiting x).flags.max_rt) e ∙ t)

  more : (m k : ℕ) (c : Core) → m ≤ k → Within m retry waiting c → Within k retry waiting c
  unfolding Within
  more m k c h (n, l, t) = (n, omega (arith, l, h), t)

  -- ---- waiting

  -- with k retransmits left
  Left : ℕ → Core → Type 0
  Left k c = c.counts.again + k ≡ retry.count

  positive : 1 ≤ w
  unfolding w
  positive = omega arith

  Last : ℕ → Type 0
  Last k = (c : Core) → c.mode ≡ Waiting 1 → Left k c → Within (1 + k * w) retry waiting c

  step_waiting : (l : ℕ) (c : Core) → c.mode ≡ Waiting (suc (suc l)) → ticked Sender retry waiting c ≡ in_mode c (Waiting (suc l))
  step_waiting l c e =
      let t : ltb 1 (suc (suc l)) ≡ true = lt-ltb 1 (suc (suc l)) (omega arith) in
      let p : suc (suc l) - 1 ≡ suc l = omega arith in
      ap (λ (m : Mode). tick_in m Sender retry waiting c) e
      ∙ ap (λ (b : Bool). cond b (in_mode c (Waiting (suc (suc l) - 1))) (cond (ltb c.counts.again retry.count) (retried retry c) (given_up Sender c))) t
      ∙ ap (λ (n : ℕ). in_mode c (Waiting n)) p

  last_tick : (c : Core) → c.mode ≡ Waiting 1
      → ticked Sender retry waiting c ≡ cond (ltb c.counts.again retry.count) (retried retry c) (given_up Sender c)
  last_tick c e = ap (λ (m : Mode). tick_in m Sender retry waiting c) e

  count_down : (k : ℕ) → Last k → (l : ℕ) (c : Core) → c.mode ≡ Waiting (suc l) → Left k c → Within (suc l + k * w) retry waiting c
  unfolding Last Left
  count_down k last zero c e h = last c e h
  count_down k last (suc l) c e h =
      let d : Core = in_mode c (Waiting (suc l)) in
      more (suc (suc l + k * w)) (suc (suc l) + k * w) c (omega arith) (later (suc l + k * w) c d (step_waiting l c e) (count_down k last l d refl h))

  last : (k : ℕ) → Last k
  unfolding w Last Left Within ticks
  last zero c e h =
      let b : ltb c.counts.again retry.count ≡ false = le-ltb _ _ (omega (arith, h)) in
      let g : ticked Sender retry waiting c ≡ given_up Sender c = last_tick c e ∙ ap (λ (x : Bool). cond x (retried retry c) (given_up Sender c)) b in
      more 1 (1 + 0 * w) c (omega arith) (later 0 c (given_up Sender c) g (0, omega arith, refl))
  last (suc k) c e h =
      let b : ltb c.counts.again retry.count ≡ true = lt-ltb _ _ (omega (arith, h)) in
      let d : Core = retried retry c in
      let g : ticked Sender retry waiting c ≡ d = last_tick c e ∙ ap (λ (x : Bool). cond x (retried retry c) (given_up Sender c)) b in
      let p : w ≡ suc (w - 1) = omega (arith, positive) in
      let r = count_down k (last k) (w - 1) d (ap Waiting p) (omega (arith, h)) in
      more (suc (suc (w - 1) + k * w)) (1 + suc k * w) c (omega (arith, p, suc-mul k w)) (later (suc (w - 1) + k * w) c d g r)

  -- ---- tuning

  start : (c : Core) → c.counts.again ≡ 0 → Left retry.count c
  unfolding Left
  start c h = omega (arith, h)

  tuning_out : (l : ℕ) (c : Core) → c.mode ≡ Tuning (suc l) → c.counts.again ≡ 0 → Within (suc l + (w + retry.count * w)) retry waiting c
  unfolding w
  tuning_out zero c e h =
      let d : Core = in_mode c (Waiting w) in
      let g : ticked Sender retry waiting c ≡ d = ap (λ (m : Mode). tick_in m Sender retry waiting c) e in
      let p : w ≡ suc (w - 1) = omega (arith, positive) in
      let r = count_down retry.count (last retry.count) (w - 1) d (ap Waiting p) (start d h) in
      more (suc (suc (w - 1) + retry.count * w)) (1 + (w + retry.count * w)) c (omega (arith, p)) (later (suc (w - 1) + retry.count * w) c d g r)
  tuning_out (suc l) c e h =
      let t : ltb 1 (suc (suc l)) ≡ true = lt-ltb 1 (suc (suc l)) (omega arith) in
      let p : suc (suc l) - 1 ≡ suc l = omega arith in
      let d : Core = in_mode c (Tuning (suc l)) in
      let g : ticked Sender retry waiting c ≡ d =
      ap (λ (m : Mode). tick_in m Sender retry waiting c) e
      ∙ ap (λ (b : Bool). cond b (in_mode c (Tuning (suc (suc l) - 1))) (tuned Sender retry c)) t
      ∙ ap (λ (n : ℕ). in_mode c (Tuning n)) p in
      let b = suc l + (w + retry.count * w) in
      more (suc b) (suc (suc l) + (w + retry.count * w)) c (omega arith) (later b c d g (tuning_out l d refl h))

-- ---- the law

in_time : (retry : Retry) (waiting : Bool) (c : Core) (m : Mode) → c.mode ≡ m → UnderWay retry c.counts.again m
    → Within (tuning_ticks + (retry.count + 1) * wait_ticks retry) retry waiting c
unfolding w Left
in_time retry waiting c Shutdown e u = absurd u
in_time retry waiting c (Starting left) e u = absurd u
in_time retry waiting c Standby e u = absurd u
in_time retry waiting c IdleTx e u = absurd u
in_time retry waiting c Rx e u = absurd u
in_time retry waiting c (Tuning zero) e (a, b, z) = absurd (omega (arith, a))
in_time retry waiting c (Tuning (suc l)) e (a, b, z) =
    let v : ℕ = wait_ticks retry in
    more retry waiting (suc l + (v + retry.count * v)) (tuning_ticks + (retry.count + 1) * v) c
    (omega (arith, b, add-mul retry.count 1 v)) (tuning_out retry waiting l c e z)
in_time retry waiting c (Waiting zero) e (a, b, z) = absurd (omega (arith, a))
in_time retry waiting c (Waiting (suc l)) e (a, b, z) =
    let v : ℕ = wait_ticks retry in
    let k : ℕ = retry.count - c.counts.again in
    let few : k * v ≤ retry.count * v = mul-le-mul_right v (omega arith) in
    more retry waiting (suc l + k * v) (tuning_ticks + (retry.count + 1) * v) c
    (omega (arith, b, few, add-mul retry.count 1 v)) (count_down retry waiting k (last retry waiting k) l c e (omega (arith, z)))

pub gives_up_in_time : GivesUpInTime
unfolding Within
gives_up_in_time retry waiting c u = in_time retry waiting c c.mode refl u
