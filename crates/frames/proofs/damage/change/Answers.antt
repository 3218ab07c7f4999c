use Rattle.std.proofs.Common.{◌≡◌, ℕ, ◌+◌, ◌-◌, ◌/◌, ◌^◌, ◌<◌, ◌≤◌, min, Bool, false, not, eqb, List, [], ◌∷◌, ◌++◌, length, get_or, take, drop, set, sym, refl, ap, ◌∙◌, ap₂, inl, inr, arith}
use lib.Bits.{bit_and}
use Rattle.std.specs.declared.ops.Range.{Range}
use Rattle.std.specs.declared.iter.Take.{Take}
use Rattle.std.specs.declared.iter.Enumerate.{Enumerate}
use Rattle.std.specs.List.{range_with_len, enumerate_from}
use Rattle.std.specs.Iterator.Adapters.{take_steps, enumerate_steps}
use Rattle.std.proofs.iter.Yields.{nat_range_steps}
use Rattle.std.proofs.lemmas.Nat.{and_mask}
use Rattle.std.proofs.lemmas.Bool.{eq-eqb, ne_eqb, cases_lt}
use Rattle.std.proofs.lemmas.List.{take_all, length-take, length_push, get_or-take}
use Rattle.std.proofs.lemmas.List.FromFn.{length-range_with_len, get_or-range_with_len, length-enumerate_from, get_or-enumerate_from}
use Rattle.std.proofs.lemmas.Iterator.{YieldsList, YieldsList-from_range, YieldsList-from_take}
use Rattle.std.proofs.lemmas.Iterator.Consumers.{YieldsList-from_enumerate, YieldsList-turn, YieldsList-end}
use Rattle.checks.specs.Bits.{bit, word, bits}
use Rattle.checks.specs.Places.{bit_of_word, length_word}
use Rattle.frames.specs.Damage.{changed}
use Rattle.frames.proofs.Turn.{left_out, turn_more, all_turned, nothing_yet}
use Rattle.frames.proofs.damage.change.Goals as goal

-- the pattern's bits with their places in the frame
places : ℕ → ℕ → List (ℕ × ℕ)
places start count = enumerate_from 0 (take 16 (range_with_len start (count - start)))

at_most : (start count : ℕ) → (length (places start count) ≤ 16) × (length (places start count) ≤ count - start)
unfolding places
at_most start count =
    let r = range_with_len start (count - start) in
    let l = length-enumerate_from 0 (take 16 r) in
    let m = length-take 16 r in
    let n = length-range_with_len start (count - start) in
    (omega (arith, l, m, n), omega (arith, l, m, n))

-- what the loop goes over
listed :
    (start count : ℕ) {t : Take (Range ℕ)} {e s : Enumerate (Take (Range ℕ))} → t.iter ≡ record { start = start; end = count } → t.n ≡ 16 → e.iter ≡ t → e.count ≡ 0
    → s ≡ e → YieldsList (enumerate_steps (take_steps nat_range_steps)) (λ p. (p.0, p.1)) s (places start count)
unfolding places
listed start count {t} {e} {s} r n i z b =
    YieldsList-from_enumerate
    (YieldsList-from_take 16 (YieldsList-from_range start count (count - start) (ap (λ (x : Enumerate (Take (Range ℕ))). x.iter.iter) b ∙ ap (λ (x : Take (Range ℕ)). x.iter) i ∙ r) refl)
    (ap (λ (x : Enumerate (Take (Range ℕ))). x.iter.n) b ∙ ap (λ (x : Take (Range ℕ)). x.n) i ∙ n))
    (ap (λ (x : Enumerate (Take (Range ℕ))). x.count) b ∙ z)

-- a turn's item is the next of them
next_place :
    (start count n i at : ℕ) → n < length (places start count) → (i, at) ≡ get_or (places start count) n (i, at)
    → (n < 16) × (start + n < count) × (i ≡ n) × (at ≡ start + n)
unfolding places
next_place start count n i at h e =
    let r = range_with_len start (count - start) in
    let m = at_most start count in
    let l = length-enumerate_from 0 (take 16 r) in
    let is = e ∙ get_or-enumerate_from 0 (take 16 r) n (i, at) (omega (arith, h, l)) in
    let rank : i ≡ n = ap (λ (p : ℕ × ℕ). p.0) is ∙ omega arith in
    let place : at ≡ start + n =
    ap (λ (p : ℕ × ℕ). p.1) is ∙ get_or-take 16 r n at (omega (arith, h, m.0)) ∙ get_or-range_with_len start (count - start) n at (omega (arith, h, m.1)) in
    (omega (arith, h, m.0), omega (arith, h, m.1), rank, place)

tested : (pattern n i : ℕ) → n < 16 → i ≡ n → get_or (word 16 pattern) n false ≡ eqb (bit_and (pattern / 2 ^ (15 - i)) 1) 1
tested pattern n i h e =
    bit_of_word 16 pattern n h ∙ sym (ap (λ (v : ℕ). eqb v 1) (and_mask (pattern / 2 ^ (15 - i)) 1) ∙ ap (λ (k : ℕ). bit pattern (15 - k)) e)

pub loop-i-init : goal.loop-i-init
loop-i-init c = nothing_yet (bits c.args.frame.now) c.args.count c.args.start

pub loop-i-preserved-then-pattern-i-eq1 : goal.loop-i-preserved-then-pattern-i-eq1
loop-i-preserved-then-pattern-i-eq1 c =
    let b = bits c.args.frame.now in
    let start = c.args.start in
    let ys = word 16 c.args.pattern in
    let n = length c.loop-i.yielded in
    let from =
    listed start c.args.count c.take.ensures.source c.take.ensures.count c.enumerate-i-items.ensures.source c.enumerate-i-items.ensures.count
    c.into_iter-i-iterator.ensures.into_iter_gives in
    let t = YieldsList-turn from c.loop-i.yielded _ c.loop-i.yielded_by _ _ (c.in-Some.i, c.in-Some.at) c.in-Some.is c.next.ensures.steps in
    let at = next_place start c.args.count n c.in-Some.i c.in-Some.at t.0 t.1 in
    let tie = tested c.args.pattern n c.in-Some.i at.0 at.2 in
    let more : length (c.loop-i.yielded ++ ((c.in-Some.i, c.in-Some.at) ∷ [])) ≡ n + 1 = length_push c.loop-i.yielded (c.in-Some.i, c.in-Some.at) in
    c.turn.ensures ∙ ap₂ (λ (u : List Bool) (k : ℕ). set u k (not (get_or u k false))) c.loop-i.invariant at.3
    ∙ turn_more b ys c.args.count start n (omega (arith, at.0, length_word 16 c.args.pattern)) (tie ∙ eq-eqb _ 1 c.if-pattern-i-eq1.true) at.1
    ∙ sym (ap (λ (k : ℕ). changed (take c.args.count b) start (take k ys) ++ drop c.args.count b) more)

pub loop-i-preserved : goal.loop-i-preserved
loop-i-preserved c =
    let b = bits c.args.frame.now in
    let start = c.args.start in
    let ys = word 16 c.args.pattern in
    let n = length c.loop-i.yielded in
    let from =
    listed start c.args.count c.take.ensures.source c.take.ensures.count c.enumerate-i-items.ensures.source c.enumerate-i-items.ensures.count
    c.into_iter-i-iterator.ensures.into_iter_gives in
    let t = YieldsList-turn from c.loop-i.yielded _ c.loop-i.yielded_by _ _ (c.in-Some.i, c.in-Some.at) c.in-Some.is c.next.ensures.steps in
    let at = next_place start c.args.count n c.in-Some.i c.in-Some.at t.0 t.1 in
    let tie = tested c.args.pattern n c.in-Some.i at.0 at.2 in
    let more : length (c.loop-i.yielded ++ ((c.in-Some.i, c.in-Some.at) ∷ [])) ≡ n + 1 = length_push c.loop-i.yielded (c.in-Some.i, c.in-Some.at) in
    c.loop-i.invariant
    ∙ left_out (take c.args.count b) (drop c.args.count b) ys start n (omega (arith, at.0, length_word 16 c.args.pattern)) (inl (tie ∙ ne_eqb _ 1 c.if-pattern-i-eq1.false))
    ∙ sym (ap (λ (k : ℕ). changed (take c.args.count b) start (take k ys) ++ drop c.args.count b) more)

pub returns : goal.returns
unfolding places
returns c =
    let b = bits c.args.frame.now in
    let start = c.args.start in
    let count = c.args.count in
    let ys = word 16 c.args.pattern in
    let n = length c.loop-i.yielded in
    let from =
    listed start count c.take.ensures.source c.take.ensures.count c.enumerate-i-items.ensures.source c.enumerate-i-items.ensures.count
    c.into_iter-i-iterator.ensures.into_iter_gives in
    let t = YieldsList-end from c.loop-i.yielded _ c.loop-i.yielded_by _ _ c.in-None.is c.next.ensures.steps in
    let r = range_with_len start (count - start) in
    let e : n ≡ min 16 (count - start) = t.1 ∙ length-enumerate_from 0 (take 16 r) ∙ length-take 16 r ∙ ap (min 16) (length-range_with_len start (count - start)) in
    c.loop-i.invariant
    ∙ elim (cases_lt n 16) [
      | inl l ↦ ap (λ (u : List Bool). u ++ drop count b) (all_turned (take count b) ys start n (omega (arith, e, l, length-take count b)))
      | inr m ↦ ap (λ (u : List Bool). changed (take count b) start u ++ drop count b) (take_all n ys (omega (arith, m, length_word 16 c.args.pattern)))
    ]
