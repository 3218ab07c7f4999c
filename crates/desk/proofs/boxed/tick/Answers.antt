use Rattle.std.proofs.Common.{◌≡◌, true, false, is_some, sym, ◌∙◌, subst, arith, rules}
use Rattle.desk.proofs.InARow.{SoFar, one_silent_more, one_sends_last, all_taken}
use Rattle.desk.proofs.boxed.tick.Goals as goal

pub returns-then-is_some-clause-after : goal.returns-then-is_some-clause-after
returns-then-is_some-clause-after g c =
    let loud : is_some c.in_ok-sent.sent ≡ true = search rules in
    c.tick_once.ensures.after ∙ sym (one_sends_last _ _ _ _ _ _ c.in_ok-sent.sent c.loop-taken.invariant (omega arith) c.in_ok-sent.ensures.answer loud).0

pub returns-then-is_some-clause-answer : goal.returns-then-is_some-clause-answer
returns-then-is_some-clause-answer g c =
    let loud : is_some c.in_ok-sent.sent ≡ true = search rules in
    sym (one_sends_last _ _ _ _ _ _ c.in_ok-sent.sent c.loop-taken.invariant (omega arith) c.in_ok-sent.ensures.answer loud).1

pub loop-taken-preserved : goal.loop-taken-preserved
loop-taken-preserved g c =
    let silent : is_some c.in_ok-sent.sent ≡ false = search rules in
    one_silent_more _ _ _ _ _ _ _ c.in_ok-sent.sent c.loop-taken.invariant (omega arith) c.in_ok-sent.ensures.answer silent c.tick_once.ensures.after

pub returns-clause-after : goal.returns-clause-after
returns-clause-after g c =
    let all : c.loop-taken.taken ≡ c.args.times.count = omega arith in
    let so = subst (λ k. SoFar g.C.Check.W g.C.Check.meaning c.args.times.count k c.args.unit.now.state c.loop-taken.unit.state) all c.loop-taken.invariant in
    sym (all_taken _ _ _ _ _ so c.args.times.some).0

pub returns-clause-answer : goal.returns-clause-answer
returns-clause-answer g c =
    let all : c.loop-taken.taken ≡ c.args.times.count = omega arith in
    let so = subst (λ k. SoFar g.C.Check.W g.C.Check.meaning c.args.times.count k c.args.unit.now.state c.loop-taken.unit.state) all c.loop-taken.invariant in
    sym (all_taken _ _ _ _ _ so c.args.times.some).1
