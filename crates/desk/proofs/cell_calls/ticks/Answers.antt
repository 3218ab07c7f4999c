use Rattle.std.proofs.Common.{◌≡◌, ◌<◌, ap, ◌∙◌, subst, arith}
use Rattle.std.specs.Option.{option_map}
use Rattle.desk.specs.Answers.{ticked}
use Rattle.desk.specs.CellCalls.{frame_aired}
use Rattle.desk.proofs.TicksOfCell.{CellSoFar, one_accepted, stopped_inside, later_refused, ended_inside, ended_said}
use Rattle.desk.proofs.cell_calls.ticks.Goals as goal

pub returns-in-Err-clause-state : goal.returns-in-Err-clause-state
returns-in-Err-clause-state g c =
    c.tick_once.ensures.state
    ∙ stopped_inside g.C.Check.W g.C.Check.meaning c.args.unit c.args.times.count c.loop-taken.taken _ _ c.in-Err.refusal c.loop-taken.invariant (omega arith) c.in-Err.ensures.answer

pub returns-in-Err-2-clause-state : goal.returns-in-Err-2-clause-state
returns-in-Err-2-clause-state g c =
    c.tick_once.ensures.state
    ∙ stopped_inside g.C.Check.W g.C.Check.meaning c.args.unit c.args.times.count c.loop-taken.taken _ _ c.in-Err-2.field-0 c.loop-taken.invariant (omega arith) c.in-Err-2.ensures.answer

pub returns-in-Err-2-clause-answer : goal.returns-in-Err-2-clause-answer
returns-in-Err-2-clause-answer g c =
    let k = c.loop-taken.taken in
    let some : 0 < k = omega arith in
    ap (ticked k) (c.aired.ensures ∙ ap (λ i. option_map frame_aired i.air) c.tick_once.ensures.state)
    ∙ later_refused g.C.Check.W g.C.Check.meaning c.args.unit c.args.times.count k _ _ c.in-Err-2.field-0 c.loop-taken.invariant (omega arith) some c.in-Err-2.ensures.answer

pub loop-taken-preserved : goal.loop-taken-preserved
loop-taken-preserved g c =
    one_accepted g.C.Check.W g.C.Check.meaning c.args.unit c.args.times.count c.loop-taken.taken _ _ _ c.loop-taken.invariant (omega arith) c.in-Ok.ensures.answer c.tick_once.ensures.state

pub returns-clause-state : goal.returns-clause-state
returns-clause-state g c =
    let all : c.loop-taken.taken ≡ c.args.times.count = omega arith in
    let so = subst (λ k. CellSoFar g.C.Check.W g.C.Check.meaning c.args.unit c.args.times.count k c.args.cell.now.inside c.loop-taken.cell.inside) all c.loop-taken.invariant in
    ended_inside g.C.Check.W g.C.Check.meaning c.args.unit c.args.times.count _ _ so

pub returns-clause-answer : goal.returns-clause-answer
returns-clause-answer g c =
    let all : c.loop-taken.taken ≡ c.args.times.count = omega arith in
    let so = subst (λ k. CellSoFar g.C.Check.W g.C.Check.meaning c.args.unit c.args.times.count k c.args.cell.now.inside c.loop-taken.cell.inside) all c.loop-taken.invariant in
    ap (ticked c.args.times.count) c.aired-2.ensures ∙ ended_said g.C.Check.W g.C.Check.meaning c.args.unit c.args.times.count _ _ so c.args.times.some
