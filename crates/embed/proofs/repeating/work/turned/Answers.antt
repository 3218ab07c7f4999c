use Rattle.std.proofs.Common.{ap, sym, ◌∙◌}
use Rattle.embed.proofs.Again.{iterate-add}
use Rattle.embed.proofs.repeating.work.turned.Goals as goal

pub loop-preserved : goal.loop-preserved
loop-preserved g c =
    c.turn.ensures ∙ ap g.W.Work.step c.loop.invariant ∙ sym (iterate-add g.W.Work.step c.loop.counter c.args.work)
