use Rattle.std.proofs.Common.{refl, ap, sym, ◌∙◌}
use Rattle.checks.specs.Crc.{crc16}
use Rattle.cell.specs.declared.parts.Inside.{Inside}
use Rattle.cell.specs.Calls.{ticked}
use Rattle.embed.specs.Cells.{ticks_of}
use Rattle.embed.proofs.Again.{iterate-add}
use Rattle.embed.proofs.repeating.cells_again.tick.Goals as goal

pub loop-init : goal.loop-init
unfolding ticks_of
loop-init c = refl

pub loop-preserved : goal.loop-preserved
unfolding ticks_of
loop-preserved c =
    let step : Inside → Inside = λ x. ticked 16 crc16 x c.args.unit in
    c.tick-sent.ensures.state ∙ ap step c.loop.invariant ∙ sym (iterate-add step c.loop.counter c.args.cell.now.inside)
