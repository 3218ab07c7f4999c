use Rattle.std.proofs.Common.{◌+◌, refl, ap, sym, ◌∙◌}
use Rattle.embed.specs.Cells.{each, sender_up}
use Rattle.embed.proofs.Again.{each-add}
use Rattle.embed.proofs.repeating.cells_again.power_up_senders.Goals as goal

pub loop-before-init : goal.loop-before-init
unfolding each
loop-before-init c = refl

pub loop-before-preserved : goal.loop-before-preserved
loop-before-preserved c =
    let before = c.loop-before.before in
    let up = sender_up c.args.ticks in
    c.power_up.ensures ∙ ap (up (1 + before)) c.loop-before.invariant ∙ sym (each-add up before c.args.cell.now.inside)
