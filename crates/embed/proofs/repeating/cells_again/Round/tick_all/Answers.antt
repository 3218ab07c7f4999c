use Rattle.std.proofs.Common.{◌+◌, refl, ap, sym, ◌∙◌}
use Rattle.embed.specs.Cells.{each, ticking}
use Rattle.embed.proofs.Again.{each-add}
use Rattle.embed.proofs.repeating.cells_again.Round.tick_all.Goals as goal

pub loop-before-init : goal.loop-before-init
unfolding each
loop-before-init c = refl

pub loop-before-preserved : goal.loop-before-preserved
loop-before-preserved c =
    let before = c.loop-before.before in
    c.tick.ensures ∙ ap (ticking (1 + before)) c.loop-before.invariant ∙ sym (each-add ticking before c.args.self.now)
