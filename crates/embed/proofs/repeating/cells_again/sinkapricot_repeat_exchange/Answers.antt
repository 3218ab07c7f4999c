use Rattle.std.proofs.Common.{inr, ap, ◌∙◌, ℕ}
use Rattle.std.specs.Fn.{iterate}
use Rattle.cell.specs.declared.parts.Inside.{Inside}
use Rattle.embed.specs.declared.repeating.cells_again.Exchanging.{Exchanging}
use Rattle.embed.specs.Cells.{exchanges_in, exchanged_again}
use Rattle.embed.proofs.repeating.cells_again.sinkapricot_repeat_exchange.Goals as goal

pub returns : goal.returns
returns c =
    let sum : Exchanging → ℕ = λ w. w.sum in
    let after : Inside → Exchanging = λ i. iterate exchanged_again c.args.turns (exchanges_in i) in
    inr (ap sum (c.turned.ensures ∙ ap after c.in-Some.ensures))
