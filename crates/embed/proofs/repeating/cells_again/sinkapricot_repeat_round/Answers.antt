use Rattle.std.proofs.Common.{inr, ap, ◌∙◌, ℕ}
use Rattle.std.specs.Fn.{iterate}
use Rattle.cell.specs.declared.parts.Inside.{Inside}
use Rattle.embed.specs.declared.repeating.cells_again.Round.{Round}
use Rattle.embed.specs.Cells.{round_in, round_again}
use Rattle.embed.proofs.repeating.cells_again.sinkapricot_repeat_round.Goals as goal

pub returns : goal.returns
returns c =
    let sum : Round → ℕ = λ w. w.sum in
    let after : Inside → Round = λ i. iterate round_again c.args.turns (round_in i c.args.every) in
    inr (ap sum (c.turned.ensures ∙ ap after c.in-Some.ensures))
