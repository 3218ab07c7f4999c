use Rattle.std.proofs.Common.{ap, ◌∙◌}
use Rattle.cell.specs.Making.{made}
use Rattle.embed.specs.Cells.{each, powered_up, sender_up, cell_of_six}
use Rattle.embed.proofs.repeating.cells_again.cell_of_six.Goals as goal

pub returns : goal.returns
unfolding cell_of_six
returns c =
    let just_made = c.in-Ok-make.ensures.made ∙ ap made c.in-Ok.ensures in
    c.power_up_senders.ensures ∙ ap (each (sender_up 213) 6) (c.power_up.ensures ∙ ap (powered_up 0 0x0F 213) just_made)
