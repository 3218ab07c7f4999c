use Rattle.std.proofs.Common.{ap, ◌∙◌}
use Rattle.bench.specs.Loading.{load_after}
use Rattle.unit.specs.Boxing.{boxed}
use Rattle.embed.specs.Cells.{boxed_of}
use Rattle.embed.proofs.repeating.cells_again.boxed_of.Goals as goal

pub returns : goal.returns
unfolding boxed_of
returns c = c.new-2.ensures ∙ ap (boxed 16) (c.load-loaded.ensures.registers ∙ ap (load_after c.args.profile.now) c.new.ensures)
