use Rattle.frames.proofs.Words.{across_right}
use Rattle.frames.proofs.bits.across.Goals as goal

pub returns : goal.returns
returns c = across_right c.args.first c.args.next c.args.place c.ranges.first.fits c.ranges.next.fits c.requires
