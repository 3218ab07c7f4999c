use Rattle.std.proofs.Common.{ap, ◌∙◌, arith}
use Rattle.checks.specs.Bits.{bits}
use Rattle.frames.proofs.Words.{across_eight_right}
use Rattle.frames.proofs.bits.across_eight.Goals as goal

pub returns : goal.returns
returns c =
    ap bits c.to_be_bytes.ensures
    ∙ across_eight_right c.args.last c.args.place c.from_be_bytes.result c.args.eight.now (omega arith) (omega arith) (omega arith) (λ i. c.fits-eight i) c.from_be_bytes.ensures
