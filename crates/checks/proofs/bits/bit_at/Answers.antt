use Rattle.std.proofs.Common.{arith}
use Rattle.std.proofs.lemmas.Grind.{common_steps}
use Rattle.std.proofs.lemmas.Option.{gets}
use Rattle.checks.specs.Places.{bits_at, length_bits}
use Rattle.checks.proofs.bits.bit_at.Goals as goal

pub returns : goal.returns
returns c =
    let at = bits_at c.args.bytes.now c.args.i in
    let long = length_bits c.args.bytes.now in
    grind (arith, common_steps, gets)
