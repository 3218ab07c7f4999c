use Rattle.std.proofs.Common.{sym, arith}
use Rattle.std.proofs.lemmas.List.{set_past}
use Rattle.checks.specs.Bits.{bits}
use Rattle.checks.specs.Places.{length_bits}
use Rattle.frames.proofs.damage.turn.Goals as goal

pub returns-else-at-frame : goal.returns-else-at-frame
returns-else-at-frame c =
    sym (set_past (bits c.args.frame.now) c.args.at _ (omega (arith, length_bits c.args.frame.now)))
