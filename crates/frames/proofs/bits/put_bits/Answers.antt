use Rattle.std.proofs.Common.{◌-◌, ◌%◌, arith}
use Rattle.checks.specs.Bits.{bits}
use Rattle.checks.specs.Places.{length_bits}
use Rattle.frames.proofs.Words.{put_twice, put_thrice}
use Rattle.frames.proofs.bits.put_bits.Goals as goal

pub returns-then-rest-le8 : goal.returns-then-rest-le8
returns-then-rest-le8 c =
    let room = 8 - c.args.at % 8 in
    put_twice (bits c.args.buf.now) _ _ c.args.at room (c.args.count - room) c.args.count c.args.value
    (omega arith) (omega (arith, length_bits c.args.buf.now)) c.put_within-2.ensures c.put_within-then-rest-le8.ensures

pub returns-else-rest-le8 : goal.returns-else-rest-le8
returns-else-rest-le8 c =
    let room = 8 - c.args.at % 8 in
    put_thrice (bits c.args.buf.now) _ _ _ c.args.at room (c.args.count - room) c.args.count c.args.value
    (omega arith) (omega arith) (omega (arith, length_bits c.args.buf.now))
    c.put_within-2.ensures c.put_within-else-rest-le8.ensures c.put_within-else-rest-le8-2.ensures
