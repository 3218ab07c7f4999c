use Rattle.std.proofs.Common.{◌-◌, ◌/◌, ◌%◌, slice_index, arith}
use Rattle.frames.proofs.Words.{within_right, put_byte}
use Rattle.checks.specs.Bits.{word}
use Rattle.frames.proofs.bits.put_within.Goals as goal

pub returns : goal.returns
returns c =
    let xs = c.args.buf.now in
    let i = c.args.at / 8 in
    let j = c.args.at % 8 in
    let n = c.args.count in
    put_byte xs i j c.args.at n _ (word n c.args.value) (omega arith) (omega arith) (omega arith)
    (within_right (slice_index xs i) c.args.value j n (8 - j - n) (omega arith) (omega arith))
