use Rattle.std.proofs.Common.{◌+◌, ◌-◌, length, refl, ap, ◌∙◌, arith}
use Rattle.std.proofs.lemmas.Slice.{put_mid-paste}
use Rattle.checks.specs.Bits.{bits}
use Rattle.frames.proofs.Words.{put_copied}
use Rattle.frames.proofs.bits.put_bytes.Goals as goal

pub returns : goal.returns
returns c =
    let xs = c.args.buf.now in
    let ys = c.args.src.now in
    let k = c.args.start in
    ap bits (put_mid-paste k (k + length ys - k) xs c.copy_from_slice.new.self ys (length ys) c.copy_from_slice.ensures.after (omega arith) refl)
    ∙ put_copied xs ys k (omega arith)
