use Rattle.std.proofs.Common.{◌≡◌, ℕ, ◌+◌, ◌-◌, length, take, drop, ap, ◌∙◌, arith}
use Rattle.frames.proofs.Words.{get_copied}
use Rattle.frames.proofs.bits.get_bytes.Goals as goal

pub returns : goal.returns
returns c =
    let n = length c.args.out.now in
    let k = c.args.start in
    let e : k + n - k ≡ n = omega arith in
    c.copy_from_slice.ensures.after ∙ ap (λ (m : ℕ). take m (drop k c.args.buf.now)) e
    ∙ get_copied c.args.buf.now k n (λ i. (c.type_inv.buf i).fits) (omega arith)
