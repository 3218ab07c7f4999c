use Rattle.std.proofs.Common.{ℕ, ◌<◌, ◌^◌, ◌++◌, ap, ap₂, ◌∙◌, arith}
use Rattle.checks.specs.Bits.{word}
use Rattle.frames.proofs.Words.{joined, word_join}
use Rattle.frames.proofs.packing.length_and_pid.Goals as goal

pub returns : goal.returns
returns c =
    let f = c.args.fields.now in
    let len = c.from.result in
    let pid = c.from-2.result in
    let below : pid < 2 ^ 2 = omega (arith, c.number.ensures.below) in
    ap (word 8) (joined 14 2 len pid (omega (arith, f.payload.fits)) below (omega arith)) ∙ word_join 6 2 len pid below
    ∙ ap₂ (λ (m n : ℕ). word 6 m ++ word 2 n) c.from.ensures (c.from-2.ensures ∙ c.number.ensures.value)
