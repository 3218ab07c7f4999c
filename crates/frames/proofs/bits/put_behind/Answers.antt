use Rattle.std.proofs.Common.{◌≡◌, List, ℕ, ◌+◌, ◌-◌, ◌*◌, length, refl, sym, ◌∙◌, ap₂, arith}
use borrow.Rule.Slice.PartMut.{put_mid}
use lib.Seq.{paste}
use Rattle.std.proofs.lemmas.Slice.{put_mid-paste}
use Rattle.checks.specs.Bits.{word, bits}
use Rattle.frames.proofs.Words.{put_left}
use Rattle.frames.proofs.bits.put_behind.Goals as goal

pub returns : goal.returns
returns c =
    let old = c.args.buf.now in
    let start = c.args.start in
    let place = c.args.place in
    let src = c.args.src.now in
    let n = length src in
    let out = c.fill_across-last.new.out in
    let last = c.fill_across-last.result in
    let lo : length out ≡ n = omega arith in
    let cut : put_mid start (start + n - start) old out ≡ paste old start out n =
    put_mid-paste start (start + n - start) old out out n refl (omega arith) (sym lo) in
    put_left old start place c.args.first last src out _ (omega arith) lo c.fill_across-last.ensures
    (c.put_within.ensures ∙ ap₂ (λ (u : List ℕ) (v : ℕ). paste (bits u) (8 * (start + n)) (word place v) place) cut c.from.ensures)
