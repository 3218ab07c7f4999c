use Rattle.std.proofs.Common.{rules}
use Rattle.std.proofs.Output.{has_written_append, has_written_of_eq}
use Rattle.words.proofs.Shown.{apart_more}
use Rattle.words.proofs.writing.ApartDisplay.fmt.Goals as goal

pub loop-b-preserved : goal.loop-b-preserved
loop-b-preserved g c = λ plain.
    let more = apart_more c.args.self.now.0.now c.loop-b.b-index c.loop-b-test.true in
    has_written_of_eq _ _ _ _ _ more (has_written_append _ _ _ _ _ _ (c.loop-b.invariant plain) (search rules))
