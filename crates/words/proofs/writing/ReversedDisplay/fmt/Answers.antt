use Rattle.std.proofs.Common.{◌++◌, sym, ◌∙◌, rules}
use Rattle.std.proofs.Output.{has_written_append}
use Rattle.words.specs.Numbers.{byte_shown}
use Rattle.words.proofs.Shown.{reversed_more}
use Rattle.words.proofs.writing.ReversedDisplay.fmt.Goals as goal

pub loop-byte-preserved : goal.loop-byte-preserved
loop-byte-preserved g c = λ plain.
    let so_far = c.loop-byte.invariant plain in
    let more = reversed_more _ _ _ c.in-Some.byte so_far.0 c.in-Some.ensures.steps c.in-Some.byte-is in
    (so_far.0 ++ byte_shown c.in-Some.byte, has_written_append _ _ _ _ _ _ so_far.1 (search rules), sym more ∙ so_far.2)
