use Rattle.std.proofs.Common.{◌∙◌}
use Rattle.words.proofs.Pairs.{goes_on}
use Rattle.words.proofs.reading.together.Goals as goal

pub loop-digits-preserved : goal.loop-digits-preserved
loop-digits-preserved c = (
  c.in-Some.ensures.steps.0 ∙ c.loop-digits.invariant.0,
  c.loop-digits.invariant.1 ∙ goes_on _ _ c.in-Some.digits.now _ _ _ c.in-Some.ensures.steps.1.0 c.in-Some-byte.ensures c.in_ok-push.ensures.items,
)
