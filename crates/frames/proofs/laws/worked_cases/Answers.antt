use Rattle.std.proofs.Common.{refl, arith}
use Rattle.checks.specs.Bits.{word}
use Rattle.frames.proofs.Lay.{length_frame}
use Rattle.frames.proofs.laws.worked_cases.Goals as goal

pub returns : goal.returns
unfolding word
returns c = ((λ f p a n. (omega (arith, length_frame 16 f p), refl)), (refl, (refl, (refl, (refl, (refl, tt))))))
