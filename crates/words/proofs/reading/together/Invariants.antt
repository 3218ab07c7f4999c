use Rattle.std.proofs.Common.{◌≡◌, vec_items}
use Rattle.words.specs.Numbers.{together_of, together_after}
use Rattle.words.proofs.reading.together.Given as goal

abbrev pub invariant-loop-digits : goal.invariant-loop-digits
invariant-loop-digits l = (l.digits-iterator.size ≡ 2) × (together_of l.word ≡ together_after (vec_items l.out) l.digits-iterator.rest.now)
