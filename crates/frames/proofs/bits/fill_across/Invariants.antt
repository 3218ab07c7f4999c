use Rattle.std.proofs.Common.{◌+◌, ◌*◌, ◌/◌, length}
use Rattle.frames.proofs.Words.{Filled}
use Rattle.frames.proofs.bits.fill_across.Given as goal

abbrev pub invariant-loop-k : goal.invariant-loop-k
invariant-loop-k l = Filled l.first l.src l.place l.out l.last (8 * l.k)

abbrev pub invariant-loop-i : goal.invariant-loop-i
invariant-loop-i l = Filled l.first l.src l.place l.out l.last (8 * (length l.src / 8) + l.i)
