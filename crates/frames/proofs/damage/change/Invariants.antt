use Rattle.std.proofs.Common.{◌≡◌, ◌++◌, length, take, drop}
use Rattle.checks.specs.Bits.{word, bits}
use Rattle.frames.specs.Damage.{changed}
use Rattle.frames.proofs.damage.change.Given as goal

abbrev pub invariant-loop-i : goal.invariant-loop-i
invariant-loop-i l =
    bits l.frame
    ≡ changed (take l.count (bits l.initial.frame)) l.start (take (length l.yielded) (word 16 l.pattern)) ++ drop l.count (bits l.initial.frame)
