use Rattle.std.proofs.Common.{◌≡◌, ◌^◌, ◌<◌, length}
use Rattle.checks.specs.Bits.{bits}
use Rattle.checks.specs.Crc.{run}
use Rattle.checks.proofs.crc.through.Given as goal

abbrev pub invariant-loop-left : goal.invariant-loop-left
invariant-loop-left g l =
    let p = g.P.Parameters in
    (l.register < 2 ^ p.WIDTH) × (run p.WIDTH p.POLYNOMIAL l.register (bits l.left) ≡ run p.WIDTH p.POLYNOMIAL p.START (bits l.bytes))

abbrev pub decreases-loop-left : goal.decreases-loop-left
decreases-loop-left g l = length l.left
