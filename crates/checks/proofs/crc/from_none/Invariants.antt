use Rattle.std.proofs.Common.{◌≡◌, bit_xor, drop}
use Rattle.checks.specs.Bits.{bits}
use Rattle.checks.specs.Crc.{run}
use Rattle.checks.proofs.crc.from_none.Given as goal

abbrev pub invariant-loop-i : goal.invariant-loop-i
invariant-loop-i g l =
    let w = g.P.Parameters.WIDTH in
    let p = g.P.Parameters.POLYNOMIAL in
    bit_xor l.register (run w p 0 (bits (drop l.i l.bytes))) ≡ run w p 0 (bits l.bytes)
