use Rattle.std.proofs.Common.{◌≡◌, length, arith, rules}
use Rattle.registers.specs.Table.{size_of}
use Rattle.registers.proofs.Holding.{holds}
use Rattle.registers.proofs.held.Registers.write.Goals as goal

pub returns-then-value-size : goal.returns-then-value-size
returns-then-value-size c =
    let l : length c.args.self.now.held ≡ 24 = omega arith in
    let n : length c.args.value.now ≡ size_of c.args.register = search rules in
    let h = holds c.args.self.now c.args.register c.args.value.now l n in
    record { after = search rules; law = rw (c.from.ensures, c.address.ensures.value, c.padded.ensures) h }
