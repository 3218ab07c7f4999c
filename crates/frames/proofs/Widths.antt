-- An address has 3 to 5 bytes.
use Rattle.std.proofs.Common.{◌≤◌, arith}
use Rattle.frames.specs.declared.fields.AddressWidth.{AddressWidth}
use Rattle.frames.specs.declared.fields.AddressWidth.TheVariants.{Three, Four, Five}
use Rattle.frames.specs.Calls.{width_of}

pub width_low : (w : AddressWidth) → 3 ≤ width_of w
width_low Three = omega arith
width_low Four = omega arith
width_low Five = omega arith

pub width_high : (w : AddressWidth) → width_of w ≤ 5
width_high Three = omega arith
width_high Four = omega arith
width_high Five = omega arith
