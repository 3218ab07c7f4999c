use Rattle.std.proofs.Common.{◌≡◌}
use Rattle.cell.specs.Air.{bits_on}
use Rattle.cell.proofs.Heard.{first_heard}
use Rattle.cell.proofs.parts.Places.hear.Given as goal

abbrev pub invariant-loop-unit : goal.invariant-loop-unit
invariant-loop-unit g l = l.self.at ≡ first_heard g.C.Check.W g.C.Check.meaning l.frame (bits_on l.frame) 0 l.unit l.fn.self.at
