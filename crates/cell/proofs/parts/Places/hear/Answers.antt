use Rattle.std.proofs.Common.{arith}
use Rattle.cell.specs.Air.{bits_on}
use Rattle.cell.proofs.Heard.{heard_first, heard_next}
use Rattle.cell.proofs.parts.Places.hear.Goals as goal

pub loop-unit-init : goal.loop-unit-init
loop-unit-init g c =
    let x = c.args.frame.now in
    heard_first g.C.Check.W g.C.Check.meaning x (bits_on x) c.args.self.now.at _ c.index-self-0.result (omega arith) c.hear_at-count.ensures.place

pub loop-unit-preserved : goal.loop-unit-preserved
loop-unit-preserved g c =
    let x = c.args.frame.now in
    heard_next g.C.Check.W g.C.Check.meaning x (bits_on x) c.args.self.now.at _ _ c.index-self-unit.result c.loop-unit.unit (omega arith) c.loop-unit.invariant
    c.hear_at.ensures.place
