use Rattle.std.proofs.Common.{take, ap, ◌∙◌}
use Rattle.checks.specs.Bits.{word, bits}
use Rattle.cell.proofs.Patterned.{first_changed}
use Rattle.cell.proofs.air.Frame.changed.Goals as goal

pub returns-clause-bits : goal.returns-clause-bits
returns-clause-bits c =
    ap (take c.args.self.now.count) c.change.ensures
    ∙ first_changed c.args.self.now.count (bits c.args.self.now.bytes) c.args.start (word 16 c.args.pattern)
