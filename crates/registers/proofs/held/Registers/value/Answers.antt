use Rattle.std.proofs.Common.{rules}
use Rattle.registers.proofs.Holding.{lowest}
use Rattle.registers.proofs.held.Registers.value.Goals as goal

pub returns : goal.returns
returns c = let l = lowest c.args.self.now c.args.register in search rules
