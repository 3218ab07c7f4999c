use Rattle.std.proofs.Common.{arith}
use Rattle.profile.proofs.Ones.{only_allowed}
use Rattle.profile.proofs.map.Map.is_allowed.Goals as goal

pub returns : goal.returns
returns c = only_allowed c.args.self.0 (omega arith)
