use Rattle.std.proofs.Common.{arith}
use Rattle.profile.proofs.Ones.{by_counts}
use Rattle.profile.proofs.map.Map.place.Goals as goal

pub returns : goal.returns
returns c = record { value = omega (arith, by_counts c.args.self.0 c.args.address c.requires); near = omega arith }
