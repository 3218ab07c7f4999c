use Rattle.std.proofs.Common.{rules}
use Rattle.results.proofs.Written.{first_bit}
use Rattle.results.proofs.rows.begins_with_one.Goals as goal

pub returns : goal.returns
returns c = first_bit c.args.low_first.now c.last.result c.is_some_and.result _ c.last.ensures.value c.is_some_and.ensures (λ x q. search rules)
