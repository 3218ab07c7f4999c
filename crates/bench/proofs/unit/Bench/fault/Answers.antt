use Rattle.std.proofs.Common.{ℕ, ap, ◌∙◌}
use Rattle.bench.specs.Checking.{fault_of}
use Rattle.bench.proofs.Lowest.{lowest}
use Rattle.bench.proofs.unit.Bench.fault.Goals as goal

pub returns : goal.returns
returns g c =
    let e = c.lowest_fault.ensures ∙ ap (λ (n : ℕ). fault_of n c.args.self.now.registers) c.W.ensures in
    record { value = e; law = lowest g.C.Check.W c.args.self.now.registers c.lowest_fault.result e }
