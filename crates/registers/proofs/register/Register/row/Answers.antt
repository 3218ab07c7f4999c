use Rattle.std.proofs.Common.{◌∙◌}
use Rattle.registers.specs.Address.{address_of}
use Rattle.registers.proofs.Agree.{row_tells}
use Rattle.registers.proofs.Holding.{address_bound}
use Rattle.registers.proofs.register.Register.row.Goals as goal

pub returns : goal.returns
returns c =
    let e = c.from.ensures ∙ c.address.ensures.value in
    rw e (row_tells c.rows.result.now _ c.rows.ensures (address_of c.args.self) (address_bound c.args.self))
