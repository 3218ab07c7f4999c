use Rattle.std.proofs.Common.{arith, rules}
use Rattle.std.proofs.lemmas.List.{take_all}
use Rattle.registers.proofs.held.Registers.pipe_address.Goals as goal

pub returns-in-P0 : goal.returns-in-P0
returns-in-P0 c =
    let whole = take_all 5 c.wide.result (omega arith) in
    search rules

pub returns-in_default : goal.returns-in_default
returns-in_default c =
    let whole = take_all 5 c.wide-address.result (omega arith) in
    search rules
