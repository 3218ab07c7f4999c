use Rattle.std.proofs.Common.{◌≡◌, length, arith, rules}
use Rattle.registers.proofs.Agree.{looked_up}
use Rattle.registers.proofs.table.RegisterTryFromU8.try_from.Goals as goal

pub returns : goal.returns
returns c =
    let l : length c.rows.result.now ≡ 24 = omega arith in
    rw (c.ok_or.ensures.value, ← c.from.ensures)
    (looked_up _ c.rows.result.now c.from.result c.get.result c.map.result c.rows.ensures l c.get.ensures.lookup.3 c.map.ensures.cases (λ x r p. search rules))
