use Rattle.std.proofs.Common.{◌≡◌, ◌∙◌, ◌<◌, ◌≤◌, ℕ, length, take, arith, rules}
use Rattle.std.specs.Prelude.{slice_index}
use Rattle.std.proofs.lemmas.List.{length-take}
use Rattle.unit.specs.Units.{tx_address}
use Rattle.unit.specs.Hearing.{address_width}
use Rattle.cell.proofs.making.known.Goals as goal

pub returns : goal.returns
returns c =
    let e : c.value.result.now ≡ Rattle.registers.specs.File.value_of c.args.unit.now.registers Rattle.registers.specs.declared.register.Register.TheVariants.TxAddr = c.value.ensures.value in
    let l : length c.value.result.now ≡ 5 = c.value.ensures.len in
    let k : (i : ℕ) → slice_index (take c.address_width.result c.value.result.now) i < 256 = c.known_bytes.ensures in
    let w : c.address_width.result ≡ address_width c.args.unit.now = c.address_width.ensures.value in
    let n : c.address_width.result ≤ 5 = c.address_width.ensures.bounds.1 in
    let h : take c.address_width.result c.value.result.now ≡ tx_address c.args.unit.now.registers = cc in
    let m : length (take c.address_width.result c.value.result.now) ≡ c.address_width.result = length-take c.address_width.result c.value.result.now ∙ omega arith in
    (rw (← h) k, rw (← h) (m ∙ w), search rules)
