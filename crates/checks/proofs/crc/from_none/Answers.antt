use Rattle.std.proofs.Common.{◌≡◌, ℕ, List, ◌+◌, ◌-◌, ◌*◌, ◌^◌, ◌<◌, ◌∷◌, [], bit_xor, length, drop, get_or, sym, ap, ◌∙◌, arith, add-one, length-drop, drop-cons}
use Rattle.std.proofs.lemmas.List.{drop_all}
use Rattle.std.specs.Int.Bits.{xor_assoc, xor_zero_r}
use Rattle.checks.specs.Bits.{word, bits}
use Rattle.checks.specs.Crc.{run}
use Rattle.checks.proofs.Table.{byte_first}
use Rattle.checks.proofs.crc.from_none.Goals as goal

pub loop-i-preserved : goal.loop-i-preserved
loop-i-preserved g c =
    let w = g.P.Parameters.WIDTH in
    let p = g.P.Parameters.POLYNOMIAL in
    let bs : List ℕ = c.args.bytes.now in
    let i : ℕ = c.loop-i.i in
    let b : ℕ = get_or bs i 0 in
    let rest : List ℕ = drop (i + 1) bs in
    let within : i < length bs = omega arith in
    let split : drop i bs ≡ b ∷ rest = rw (add-one, drop-cons bs i 0) in
    let long : length rest ≡ length bs - 1 - i = length-drop (i + 1) bs ∙ omega arith in
    xor_assoc c.loop-i.register c.entry-register.result (run w p 0 (bits rest))
    ∙ ap (bit_xor c.loop-i.register)
    (ap (λ (n : ℕ). bit_xor n (run w p 0 (bits rest)))
    (c.entry-register.ensures ∙ ap (λ (k : ℕ). run w p 0 (word (8 * (k + 1)) (b * 2 ^ (8 * k)))) (sym long))
    ∙ sym (byte_first w p b rest) ∙ ap (λ (s : List ℕ). run w p 0 (bits s)) (sym split))
    ∙ c.loop-i.invariant

pub returns : goal.returns
unfolding bits
returns g c =
    let w = g.P.Parameters.WIDTH in
    let p = g.P.Parameters.POLYNOMIAL in
    let r = c.loop-i.register in
    let end : drop c.loop-i.i c.args.bytes.now ≡ [] = drop_all c.loop-i.i c.args.bytes.now (omega arith) in
    sym (xor_zero_r r) ∙ ap (λ (s : List ℕ). bit_xor r (run w p 0 (bits s))) (sym end) ∙ c.loop-i.invariant
