use Rattle.std.proofs.Common.{ℕ, List, ◌++◌, sym, ap, ap₂, ◌∙◌}
use Rattle.std.proofs.lemmas.List.{take-append-drop}
use Rattle.checks.specs.Bits.{bits}
use Rattle.checks.specs.Crc.{run}
use Rattle.checks.specs.Places.{run_append}
use Rattle.checks.proofs.Bytes.{bits_append}
use Rattle.checks.proofs.crc.front.Goals as goal

pub returns-in-Some-clause-same : goal.returns-in-Some-clause-same
returns-in-Some-clause-same g c =
    let w = g.P.Parameters.WIDTH in
    let p = g.P.Parameters.POLYNOMIAL in
    let r = c.args.register in
    let first : List ℕ = c.in-Some.first.now in
    let rest : List ℕ = c.in-Some.rest.now in
    ap (λ (n : ℕ). run w p n (bits rest)) c.at_once.ensures.same ∙ sym (run_append w p r (bits first) (bits rest))
    ∙ ap (run w p r)
    (sym (bits_append first rest)
    ∙ ap bits
    (ap₂ (λ (x y : List ℕ). x ++ y) c.in-Some.ensures.cases.1 c.in-Some.ensures.cases.2 ∙ take-append-drop c.args.count c.args.bytes.now))
