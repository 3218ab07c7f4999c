use Rattle.std.proofs.Common.{◌≡◌, ℕ, ◌+◌, ◌-◌, ◌*◌, ◌%◌, ◌^◌, ◌<◌, ◌≤◌, List, length, get_or, take, sym, subst, ap, ap₂, ◌∙◌, arith}
use Rattle.std.proofs.lemmas.Nat.{shr_below}
use Rattle.checks.specs.Bits.{word, bits}
use Rattle.checks.specs.Crc.{run}
use Rattle.checks.specs.Places.{run_byte, take_past}
use Rattle.checks.proofs.Bytes.{bits_take}
use Rattle.checks.proofs.Words.{word_first}
use Rattle.checks.proofs.crc.remainder.Goals as goal

pub steps-requires-clause-fits : goal.steps-requires-clause-fits
steps-requires-clause-fits g c =
    let spare : ℕ = c.args.n % 8 in
    let b : ℕ = c.from.result in
    let byte = (c.type_inv.bytes c.min-whole.result).fits in
    let few : b < 256 = omega (arith, byte, c.in-Some.ensures.lookup.3.1 0) in
    let q : spare + (8 - spare) ≡ 8 = omega arith in
    shr_below b spare (8 - spare) (subst (λ (k : ℕ). b < 2 ^ k) (sym q) few)

pub returns-in-Some-clause-same : goal.returns-in-Some-clause-same
returns-in-Some-clause-same g c =
    let w = g.P.Parameters.WIDTH in
    let p = g.P.Parameters.POLYNOMIAL in
    let start = g.P.Parameters.START in
    let bs : List ℕ = c.args.bytes.now in
    let whole : ℕ = c.min-whole.result in
    let spare : ℕ = c.args.n % 8 in
    let inside : whole < length bs = c.in-Some.ensures.lookup.3.0 in
    let is : c.from.result ≡ get_or bs whole 0 = c.from.ensures ∙ c.in-Some.ensures.lookup.3.1 0 in
    let all : 8 * whole + spare ≡ c.args.n = omega arith in
    c.steps.ensures.same
    ∙ ap₂ (run w p) (c.through-register.ensures.same ∙ ap (run w p start) (sym (bits_take bs whole)))
    (sym (word_first 8 spare c.from.result (omega arith)) ∙ ap (λ (b : ℕ). take spare (word 8 b)) is)
    ∙ sym (run_byte w p start bs whole spare inside (omega arith)) ∙ ap (λ (n : ℕ). run w p start (take n (bits bs))) all

pub returns-in-None-clause-same : goal.returns-in-None-clause-same
returns-in-None-clause-same g c =
    let bs : List ℕ = c.args.bytes.now in
    let whole : ℕ = c.min-whole.result in
    let past : length bs ≤ whole = c.in-None.ensures.lookup.3 in
    c.through-register.ensures.same
    ∙ ap (run g.P.Parameters.WIDTH g.P.Parameters.POLYNOMIAL g.P.Parameters.START)
    (sym (bits_take bs whole) ∙ take_past bs (8 * whole) c.args.n (omega arith) (omega arith))
