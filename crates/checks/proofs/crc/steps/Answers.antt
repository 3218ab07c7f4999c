use Rattle.std.proofs.Common.{◌≡◌, ℕ, ◌+◌, ◌-◌, ◌*◌, ◌/◌, ◌%◌, ◌^◌, ◌<◌, ◌≤◌, bit_and, bit_xor, refl, sym, ◌∙◌, ap, ap₂, subst, lit<, rules, arith, mul-one}
use Rattle.std.proofs.lemmas.Nat.{shl_whole, shl_below, shr_below, xor_lt, and_mask}
use Rattle.std.proofs.Math.Nat.{pow-le-pow_right}
use Rattle.std.proofs.lemmas.Nat.Bits.{ones_shr}
use Rattle.checks.specs.Bits.{word}
use Rattle.checks.specs.Crc.{run}
use Rattle.checks.specs.Law.{positive, every_below}
use Rattle.checks.proofs.Table.{narrow, block, leading}
use Rattle.checks.proofs.crc.steps.Goals as goal

-- what is shifted stays within 32 bits
shifted : (w r c : ℕ) → r < 2 ^ w → w ≤ 16 → c ≤ 8 → r * 2 ^ c % 4294967296 ≡ r * 2 ^ c
shifted w r c h hw hc = shl_whole r w c 32 h (omega (arith, hw, hc))

moved_below : (w r c : ℕ) → r < 2 ^ w → r * 2 ^ c / 2 ^ w < 2 ^ c
moved_below w r c h =
    let e : w + c ≡ c + w = omega arith in
    shr_below (r * 2 ^ c) c w (subst (λ (n : ℕ). r * 2 ^ c < 2 ^ n) e (shl_below r w c h))

low_mask : (n w : ℕ) → w ≤ 16 → bit_and n (4294967295 / 2 ^ (32 - w)) ≡ n % 2 ^ w
low_mask n w h =
    let e : 32 - (32 - w) ≡ w = omega (arith, h) in
    ap (bit_and n) (ones_shr 32 (32 - w) (omega arith) ∙ ap (λ (k : ℕ). 2 ^ k - 1) e) ∙ and_mask n w

pub overflow_cast-met-2 : goal.overflow_cast-met-2
overflow_cast-met-2 g c =
    let r = c.args.register in
    let w = g.P.Parameters.WIDTH in
    let count = c.args.count in
    let within = narrow g.met.P.Parameters.wide in
    let top : c.from.result * 2 ^ count % 4294967296 / 2 ^ c.WIDTH.result ≡ r * 2 ^ count / 2 ^ w =
    ap₂ (λ (n m : ℕ). n * 2 ^ count % 4294967296 / 2 ^ m) c.from.ensures c.WIDTH.ensures
    ∙ ap (λ (n : ℕ). n / 2 ^ w) (shifted w r count c.requires.below within c.requires.within) in
    let few = moved_below w r count c.requires.below in
    let le : 2 ^ count ≤ 2 ^ 8 = pow-le-pow_right (lit< tt) c.requires.within in
    let h = subst (λ (n : ℕ). n < 2 ^ 8) (sym top) (let q : r * 2 ^ count / 2 ^ w < 2 ^ 8 = omega (arith, few, le) in q) in
    search (rules, h)

pub returns-clause-same : goal.returns-clause-same
returns-clause-same g c =
    let p = g.P.Parameters in
    let law = g.met.P.Parameters in
    let r = c.args.register in
    let count = c.args.count in
    let within = narrow law.wide in
    let whole = shifted p.WIDTH r count c.requires.below within c.requires.within in
    let moved : c.from.result * 2 ^ count % 4294967296 ≡ r * 2 ^ count =
    ap (λ (n : ℕ). n * 2 ^ count % 4294967296) c.from.ensures ∙ whole in
    let met : ℕ = bit_xor (r * 2 ^ count / 2 ^ p.WIDTH) c.args.number in
    let few : met < 2 ^ count = xor_lt count _ _ (moved_below p.WIDTH r count c.requires.below) c.requires.fits in
    let e : 8 ≡ 8 - count + count = omega (arith, c.requires.within) in
    ap₂ (λ (a b : ℕ). bit_xor a b)
    (c.entry.ensures
    ∙ ap (λ (n : ℕ). run p.WIDTH p.POLYNOMIAL 0 (word 8 n))
    (mul-one _ ∙ ap (λ (n : ℕ). bit_xor n c.args.number) (ap₂ (λ (n m : ℕ). n / 2 ^ m) moved c.WIDTH.ensures))
    ∙ ap (λ (n : ℕ). run p.WIDTH p.POLYNOMIAL 0 (word n met)) e ∙ leading p.WIDTH p.POLYNOMIAL count (8 - count) met few)
    (ap₂ (λ (n m : ℕ). bit_and n (4294967295 / 2 ^ (32 - m))) moved c.WIDTH-2.ensures ∙ low_mask (r * 2 ^ count) p.WIDTH within)
    ∙ block p.WIDTH p.POLYNOMIAL r count c.args.number (positive law.wide) c.requires.below

pub returns-clause-below : goal.returns-clause-below
returns-clause-below g c =
    let p = g.P.Parameters in
    let law = g.met.P.Parameters in
    let r = c.args.register in
    subst (λ (n : ℕ). n < 2 ^ p.WIDTH) (sym (returns-clause-same g c))
    (every_below p.WIDTH p.POLYNOMIAL r (run p.WIDTH p.POLYNOMIAL r) refl (positive law.wide) law.odd law.small c.requires.below (word c.args.count c.args.number))
