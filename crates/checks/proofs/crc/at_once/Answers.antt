use Rattle.std.proofs.Common.{◌≡◌, ℕ, ◌+◌, ◌-◌, ◌*◌, ◌/◌, ◌%◌, ◌^◌, ◌<◌, ◌≤◌, List, [], ◌∷◌, bit_and, bit_xor, length, take, drop, get_or, refl, sym, subst, ap, ap₂, ◌∙◌, arith}
use Rattle.std.proofs.lemmas.List.{append-nil, take_all}
use Rattle.std.proofs.lemmas.Nat.{shl_whole, and_mask, xor_comm}
use Rattle.checks.specs.Bits.{word, bits}
use Rattle.checks.specs.Crc.{run}
use Rattle.checks.specs.Law.{positive, every_below}
use Rattle.checks.proofs.Table.{narrow, byte_first, first_two}
use Rattle.checks.proofs.crc.at_once.Goals as goal

none : (w p r : ℕ) (bs : List ℕ) → length bs < 1 → r ≡ run w p r (bits bs)
unfolding bits
none w p r [] h = refl
none w p r (b ∷ bs) h = absurd (omega (arith, h))

one : (w p r : ℕ) (bs : List ℕ) → 1 ≤ length bs → length bs < 2 → run w p r (word 8 (get_or bs 0 0)) ≡ run w p r (bits bs)
unfolding bits
one w p r [] h l = absurd (omega (arith, h))
one w p r (b ∷ []) h l = ap (run w p r) (sym (append-nil (word 8 b)))
one w p r (b ∷ c ∷ bs) h l = absurd (omega (arith, l))

more : (bs : List ℕ) → 2 ≤ length bs → get_or bs 0 0 ∷ get_or bs 1 0 ∷ take (length bs - 2) (drop 2 bs) ≡ bs
more [] h = absurd (omega (arith, h))
more (a ∷ []) h = absurd (omega (arith, h))
more (a ∷ b ∷ bs) h = ap (λ (s : List ℕ). a ∷ b ∷ s) (take_all (length (a ∷ b ∷ bs) - 2) bs (omega arith))

pub returns-in-empty-clause-same : goal.returns-in-empty-clause-same
returns-in-empty-clause-same g c = none g.P.Parameters.WIDTH g.P.Parameters.POLYNOMIAL c.args.register c.args.bytes.now c.in-empty.len_below

pub returns-in-len1-clause-same : goal.returns-in-len1-clause-same
returns-in-len1-clause-same g c = c.steps.ensures.same ∙ one g.P.Parameters.WIDTH g.P.Parameters.POLYNOMIAL c.args.register c.args.bytes.now c.in-len1.len_at_least c.in-len1.len_below

pub returns-in-len2-up-clause-same : goal.returns-in-len2-up-clause-same
returns-in-len2-up-clause-same g c =
    let w = g.P.Parameters.WIDTH in
    let p = g.P.Parameters.POLYNOMIAL in
    let r : ℕ = c.args.register in
    let bs : List ℕ = c.args.bytes.now in
    let a : ℕ = get_or bs 0 0 in
    let b : ℕ = get_or bs 1 0 in
    let rest : List ℕ = take (length bs - 2) (drop 2 bs) in
    let top : ℕ = r * 2 ^ (16 - c.WIDTH.result) % 65536 in
    let high : ℕ = top / 2 ^ 8 in
    let low : ℕ = bit_and top 255 in
    let last : low ≡ top % 256 = and_mask top 8 in
    let x : ℕ = bit_xor high a in
    let y : ℕ = bit_xor low b in
    let within = narrow g.met.P.Parameters.wide in
    let whole : top ≡ r * 2 ^ (16 - w) =
    ap (λ (k : ℕ). r * 2 ^ (16 - k) % 65536) c.WIDTH.ensures ∙ shl_whole r w (16 - w) 16 c.requires.below (omega (arith, within)) in
    let bytes : r * 2 ^ (16 - w) ≡ high * 256 + low = sym whole ∙ omega arith in
    let second : b < 256 = omega (arith, (c.type_inv.bytes 1).fits) in
    let one_more : length rest + 1 ≡ length (y ∷ rest) = omega arith in
    let e : ℕ = c.entry-in-len2-up.result in
    xor_comm (bit_xor c.from_none-others.result c.entry.result) e ∙ ap (bit_xor e) (xor_comm c.from_none-others.result c.entry.result)
    ∙ ap₂ (λ (m n : ℕ). bit_xor m n)
    (c.entry-in-len2-up.ensures ∙ ap (λ (k : ℕ). run w p 0 (word (8 * (k + 1)) (x * 2 ^ (8 * k)))) one_more)
    (ap₂ (λ (m n : ℕ). bit_xor m n) c.entry.ensures c.from_none-others.ensures ∙ sym (byte_first w p y rest))
    ∙ sym (byte_first w p x (y ∷ rest))
    ∙ first_two w p r a b high low rest (positive g.met.P.Parameters.wide) within c.requires.below second (omega arith) bytes
    ∙ ap (λ (s : List ℕ). run w p r (bits s)) (more bs c.in-len2-up.len_at_least)

pub returns-in-len2-up-clause-below : goal.returns-in-len2-up-clause-below
returns-in-len2-up-clause-below g c =
    let p = g.P.Parameters in
    let law = g.met.P.Parameters in
    let r = c.args.register in
    subst (λ (n : ℕ). n < 2 ^ p.WIDTH) (sym (returns-in-len2-up-clause-same g c))
    (every_below p.WIDTH p.POLYNOMIAL r (run p.WIDTH p.POLYNOMIAL r) refl (positive law.wide) law.odd law.small c.requires.below (bits c.args.bytes.now))
