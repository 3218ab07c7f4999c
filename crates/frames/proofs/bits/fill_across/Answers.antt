use Rattle.std.proofs.Common.{◌≡◌, ℕ, List, ◌+◌, ◌-◌, ◌*◌, ◌/◌, ◌<◌, [], ◌++◌, take, drop, get_or, set, length, refl, sym, ap, ◌∙◌, subst, arith}
use lib.Seq.{paste}
use Rattle.std.proofs.lemmas.List.{get_or-drop, take_all, drop_all, append-nil, length-take}
use Rattle.std.proofs.lemmas.Slice.{put_mid-paste}
use Rattle.checks.specs.Bits.{word, bits}
use Rattle.frames.proofs.Words.{Filled, filled_none, filled_one, filled_eight, chunk_at}
use Rattle.frames.proofs.bits.fill_across.Goals as goal

pub loop-k-init : goal.loop-k-init
loop-k-init c = filled_none c.args.src.now c.args.out.now c.args.place c.args.first

pub loop-k-preserved : goal.loop-k-preserved
loop-k-preserved c =
    let place = c.args.place in
    let first = c.args.first in
    let src = c.args.src.now in
    let now = c.loop-k.out in
    let k = c.loop-k.k in
    let ys = c.across_eight.result in
    let eight = get_or c.as_chunks.result.0.now k [] in
    let few : k < length src / 8 = omega (arith, c.as_chunks.ensures.front_len) in
    let e : 8 * k + 8 ≡ 8 * (k + 1) = omega arith in
    let ce : eight ≡ take 8 (drop (8 * k) src) =
    ap (λ (xs : List (List ℕ)). get_or xs k []) c.as_chunks.ensures.front ∙ chunk_at (length src / 8) src k few in
    let ly : length ys ≡ 8 = omega arith in
    let part = take (8 * k + 8 - 8 * k) (drop (8 * k) now) in
    let whole : c.put_eight.new.buf ≡ ys =
    c.put_eight.ensures ∙ ap (λ (u : List ℕ). ys ++ u) (drop_all 8 part (omega (arith, length-take (8 * k + 8 - 8 * k) (drop (8 * k) now)))) ∙ append-nil ys in
    subst (λ (b : List ℕ). Filled first src place b (get_or eight 7 0) (8 * (k + 1)))
    (sym (put_mid-paste (8 * k) (8 * k + 8 - 8 * k) now c.put_eight.new.buf ys 8 whole (omega arith) (sym ly)))
    (subst (λ (m : ℕ). Filled first src place (paste now (8 * k) ys 8) (get_or eight 7 0) m) e
    (filled_eight first src now place c.loop-k.last (8 * k) ys eight (omega (arith, few)) (omega (arith, few)) (omega arith) ce ly c.across_eight.ensures c.loop-k.invariant))

pub loop-i-preserved : goal.loop-i-preserved
loop-i-preserved c =
    let place = c.args.place in
    let first = c.args.first in
    let src = c.args.src.now in
    let i = c.loop-i.i in
    let j = 8 * (length src / 8) + i in
    let y = c.across.result in
    let b = get_or c.as_chunks.result.1.now i 0 in
    let e : j ≡ 8 * length c.as_chunks.result.0.now + i = omega (arith, c.as_chunks.ensures.front_len) in
    let z : length src / 8 * 8 + i ≡ j = omega arith in
    let n : j + 1 ≡ 8 * (length src / 8) + (i + 1) = omega arith in
    let eb : b ≡ get_or src j 0 =
    ap (λ (xs : List ℕ). get_or xs i 0) c.as_chunks.ensures.back ∙ get_or-drop (length src / 8 * 8) src i 0 ∙ ap (λ (m : ℕ). get_or src m 0) z in
    subst (λ (k : ℕ). Filled first src place (set c.loop-i.out k y) b (8 * (length src / 8) + (i + 1))) e
    (subst (λ (m : ℕ). Filled first src place (set c.loop-i.out j y) b m) n
    (filled_one first src c.loop-i.out place c.loop-i.last j b y (omega (arith, c.as_chunks.ensures.back_len)) (omega (arith, c.as_chunks.ensures.back_len)) (omega arith) eb c.across.ensures c.loop-i.invariant))

pub returns : goal.returns
returns c =
    let place = c.args.place in
    let first = c.args.first in
    let src = c.args.src.now in
    let out = c.loop-i.out in
    let e : 8 * (length src / 8) + c.loop-i.i ≡ length src = omega (arith, c.as_chunks.ensures.back_len) in
    let all : (xs : List ℕ) → length xs ≡ length src → take (length src) xs ≡ xs = λ xs l. take_all (length src) xs (omega (arith, l)) in
    let f = subst (Filled first src place out c.loop-i.last) e c.loop-i.invariant in
    ap (λ (u : List ℕ). bits u ++ word place c.loop-i.last) (sym (all out (omega arith))) ∙ f
    ∙ ap (λ (u : List ℕ). word place first ++ bits u) (all src refl)
