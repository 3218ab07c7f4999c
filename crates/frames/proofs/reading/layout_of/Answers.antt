use Rattle.std.proofs.Common.{◌≡◌, ℕ, ◌+◌, ◌*◌, ◌≤◌, Bool, List, length, take, drop, Some, sym, ap, ◌∙◌, arith}
use Rattle.std.proofs.lemmas.Bool.{cond-true, cond-false}
use Rattle.checks.specs.Bits.{bits}
use Rattle.checks.specs.Places.{length_bits}
use Rattle.frames.specs.Octets.{number}
use Rattle.frames.specs.Calls.{width_of}
use Rattle.frames.proofs.Widths.{width_low, width_high}
use Rattle.frames.proofs.Inside.{long, miscounted, all_counted, said_inside}
use Rattle.frames.proofs.reading.layout_of.Goals as goal

-- the length that was read stands after preamble and address
said : (b : List Bool) (width place bits len : ℕ) → len ≡ bits → bits ≡ number (take 6 (drop place b)) → place ≡ 8 + 8 * width
    → len ≡ number (take 6 (drop (8 + 8 * width) b))
said b width place bits len e f g = e ∙ f ∙ ap (λ (n : ℕ). number (take 6 (drop n b))) g

pub returns-then-len-gt-MOST-clause-value : goal.returns-then-len-gt-MOST-clause-value
returns-then-len-gt-MOST-clause-value c =
    let b = bits c.args.frame.now in
    let width = width_of c.args.wide in
    let le : c.args.count ≤ length b = omega (arith, length_bits c.args.frame.now) in
    let is = said b width _ _ _ c.from-len.ensures c.get_bits.ensures.value c.control-control.ensures.value in
    sym (cond-false _ _ _ (long b c.args.count le c.args.size width c.from-len.result is (omega arith) (omega arith)))

pub returns-then-check-size-clause-value : goal.returns-then-check-size-clause-value
returns-then-check-size-clause-value c =
    let b = bits c.args.frame.now in
    let n = c.args.count in
    let width = width_of c.args.wide in
    let len = c.from-len.result in
    let le : n ≤ length b = omega (arith, length_bits c.args.frame.now) in
    let is = said b width _ _ _ c.from-len.ensures c.get_bits.ensures.value c.control-control.ensures.value in
    sym (cond-false _ _ _ (miscounted b n le c.args.size width len is (omega arith) (λ e. c.if-check-size.true (omega (arith, e, c.check.ensures.value)))))

pub returns-clause-value : goal.returns-clause-value
returns-clause-value c =
    let b = bits c.args.frame.now in
    let n = c.args.count in
    let width = width_of c.args.wide in
    let len = c.from-len.result in
    let size = c.args.size in
    let le : n ≤ length b = omega (arith, length_bits c.args.frame.now) in
    let is = said b width _ _ _ c.from-len.ensures c.get_bits.ensures.value c.control-control.ensures.value in
    sym (cond-true _ _ _ (all_counted b n le size width len is (omega arith) (width_low c.args.wide) (width_high c.args.wide) (omega arith) (omega (arith, c.check.ensures.value)))
    ∙ ap Some (sym (said_inside b n le size width len is (omega (arith, c.check.ensures.value)))))
