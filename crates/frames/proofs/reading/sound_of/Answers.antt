use Rattle.std.proofs.Common.{◌≡◌, ℕ, ◌+◌, ◌-◌, ◌*◌, ◌≤◌, Bool, Option, eqb, List, length, take, drop, ap, ◌∙◌, ap₂, arith}
use Rattle.std.proofs.lemmas.Bool.{eq-eqb, ne_eqb}
use Rattle.checks.specs.Bits.{bits}
use Rattle.checks.specs.Places.{length_bits}
use Rattle.frames.specs.Octets.{number}
use Rattle.frames.specs.Packet.{Packet, fields_at}
use Rattle.frames.specs.declared.reading.Sound.{Sound}
use Rattle.std.specs.Option.{option_map}
use Rattle.frames.specs.Calls.{width_of}
use Rattle.frames.proofs.Inside.{heard_none, heard_wrong, heard_some, heard_check}
use Rattle.frames.proofs.reading.sound_of.Goals as goal

-- the two checks that are compared
right :
    (f : List Bool → ℕ) (w size width len end own said : ℕ) (b : List Bool) → size ≡ w → end ≡ 8 + 8 * width + 9 + 8 * len
    → own ≡ f (take (end - 8) (drop 8 b)) → said ≡ number (take size (drop end b))
    → eqb own said ≡ eqb (f (take (8 * width + 9 + 8 * len) (drop 8 b))) (number (take w (drop (8 + 8 * width + 9 + 8 * len) b)))
right f w size width len end own said b is at o s =
    let m : end - 8 ≡ 8 * width + 9 + 8 * len = omega arith in
    ap₂ eqb (o ∙ ap (λ (k : ℕ). f (take k (drop 8 b))) m) (s ∙ ap₂ (λ (k e : ℕ). number (take k (drop e b))) is at)

abbrev shown : List Bool → Option Sound → Option Packet
shown b = option_map (λ s. fields_at (width_of s.layout.wide) s.layout.len b)

pub returns-in_err-layout-clause-value : goal.returns-in_err-layout-clause-value
returns-in_err-layout-clause-value g c =
    let b = bits c.args.frame.now in
    let le : c.args.count ≤ length b = omega (arith, length_bits c.args.frame.now) in
    ap (shown b) c.from_residual.ensures
    ∙ heard_none b c.args.count le g.C.Check.meaning g.C.Check.W g.met.C.Check.below (width_of c.args.wide) c.W-size.result c.W-size.ensures
    c.in_err-layout.ensures.value

pub returns-then-check_before-check-clause-value : goal.returns-then-check_before-check-clause-value
returns-then-check_before-check-clause-value g c =
    let f = g.C.Check.meaning in
    let w : ℕ = g.C.Check.W in
    let b = bits c.args.frame.now in
    let width = width_of c.args.wide in
    let le : c.args.count ≤ length b = omega (arith, length_bits c.args.frame.now) in
    let len = c.in_ok-layout.layout.len in
    let places = c.in_ok-layout.ensures.places in
    let at : c.check-end.result ≡ 8 + 8 * width + 9 + 8 * len = omega (arith, c.check-end.ensures.value, ap width_of places.0) in
    let r = right f w c.W-size.result width len _ _ _ b c.W-size.ensures at c.check_before.ensures c.get_bits-check.ensures.value in
    heard_wrong b c.args.count le f w g.met.C.Check.below width c.W-size.result c.W-size.ensures len
    (eqb c.check_before.result c.get_bits-check.result) c.in_ok-layout.ensures.value places.1 r
    (ne_eqb c.check_before.result c.get_bits-check.result c.if-check_before-check.true)

pub returns : goal.returns
returns g c =
    let f = g.C.Check.meaning in
    let w : ℕ = g.C.Check.W in
    let below = g.met.C.Check.below in
    let b = bits c.args.frame.now in
    let n = c.args.count in
    let width = width_of c.args.wide in
    let le : n ≤ length b = omega (arith, length_bits c.args.frame.now) in
    let len = c.in_ok-layout.layout.len in
    let size = c.W-size.result in
    let places = c.in_ok-layout.ensures.places in
    let at : c.check-end.result ≡ 8 + 8 * width + 9 + 8 * len = omega (arith, c.check-end.ensures.value, ap width_of places.0) in
    let own = c.check_before.result in
    let said = c.get_bits-check.result in
    let r = right f w size width len _ own said b c.W-size.ensures at c.check_before.ensures c.get_bits-check.ensures.value in
    let t = eq-eqb own said c.if-check_before-check.false in
    let s = fields_at (width_of c.in_ok-layout.layout.wide) len b in
    let is = ap (λ (v : ℕ). fields_at v len b) (ap width_of places.0) in
    record {
      value = heard_some b n le f w below width size c.W-size.ensures len (eqb own said) c.in_ok-layout.ensures.value places.1 r t s is;
      check =
          heard_check b n le f w below width size c.W-size.ensures len (eqb own said) c.in_ok-layout.ensures.value places.1 r t s is said
          (c.get_bits-check.ensures.value ∙ ap (λ (e : ℕ). number (take size (drop e b))) at);
      places = omega (arith, places.1, ap width_of places.0);
    }
