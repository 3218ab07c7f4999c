use Rattle.std.proofs.Common.{List, ◌≡◌, ℕ, ◌+◌, ◌-◌, ◌*◌, false, length, get_or, take, drop, refl, ap, ◌∙◌, subst, ap₂, arith}
use Rattle.std.proofs.lemmas.List.{take_at, length-take-le}
use Rattle.checks.specs.Bits.{bits}
use Rattle.frames.specs.Octets.{number, octets}
use Rattle.frames.specs.Calls.{width_of, pid_number, PidOrNone}
use Rattle.frames.proofs.Octets.{length_octets}
use Rattle.frames.proofs.Parse.{same}
use Rattle.frames.proofs.Zeros.{zeros_behind}
use Rattle.frames.proofs.reading.fields_at.Goals as goal

pub returns : goal.returns
returns c =
    let b = bits c.args.frame.now in
    let width = width_of c.args.layout.wide in
    let len = c.args.layout.len in
    let control = c.control-control.ensures.value in
    let room : (z : List ℕ) → length z ≡ 32 → length (take (len - 0) z) ≡ len =
    λ z e. length-take-le (len - 0) z (omega (arith, e, c.args.layout.fits)) ∙ omega arith in
    let ep : c.get_octets.new.out ≡ octets len (drop (8 + 8 * width + 9) b) =
    c.get_octets.ensures ∙ ap₂ (λ (n at : ℕ). octets n (drop at b)) (room _ refl) c.payload.ensures.value in
    let pid : pid_number c.unwrap-pid.result ≡ c.get_bits.result =
    subst (PidOrNone c.get_bits.result) c.unwrap-pid.ensures c.try_from.ensures in
    let lp : length c.get_octets.new.out ≡ len = ap length ep ∙ length_octets len (drop (8 + 8 * width + 9) b) in
    record {
      value =
          same c.address_at.ensures
          (pid ∙ c.get_bits.ensures.value ∙ ap (λ (at : ℕ). number (take 2 (drop (at + 6) b))) control)
          (c.bit_at.ensures ∙ ap (λ (at : ℕ). get_or b (at + 8) false) control)
          (take_at c.get_octets.new.out _ len lp ∙ ep);
      zeros = zeros_behind c.get_octets.new.out len (len - 0) _ lp (omega arith) _ refl;
    }
