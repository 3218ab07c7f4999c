use Rattle.std.proofs.Common.{◌≡◌, ℕ, ◌+◌, ◌*◌, ◌++◌, List, reverse, length, sym, refl, ap, ◌∙◌, ap₂, arith}
use lib.Seq.{paste}
use Rattle.checks.specs.Bits.{word, bits}
use Rattle.frames.specs.Packet.{covered, preamble}
use Rattle.frames.specs.Calls.{packet_of, width_of}
use Rattle.std.proofs.lemmas.List.{length-reverse, length-take-le}
use Rattle.frames.proofs.Widths.{width_low, width_high}
use Rattle.frames.proofs.Lay.{length_covered, preamble_from, put_all}
use Rattle.frames.proofs.packing.put_covered.Goals as goal

pub returns : goal.returns
returns c =
    let f = c.args.fields.now in
    let s = packet_of f in
    let width = width_of f.address.wide in
    let len = f.payload.len in
    let d = bits c.args.frame.now in
    let b1 = bits c.put_address.new.frame in
    let b2 = bits c.put_bits.new.buf in
    let ep = c.bytes-payload.ensures.value in
    let la : length s.address ≡ width = length-take-le width f.address.held (omega (arith, width_high f.address.wide)) in
    let lp : length s.payload ≡ len = length-take-le len f.payload.held (omega (arith, f.payload.fits)) in
    let wide : width_of c.of-layout.result.wide ≡ width = ap width_of c.of-layout.ensures.wide in
    let place : c.control.result ≡ 8 + 8 * width = omega (arith, c.control.ensures.value, wide) in
    let end : c.check.result ≡ 8 + 8 * width + 9 + 8 * len = omega (arith, c.check.ensures.value, wide, c.of-layout.ensures.len) in
    let pre : preamble (bits (reverse s.address)) ≡ preamble (covered s) =
    sym (preamble_from s (reverse s.address) refl (omega (arith, length-reverse s.address, la, width_low f.address.wide))) in
    let v = c.length_and_pid-control.result in
    let flag = c.from-no_ack.result in
    let behind : 2 + c.bytes.result ≡ 2 + width = omega (arith, c.bytes.ensures.value, wide) in
    let f2 = c.put_bits.ensures ∙ ap (λ (at : ℕ). paste b1 at (word 8 v) 8) place in
    let f3 =
    c.put_behind.ensures ∙ ap₂ (λ (at : ℕ) (xs : List ℕ). paste b2 (8 * at) (word 1 flag ++ bits xs) (1 + 8 * length xs)) behind ep
    ∙ ap (λ (n : ℕ). paste b2 (8 * (2 + width)) (word 1 flag ++ bits s.payload) (1 + 8 * n)) lp in
    record {
      count = end ∙ omega (arith, length_covered s, la, lp);
      small = omega arith;
      bits =
          put_all s (preamble (bits (reverse s.address))) width v flag len d b1 b2 (bits c.put_behind.new.buf) la lp
          (c.length_and_pid-control.ensures ∙ ap (λ (n : ℕ). word 6 n ++ word 2 s.pid) (sym lp)) c.from-no_ack.ensures c.put_address.ensures f2 f3
          ∙ ap₂ (λ (x n : ℕ). paste d 0 (word 8 x ++ covered s) n) pre (sym end);
    }
