use Rattle.std.proofs.Common.{◌≡◌, ℕ, ◌+◌, ◌-◌, ◌⊎◌, length, take, drop, sym, ap, ◌∙◌, subst, arith}
use Rattle.checks.specs.Bits.{word, bits}
use Rattle.checks.specs.Places.{length_word}
use Rattle.frames.specs.Packet.{covered, preamble, frame_bits, buffer_after}
use Rattle.frames.specs.Calls.{packet_of}
use Rattle.frames.proofs.Lay.{covered_read, close_up}
use Rattle.frames.proofs.packing.pack.Goals as goal

pub returns : goal.returns
returns g c =
    let f = g.C.Check.meaning in
    let w : ℕ = g.C.Check.W in
    let s = packet_of c.args.fields.now in
    let xs = c.put_covered-end.new.frame in
    let n = c.put_covered-end.result in
    let cov : take (n - 8) (drop 8 (bits xs)) ≡ covered s =
    covered_read xs (bits c.args.frame.now) (word 8 (preamble (covered s))) (covered s) n (length_word 8 (preamble (covered s)))
    c.put_covered-end.ensures.count c.put_covered-end.ensures.bits in
    let ev : c.check_before-check.result ≡ f (covered s) = c.check_before-check.ensures ∙ ap f cov in
    let size = c.W-width.result in
    let r = close_up f size s c.args.frame.now c.put_bits-2.new.buf n c.check_before-check.result _ _
    (subst (λ (x : ℕ). (x ≡ 8) ⊎ (x ≡ 16)) (sym c.W-width.ensures) g.met.C.Check.wide)
    c.known_bytes.ensures (λ i. (c.type_inv.frame i).fits) (omega arith) (omega arith) c.put_covered-end.ensures.count
    c.put_covered-end.ensures.small ev c.put_covered-end.ensures.bits c.put_bits.ensures c.put_bits-2.ensures in
    record {
      sound = c.known_fields.ensures;
      packed = (
        omega arith,
        subst (λ (x : ℕ). n + size ≡ length (frame_bits x f s)) c.W-width.ensures r.0,
        subst (λ (x : ℕ). c.put_bits-2.new.buf ≡ buffer_after (frame_bits x f s) c.args.frame.now) c.W-width.ensures r.1,
      );
    }
