use Rattle.std.proofs.Common.{◌≡◌, ℕ, Bool, List, ◌+◌, ◌-◌, ◌*◌, cond, ◌++◌, take, reverse, length, sym, ap, ◌∙◌, ap₂, arith}
use lib.Seq.{paste}
use Rattle.std.proofs.lemmas.List.{length-reverse, length-take-le}
use Rattle.checks.specs.Bits.{word, bits}
use Rattle.checks.specs.Places.{length_word, length_bits}
use Rattle.frames.specs.Packet.{preamble}
use Rattle.frames.proofs.Places.{then_put}
use Rattle.frames.proofs.packing.put_front.Goals as goal
use Rattle.frames.proofs.packing.put_front.Goals.{then-bit_at, else-bit_at}

pub returns : goal.returns
returns c =
    let width = c.args.width in
    let hs = c.reverse.new.self in
    let given = reverse (take width c.args.held) in
    let z : width - 0 ≡ width = omega arith in
    let eh : hs ≡ given = c.reverse.ensures.after ∙ ap (λ (n : ℕ). reverse (take n c.args.held)) z in
    let lh : length given ≡ width = length-reverse (take width c.args.held) ∙ length-take-le width c.args.held (omega arith) in
    let pre : c.if-bit_at.preamble ≡ preamble (bits given) =
    elim c.if-bit_at.branch [
      | then-bit_at w ↦ w.preamble-is ∙ ap (λ (b : Bool). cond b 0xAA 0x55) (sym w.if-bit_at.true ∙ c.bit_at.ensures)
      | else-bit_at w ↦ w.preamble-is ∙ ap (λ (b : Bool). cond b 0xAA 0x55) (sym w.if-bit_at.false ∙ c.bit_at.ensures)
    ] ∙ ap (λ (xs : List ℕ). preamble (bits xs)) eh in
    let p = word 8 c.if-bit_at.preamble in
    let l1 : 8 ≡ length p = sym (length_word 8 c.if-bit_at.preamble) in
    let l2 : 8 * length hs ≡ length (bits hs) = sym (length_bits hs) in
    then_put (bits c.args.frame.now) p (bits hs) (bits c.put_bits.new.buf) (bits c.put_bytes.new.buf) 8 (8 * length hs) l1 l2 c.put_bits.ensures c.put_bytes.ensures
    ∙ ap₂ (λ (v n : ℕ). paste (bits c.args.frame.now) 0 (word 8 v ++ bits hs) (8 + 8 * n)) pre (ap length eh ∙ lh)
    ∙ ap (λ (xs : List ℕ). paste (bits c.args.frame.now) 0 (word 8 (preamble (bits given)) ++ bits xs) (8 + 8 * width)) eh
