use Rattle.std.proofs.Common.{◌-◌, ◌/◌, ◌%◌, ◌^◌, slice_index, sym, ap, ◌∙◌, arith}
use Rattle.std.proofs.lemmas.Nat.{mod_below, pow_pos}
use Rattle.frames.specs.Octets.{number}
use Rattle.frames.proofs.Octets.{number_of_word}
use Rattle.frames.proofs.Words.{ones, get_byte}
use Rattle.frames.proofs.bits.get_within.Goals as goal

pub returns-clause-value : goal.returns-clause-value
returns-clause-value c =
    let xs = c.args.buf.now in
    let i = c.args.at / 8 in
    let j = c.args.at % 8 in
    let n = c.args.count in
    let v = slice_index xs i / 2 ^ (8 - j - n) in
    ones v n (omega arith) ∙ sym (number_of_word n v)
    ∙ ap number (sym (get_byte xs i j c.args.at n (8 - j - n) (omega arith) (omega arith) (omega arith)))

pub returns-clause-below : goal.returns-clause-below
returns-clause-below c =
    let n = c.args.count in
    let v = slice_index c.args.buf.now (c.args.at / 8) / 2 ^ (8 - c.args.at % 8 - n) in
    rw (ones v n (omega arith)) (mod_below v (2 ^ n) (pow_pos n))
