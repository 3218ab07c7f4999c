use Rattle.std.proofs.Common.{◌-◌, List, Bool, take, sym, ap, ◌∙◌}
use Rattle.std.proofs.lemmas.List.{take_rest}
use Rattle.checks.specs.Bits.{bits}
use Rattle.frames.proofs.Octets.{bits_drop}
use Rattle.frames.proofs.layout.check_before.Goals as goal

pub returns : goal.returns
returns g c =
    let n = c.args.end - 8 in
    c.number_of.ensures.value
    ∙ ap (λ (s : List Bool). g.C.Check.meaning (take n s)) (ap bits (take_rest c.args.frame.now 1) ∙ sym (bits_drop 1 c.args.frame.now))
