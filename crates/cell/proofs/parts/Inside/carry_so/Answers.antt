use Rattle.std.proofs.Common.{sym, ap, ◌∙◌, arith}
use Rattle.cell.specs.declared.air.Fate.{Fate}
use Rattle.cell.specs.Calls.{carried_so}
use Rattle.cell.proofs.Alike.{heard_alike}
use Rattle.cell.proofs.parts.Inside.carry_so.Goals as goal

pub returns-in-Changed : goal.returns-in-Changed
returns-in-Changed g c =
    let w = g.C.Check.W in
    let f = g.C.Check.meaning in
    let x = c.args.frame.now in
    let e = c.changed.ensures in
    heard_alike w f x c.changed.result e.from e.count (omega arith) _ c.args.self.now _ _ c.hear_once-in-Changed.ensures e.bits
    ∙ sym (ap (λ (t : Fate). carried_so w f t c.args.self.now x) c.in-Changed.is)
