use Rattle.std.proofs.Common.{sym, subst}
use Rattle.requests.specs.Lines.{asked_of}
use Rattle.desk.specs.Desks.{units_said, Elsewhere, KeptUnlessDone}
use Rattle.desk.proofs.Kept.{units_kept, elsewhere}
use Rattle.desk.proofs.slot.Units.carry_out.Goals as goal

pub returns-clause-elsewhere : goal.returns-clause-elsewhere
returns-clause-elsewhere c =
    subst (λ x. Elsewhere c.args.self.now c.args.label.place x) (sym c.line_passed_on.ensures.after) (elsewhere c.args.self.now c.args.label.place (asked_of c.args.line.now))

pub returns-clause-kept : goal.returns-clause-kept
returns-clause-kept c =
    let us = c.args.self.now in
    let u = c.args.label.place in
    let q = asked_of c.args.line.now in
    subst (λ x. KeptUnlessDone (units_said us u q) us x) (sym c.line_passed_on.ensures.after) (units_kept us u q)
