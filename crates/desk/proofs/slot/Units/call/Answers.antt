use Rattle.std.proofs.Common.{sym, subst}
use Rattle.requests.specs.Lines.{called}
use Rattle.desk.specs.Desks.{units_answer, Elsewhere, KeptUnlessDone}
use Rattle.desk.proofs.Kept.{units_called_kept, called_elsewhere}
use Rattle.desk.proofs.slot.Units.call.Goals as goal

pub returns-clause-elsewhere : goal.returns-clause-elsewhere
returns-clause-elsewhere c =
    subst (λ x. Elsewhere c.args.self.now c.args.unit x) (sym c.call_passed_on.ensures.after) (called_elsewhere c.args.self.now c.args.unit (called c.args.call.now))

pub returns-clause-kept : goal.returns-clause-kept
returns-clause-kept c =
    let us = c.args.self.now in
    let u = c.args.unit in
    let q = called c.args.call.now in
    subst (λ x. KeptUnlessDone (units_answer us u q) us x) (sym c.call_passed_on.ensures.after) (units_called_kept us u q)
