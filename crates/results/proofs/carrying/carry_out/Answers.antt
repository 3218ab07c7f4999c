use Rattle.std.proofs.Common.{◌≡◌, sym, subst}
use Rattle.requests.specs.Lines.{asked}
use Rattle.results.specs.Outcomes.{carried, units_after_request, Kept}
use Rattle.results.proofs.Unchanged.{carried_kept, if_settled}
use Rattle.results.proofs.carrying.carry_out.Goals as goal

pub returns-clause-kept : goal.returns-clause-kept
returns-clause-kept c =
    let us = c.args.units.now in
    let q = asked c.args.line.now in
    if_settled c.done_with.result (c.done_with.new.units ≡ units_after_request us q) (Kept (carried us q) us c.done_with.new.units)
    (λ e. subst (λ x. Kept (carried us q) us x) (sym e) (carried_kept us q)) c.done_with.ensures.units
