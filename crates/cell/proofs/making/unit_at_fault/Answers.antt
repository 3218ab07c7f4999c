use Rattle.std.proofs.Common.{Some, sym, ◌∙◌}
use Rattle.std.proofs.lemmas.Bool.{cond-true, cond-false}
use Rattle.cell.proofs.Offered.{first_unit}
use Rattle.cell.proofs.making.unit_at_fault.Goals as goal

pub returns-then-fits_as_receiver : goal.returns-then-fits_as_receiver
returns-then-fits_as_receiver g c =
    let e = first_unit g.C.Check.W c.args.units.now c.receiver-item.result c.in-len1-up.len_at_least c.receiver-item.is in
    c.sender_at_fault.ensures ∙ sym (e ∙ cond-true _ _ (Some 0) (sym c.fits_as_receiver.ensures ∙ c.if-fits_as_receiver.true))

pub returns-else-fits_as_receiver : goal.returns-else-fits_as_receiver
returns-else-fits_as_receiver g c =
    let e = first_unit g.C.Check.W c.args.units.now c.receiver-item.result c.in-len1-up.len_at_least c.receiver-item.is in
    sym (e ∙ cond-false _ _ (Some 0) (sym c.fits_as_receiver.ensures ∙ c.if-fits_as_receiver.false))
