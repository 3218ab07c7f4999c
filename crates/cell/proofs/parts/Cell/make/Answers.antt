use Rattle.std.proofs.Common.{◌≡◌, ◌∙◌, None, sym}
use Rattle.std.proofs.lemmas.List.{length-map}
use Rattle.cell.specs.Making.{unit_at_fault, states}
use Rattle.cell.proofs.Offered.{at_most_7}
use Rattle.cell.proofs.parts.Cell.make.Goals as goal

pub places_of-requires : goal.places_of-requires
places_of-requires g c =
    let w = g.C.Check.W in
    let us = c.args.units.items in
    let none : unit_at_fault w (states us) ≡ None = rw (← c.deref.ensures.value) (sym c.unit_at_fault.ensures ∙ c.in_default.is) in
    rw length-map at (at_most_7 w (states us) none)
