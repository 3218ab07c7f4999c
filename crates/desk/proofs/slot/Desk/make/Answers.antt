use Rattle.std.proofs.Common.{◌≡◌, false, is_some, Some, length, sym, ap, ◌∙◌, arith, rules}
use Rattle.cell.specs.Making.{states, unit_at_fault, made}
use Rattle.desk.specs.Making.{boxed_first, without_boxed, with_boxed}
use Rattle.desk.proofs.BoxedFirst.{few_enough, as_before, none_of, cell_made, unmade}
use Rattle.desk.proofs.slot.Desk.make.Goals as goal

pub put_back-requires : goal.put_back-requires
put_back-requires g c =
    let s = c.args.self.now.slots in
    let back = ap (λ v. length v.items) c.in-Err.ensures.back in
    let units = ap length c.in_ok-units.ensures.units in
    let left = ap length c.in_ok-units.ensures.left in
    omega (arith, back, units, left, few_enough s)

pub returns-in-Ok-clause-after : goal.returns-in-Ok-clause-after
returns-in-Ok-clause-after g c =
    let w = g.C.Check.W in
    let d = c.args.self.now in
    let units = c.in_ok-units.ensures.units in
    let quiet : is_some d.cell ≡ false = search rules in
    let fits = ap (λ us. unit_at_fault w (states us)) (sym units) ∙ c.in-Ok.ensures.fits in
    let is = c.in-Ok.ensures.made ∙ ap (λ us. made (states us)) units in
    ap (λ xs. record { slots = xs; cell = Some (record { cell = c.in-Ok.cell; counts = c.none.result }) }) c.in_ok-units.ensures.left
    ∙ ap (λ n. record { slots = without_boxed d.slots; cell = Some (record { cell = c.in-Ok.cell; counts = n }) }) c.none.ensures
    ∙ cell_made w d c.in-Ok.cell.inside (none_of d.cell quiet) fits is

pub returns-in-Err-clause-after : goal.returns-in-Err-clause-after
returns-in-Err-clause-after g c =
    let w = g.C.Check.W in
    let d = c.args.self.now in
    let units = c.in_ok-units.ensures.units in
    let quiet : is_some d.cell ≡ false = search rules in
    let fault = ap (λ us. unit_at_fault w (states us)) (sym units) ∙ c.in-Err.ensures.fault in
    let back = ap (λ v. v.items) c.in-Err.ensures.back ∙ units in
    let same = c.put_back.ensures ∙ ap (λ us. with_boxed us c.take_boxed.new.slots) back ∙ ap (λ xs. with_boxed (boxed_first d.slots) xs) c.in_ok-units.ensures.left ∙ as_before d.slots in
    ap (λ xs. record { slots = xs; cell = d.cell }) same ∙ sym (unmade w d _ (none_of d.cell quiet) fault)
