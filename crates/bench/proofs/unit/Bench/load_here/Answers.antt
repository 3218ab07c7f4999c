use Rattle.std.proofs.Common.{◌≡◌, List, ℕ, Some, None, sym, ap, ◌∙◌, subst}
use Rattle.std.specs.Option.{option_map}
use Rattle.registers.specs.Address.{registers}
use Rattle.commands.specs.declared.refusal.Refusal.TheVariants.{NotAllowed}
use Rattle.commands.specs.Refusals.{first_of}
use Rattle.bench.specs.Loading.{field_refusals, fields_written, FillsAll}
use Rattle.bench.proofs.Loads.{refuses_all, loads_all, in_fields}
use Rattle.bench.proofs.unit.Bench.load_here.Goals as goal

pub returns-in-Some : goal.returns-in-Some
returns-in-Some c =
    let p = c.args.profile.now in
    let f = c.args.self.now.registers in
    let r = NotAllowed c.in-Some.register in
    let n : Some r ≡ first_of (field_refusals p registers) =
    subst (λ (b : List ℕ). Some r ≡ first_of (field_refusals b registers)) c.in_ok-profile.ensures.0 c.in-Some.ensures in
    let h = refuses_all p f r (in_fields p f c.in_ok-profile.ensures.1 ∙ sym n) in
    record { answer = h.0; registers = h.1; law = h.2 }

pub returns : goal.returns
returns c =
    let p = c.args.profile.now in
    let f = c.args.self.now.registers in
    let g = c.write_fields.new.self.registers in
    let w : (g ≡ fields_written registers p f) × FillsAll p f g × (first_of (field_refusals p registers) ≡ None) =
    subst (λ (b : List ℕ). (g ≡ fields_written registers b f) × FillsAll b f g × (first_of (field_refusals b registers) ≡ None)) c.in_ok-profile.ensures.0
    (c.write_fields.ensures.after, c.write_fields.ensures.law, sym (ap (option_map (λ r. NotAllowed r)) (sym c.in_default.is) ∙ c.refused_field.ensures)) in
    let h = loads_all p f g w.0 w.1 c.in_ok-profile.ensures.1 w.2 in
    record { answer = h.0; registers = h.1; law = h.2 }
