use Rattle.std.proofs.Common.{Some, sym, ap, ◌∙◌}
use Rattle.unit.specs.Boxing.{boxed}
use Rattle.desk.specs.declared.slot.AnyUnit.TheVariants.{Boxed}
use Rattle.desk.specs.Slots.{in_box}
use Rattle.desk.proofs.Bench.{is_bench}
use Rattle.desk.proofs.slot.AnyUnit.close.Goals as goal

pub returns-clause-after : goal.returns-clause-after
returns-clause-after g c =
    ap (λ s. Some (Boxed (record { state = s; kind = record {} }))) (c.new-2.ensures ∙ ap (λ b. boxed g.C.Check.W b.registers) c.replace-unit.ensures.value)
    ∙ sym (ap (λ u. in_box g.C.Check.W (Some u)) (is_bench c.args.self.now _ c.in_ok-bench.ensures.value))
