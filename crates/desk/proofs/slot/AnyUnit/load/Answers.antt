use Rattle.std.proofs.Common.{Some, Ok, sym, ap, ◌∙◌}
use Rattle.bench.specs.Loading.{load_after}
use Rattle.desk.specs.declared.slot.AnyUnit.TheVariants.{Bench}
use Rattle.desk.specs.Answers.{result_said}
use Rattle.desk.specs.Slots.{loaded, load_said}
use Rattle.desk.proofs.Bench.{is_bench}
use Rattle.desk.proofs.slot.AnyUnit.load.Goals as goal

pub returns-clause-after : goal.returns-clause-after
returns-clause-after g c =
    let p = c.args.profile.now in
    ap (λ f. Some (Bench (record { registers = f }))) (c.load-result.ensures.registers ∙ ap (λ b. load_after p b.registers) c.replace.ensures.value)
    ∙ sym (ap (λ u. loaded p (Some u)) (is_bench c.args.self.now _ c.in_ok-unit.ensures.value))

pub returns-clause-answer : goal.returns-clause-answer
returns-clause-answer g c =
    ap (λ u. load_said c.args.profile.now (Some u)) (is_bench c.args.self.now _ c.in_ok-unit.ensures.value)
    ∙ ap Ok (sym (c.done.ensures ∙ ap result_said c.load-result.ensures.answer))
