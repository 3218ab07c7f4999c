use Rattle.std.proofs.Common.{ap, ◌∙◌, replicate}
use Rattle.bench.specs.Loading.{load_after}
use Rattle.unit.specs.declared.state.State.{State}
use Rattle.unit.specs.Boxing.{boxed}
use Rattle.unit.specs.Ticking.{ce_after}
use Rattle.embed.specs.declared.repeating.units_again.Ticking.{Ticking}
use Rattle.embed.proofs.repeating.units_again.boxed_with.Goals as goal

pub returns : goal.returns
returns c =
    let beside : State → Ticking = λ s. record { state = s; buffer = replicate 42 0; sum = 0 } in
    let loaded = c.load-loaded.ensures.registers ∙ ap (load_after c.args.profile.now) c.new.ensures in
    ap beside (c.ce-ce.ensures.state ∙ ap (ce_after c.args.high) (c.new-2.ensures ∙ ap (boxed 16) loaded))
