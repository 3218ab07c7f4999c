use Rattle.std.proofs.Common.{◌≡◌, ℕ, ◌<◌, get_or, Some, rules}
use Rattle.std.proofs.lemmas.List.FromFn.{fill_by_all}
use Rattle.std.proofs.lemmas.Option.{slice_get-get_or}
use Rattle.registers.specs.Address.{registers, register_at}
use Rattle.registers.specs.declared.register.Register.TheVariants.{Config}
use Rattle.registers.proofs.Agree.{row_register}
use Rattle.registers.proofs.register.Register.all.Goals as goal

pub returns : goal.returns
returns c =
    let each : (i : ℕ) → i < 24 → get_or c.from_fn.result i Config ≡ get_or registers i Config =
    λ i h.
    let called = (c.from_fn.ensures.items.at i Config h).2 in
    let there = slice_get-get_or registers i Config h in
    let here : Some (get_or c.from_fn.result i Config) ≡ register_at i = search (rules, row_register) in
    cc in
    fill_by_all (λ k. get_or registers k Config) c.from_fn.result 24 Config c.from_fn.ensures.items.long each
