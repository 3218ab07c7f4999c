use Rattle.std.proofs.Common.{◌≡◌, ℕ, ◌<◌, get_or, [], List, ap, length, rules}
use Rattle.std.proofs.lemmas.List.FromFn.{fill_by_all}
use Rattle.registers.specs.declared.held.Value.{Value}
use Rattle.registers.specs.declared.held.Registers.{Registers}
use Rattle.registers.specs.Address.{address_of}
use Rattle.registers.specs.Table.{entry_at}
use Rattle.registers.specs.File.{initial, at_reset}
use Rattle.registers.specs.declared.register.Register.TheVariants.{Config}
use Rattle.registers.proofs.Agree.{listed}
use Rattle.registers.proofs.held.Registers.reset.Goals as goal

all_reset :
    (held : List Value) → length held ≡ 24 → ((k : ℕ) → k < 24 → get_or held k (record { bytes = [] }) ≡ initial (entry_at k))
    → ◌≡◌ {A = Registers} (record { held = held }) at_reset
all_reset held l each =
    ap (λ (h : List Value). record { held = h }) (fill_by_all (λ k. initial (entry_at k)) held 24 (record { bytes = [] }) l each)

pub returns-clause-value : goal.returns-clause-value
returns-clause-value c =
    let each : (k : ℕ) → k < 24 → get_or c.from_fn.result k (record { bytes = [] }) ≡ initial (entry_at k) =
    λ k h.
    let called = (c.from_fn.ensures.items.at k (record { bytes = [] }) h).2 in
    let e : address_of (get_or c.all-registers.result k Config) ≡ k = rw c.all-registers.ensures (listed k h) in
    let v : get_or c.from_fn.result k (record { bytes = [] }) ≡ initial (entry_at (address_of (get_or c.all-registers.result k Config))) = search rules in
    rw e at v in
    all_reset c.from_fn.result c.from_fn.ensures.items.long each
