-- The IRQ pins of a cell's units.
use Rattle.std.specs.Prelude.{ℕ, Bool, Option}
use Rattle.std.specs.Option.{option_map}
use Rattle.commands.specs.Status.{irq_of}
use Rattle.unit.specs.declared.state.State.{State}
use Rattle.cell.specs.declared.parts.Inside.{Inside}
use Rattle.cell.specs.Calls.{unit_at}

-- whether the pin of the unit is low, if there is the unit
abbrev pub irq_at : Inside → ℕ → Option Bool
irq_at c u = option_map (λ (s : State). irq_of s.core.flags s.core.config) (unit_at c u)
