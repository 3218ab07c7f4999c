-- The refusals of a cell.
use Rattle.std.specs.Prelude.{ℕ, None, Ok, Err, Option, Result}
use Rattle.registers.specs.declared.register.Register.{Register}
use Rattle.commands.specs.declared.refusal.Refusal.{Refusal as UnitRefusal}
use Rattle.commands.specs.Refusals.{numbered}
use Rattle.cell.specs.declared.refusal.Cause.{Cause}
use Rattle.cell.specs.declared.refusal.Cause.TheVariants.{Unit as of_unit, CannotBeMade, NoSuchUnit, AirHoldsFrame, AirEmpty, FateNotAllowed}
use Rattle.cell.specs.declared.refusal.Layer.{Layer}
use Rattle.cell.specs.declared.refusal.Layer.TheVariants.{Unit as unit_layer, Cell as cell_layer}
use Rattle.cell.specs.declared.refusal.Refusal.{Refusal}

-- the number of each cause, and the register that it names
abbrev pub cause_number : Cause → ℕ × Option Register
cause_number (of_unit e) = numbered e
cause_number CannotBeMade = (13, None)
cause_number NoSuchUnit = (14, None)
cause_number AirHoldsFrame = (15, None)
cause_number AirEmpty = (16, None)
cause_number FateNotAllowed = (17, None)

-- whether it is the unit that refuses, or the cell itself
abbrev pub layer_of : Cause → Layer
layer_of (of_unit e) = unit_layer
layer_of CannotBeMade = cell_layer
layer_of NoSuchUnit = cell_layer
layer_of AirHoldsFrame = cell_layer
layer_of AirEmpty = cell_layer
layer_of FateNotAllowed = cell_layer

abbrev pub refusal_of : ℕ → Cause → Refusal
refusal_of u e = record { unit = u; cause = e }

-- what a unit answered, as the cell's answer
abbrev pub of_the_unit : {X : Type 0} → ℕ → Result X UnitRefusal → Result X Refusal
of_the_unit u (Ok x) = Ok x
of_the_unit u (Err e) = Err (refusal_of u (of_unit e))
