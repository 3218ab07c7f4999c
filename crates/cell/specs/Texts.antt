-- What a refusal of a cell says in words.
use Rattle.std.specs.Prelude.{ℕ, List, ◌++◌, codes}
use Rattle.commands.specs.Refusals.{numbered}
use Rattle.commands.specs.Texts.{reason, register_name}
use Rattle.cell.specs.declared.refusal.Cause.{Cause}
use Rattle.cell.specs.declared.refusal.Cause.TheVariants.{Unit as of_unit, CannotBeMade, NoSuchUnit, AirHoldsFrame, AirEmpty, FateNotAllowed}

-- why the call is refused; a unit's own refusal has the unit's words
abbrev pub cause_text : Cause → List ℕ
cause_text (of_unit e) = reason e ++ register_name (numbered e).1
cause_text CannotBeMade = codes "the cell cannot be made"
cause_text NoSuchUnit = codes "no such unit"
cause_text AirHoldsFrame = codes "the air holds a frame"
cause_text AirEmpty = codes "the air is empty"
cause_text FateNotAllowed = codes "the fate is not allowed"
