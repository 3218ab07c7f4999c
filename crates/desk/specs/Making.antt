-- A cell made of the boxed units.
use Rattle.std.specs.Prelude.{ℕ, List, [], ◌∷◌, ◌++◌, map, drop, length, Some, None, Ok, Err, Option, Result}
use Rattle.unit.specs.declared.state.Boxed.{Boxed as BoxedUnit}
use Rattle.cell.specs.declared.refusal.Cause.TheVariants.{CannotBeMade}
use Rattle.cell.specs.Refusals.{refusal_of}
use Rattle.cell.specs.Making.{states, unit_at_fault, made}
use Rattle.requests.specs.declared.lines.Cannot.{Cannot}
use Rattle.requests.specs.declared.lines.Cannot.TheVariants.{CellIsMade}
use Rattle.requests.specs.declared.lines.Stop.{Stop}
use Rattle.requests.specs.declared.lines.Stop.TheVariants.{Cannot as Unable, Memory}
use Rattle.desk.specs.declared.slot.AnyUnit.TheVariants.{Bench, Boxed}
use Rattle.desk.specs.declared.slot.Watched.{Watched}
use Rattle.desk.specs.declared.slot.Desk.{Desk}
use Rattle.desk.specs.Answers.{Said, done, refused_in_cell}
use Rattle.desk.specs.Counts.{no_counts}
use Rattle.desk.specs.CellCalls.{with_inside}
use Rattle.desk.specs.Slots.{Slot}

-- what is said unless there was no memory
abbrev pub IfSettled : {X : Type 0} → Result X Stop → Type 0 → Type 0
IfSettled (Ok v) p = p
IfSettled (Err (Unable e)) p = p
IfSettled (Err Memory) p = Unit {0}

abbrev pub make_said_by : Option ℕ → Said
make_said_by (Some u) = refused_in_cell (refusal_of u CannotBeMade)
make_said_by None = done

module _ {C : Type 0} where
  -- the boxed units up to the first place without one
  abbrev pub boxed_first : List (Slot C) → List (BoxedUnit C)
  boxed_first [] = []
  boxed_first (None ∷ xs) = []
  boxed_first (Some (Bench b) ∷ xs) = []
  boxed_first (Some (Boxed u) ∷ xs) = u ∷ boxed_first xs

  -- the places without them
  abbrev pub without_boxed : List (Slot C) → List (Slot C)
  without_boxed [] = []
  without_boxed (None ∷ xs) = None ∷ xs
  without_boxed (Some (Bench b) ∷ xs) = Some (Bench b) ∷ xs
  without_boxed (Some (Boxed u) ∷ xs) = None ∷ without_boxed xs

  -- with these units in the first places
  abbrev pub with_boxed : List (BoxedUnit C) → List (Slot C) → List (Slot C)
  with_boxed us xs = map (λ u. Some (Boxed u)) us ++ drop (length us) xs

  -- they move into the cell, or stay where one is at fault
  abbrev pub made_unless : Option ℕ → Desk C → Desk C
  made_unless (Some u) d = d
  made_unless None d = record { slots = without_boxed d.slots; cell = Some (with_inside (made (states (boxed_first d.slots))) no_counts) }

  abbrev pub desk_made_by : Option (Watched C) → ℕ → Desk C → Desk C
  desk_made_by (Some x) w d = d
  desk_made_by None w d = made_unless (unit_at_fault w (states (boxed_first d.slots))) d

  -- for a check of w bits
  abbrev pub desk_made : ℕ → Desk C → Desk C
  desk_made w d = desk_made_by d.cell w d

  abbrev pub desk_make_by : Option (Watched C) → ℕ → Desk C → Result Said Cannot
  desk_make_by (Some x) w d = Err CellIsMade
  desk_make_by None w d = Ok (make_said_by (unit_at_fault w (states (boxed_first d.slots))))

  abbrev pub desk_make_said : ℕ → Desk C → Result Said Cannot
  desk_make_said w d = desk_make_by d.cell w d
