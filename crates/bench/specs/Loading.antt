-- Loading a profile onto a bench unit.
use Rattle.std.specs.Prelude.{◌≡◌, ℕ, Bool, false, not, List, [], ◌∷◌, map, Some, None, Option, ◌≢◌}
use Rattle.registers.specs.declared.register.Register.{Register}
use Rattle.registers.specs.declared.held.Registers.{Registers}
use Rattle.registers.specs.Address.{address_of, registers}
use Rattle.registers.specs.Table.{takes}
use Rattle.registers.specs.File.{value_of, written}
use Rattle.commands.specs.declared.refusal.Refusal.{Refusal}
use Rattle.commands.specs.declared.refusal.Refusal.TheVariants.{Profile, NotAllowed}
use Rattle.commands.specs.Refusals.{first_of, kept_or}
use Rattle.profile.specs.Profile.{sound, field_of}

-- the field that a profile has for a register
abbrev pub field : List ℕ → Register → Option (List ℕ)
field p r = field_of p (address_of r)

-- a field that the register does not take
abbrev pub refuses : Register → Option (List ℕ) → Bool
refuses r None = false
refuses r (Some v) = not (takes r v)

abbrev pub field_refusals : List ℕ → List Register → List (Bool × Refusal)
field_refusals p rs = map (λ r. (refuses r (field p r), NotAllowed r)) rs

-- a wrong map or length first, then the lowest register whose field is not allowed
abbrev pub load_refusal : List ℕ → Option Refusal
load_refusal p = first_of ((not (sound p), Profile) ∷ field_refusals p registers)

-- the file with a field in its register
abbrev pub with_field : Registers → Register → Option (List ℕ) → Registers
with_field f r None = f
with_field f r (Some v) = written f r v

-- the fields written in the order of their registers
abbrev pub fields_written : List Register → List ℕ → Registers → Registers
fields_written [] p f = f
fields_written (r ∷ rs) p f = fields_written rs p (with_field f r (field p r))

abbrev pub load_after : List ℕ → Registers → Registers
load_after p f = kept_or (load_refusal p) f (fields_written registers p f)

-- ---- the same in the subject's words

-- what a register holds after a field for it, if there is one
abbrev pub field_or : Option (List ℕ) → List ℕ → List ℕ
field_or None held = held
field_or (Some v) held = v

-- without a refusal each named register holds its field, and each other what it held; after a refusal all hold what they held
abbrev pub Loaded : List ℕ → Registers → Registers → Type 0
Loaded p before after =
    (load_refusal p ≡ None → (q : Register) → value_of after q ≡ field_or (field p q) (value_of before q))
    × ((e : Refusal) → load_refusal p ≡ Some e → after ≡ before)

-- what the field of one register does: the register holds it, if it takes it, and every other what it held
pub record Fills (before : Registers) (r : Register) (o : Option (List ℕ)) (after : Registers) : Type 0 where
  pub there : refuses r o ≡ false → value_of after r ≡ field_or o (value_of before r)
  pub elsewhere : (q : Register) → (q ≢ r) → value_of after q ≡ value_of before q

-- what all fields do, if each register takes its own
abbrev pub FillsAll : List ℕ → Registers → Registers → Type 0
FillsAll p before after =
    ((q : Register) → refuses q (field p q) ≡ false) → (q : Register) → value_of after q ≡ field_or (field p q) (value_of before q)
