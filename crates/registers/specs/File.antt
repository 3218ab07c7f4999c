-- The file of registers: what each register holds.
use Rattle.std.specs.Prelude.{◌≡◌, ℕ, true, false, cond, List, [], ◌++◌, map, length, take, drop, replicate, ◌==◌, ◌≢◌, slice_index, slice_index_or, slice_set}
use Rattle.registers.specs.declared.register.Register.{Register}
use Rattle.registers.specs.declared.register.Register.TheVariants.{Status}
use Rattle.registers.specs.declared.held.Value.{Value}
use Rattle.registers.specs.declared.held.Registers.{Registers}
use Rattle.registers.specs.Address.{address_of}
use Rattle.registers.specs.Table.{Entry, table, size_of, is_read_only, takes}

-- five places, 0 behind the bytes
abbrev pub padded : List ℕ → Value
padded bytes = record { bytes = bytes ++ drop (length bytes) (replicate 5 0) }

-- the five places of a register
abbrev pub places : Registers → Register → List ℕ
places f r = (slice_index_or f.held (address_of r) (record { bytes = [] })).bytes

-- the bytes of a register, the lowest first
abbrev pub value_of : Registers → Register → List ℕ
value_of f r = take (size_of r) (places f r)

abbrev pub byte_of : Registers → Register → ℕ
byte_of f r = slice_index (places f r) 0

-- the file with another value in one register; a value of another size changes nothing
abbrev pub written : Registers → Register → List ℕ → Registers
written f r bytes = cond (length bytes == size_of r) (record { held = slice_set f.held (address_of r) (padded bytes) }) f

-- each register with its bytes at reset
abbrev pub initial : Entry → Value
initial e = padded (replicate e.size e.reset)

abbrev pub at_reset : Registers
at_reset = record { held = map initial table }

-- the register written holds those bytes, and every other one what it held
pub record Holds (before : Registers) (r : Register) (bytes : List ℕ) (after : Registers) : Type 0 where
  pub there : length bytes ≡ size_of r → value_of after r ≡ bytes
  pub elsewhere : (q : Register) → (q ≢ r) → value_of after q ≡ value_of before q

-- each register that is written and then read back holds a value that may be written to it
abbrev pub StartsAllowed : Registers → Type 0
StartsAllowed f = (q : Register) → is_read_only q ≡ false → (q ≢ Status) → takes q (value_of f q) ≡ true
