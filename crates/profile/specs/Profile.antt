-- A vehicle profile: a map of four bytes, then a field for each register that the map names.
use Rattle.std.specs.Prelude.{ℕ, zero, suc, ◌+◌, ◌*◌, ◌/◌, ◌%◌, ◌^◌, Bool, true, cond, not, ◌&&◌, ◌||◌, List, length, take, drop, is_some, Some, None, Ok, Err, Option, Result, ◌==◌, nat_le, slice_index}
use Rattle.std.specs.Borrow.{Bor}
use Rattle.std.specs.Option.{option_map}
use Rattle.registers.specs.Table.{entry_at}
use Rattle.commands.specs.declared.refusal.Refusal.{Refusal}
use Rattle.commands.specs.declared.refusal.Refusal.TheVariants.{Profile}

-- the map, most significant byte first
abbrev pub map_of : List ℕ → ℕ
map_of p = slice_index p 0 * 16777216 + slice_index p 1 * 65536 + slice_index p 2 * 256 + slice_index p 3

-- bit r of a map, 0 or 1; it stands for the register at address r
abbrev pub bit : ℕ → ℕ → ℕ
bit m r = m / 2 ^ r % 2

abbrev pub names : ℕ → ℕ → Bool
names m r = bit m r == 1

-- how many bytes the field of the register at address r has
abbrev pub size_at : ℕ → ℕ
size_at r = (entry_at r).size

-- a profile may name each register that can be written, but STATUS
abbrev pub may_name : ℕ → Bool
may_name r = is_some (entry_at r).takes && not (r == 0x07)

-- below address n the map names only such registers
unfoldable pub names_only : ℕ → ℕ → Bool
names_only m zero = true
names_only m (suc r) = (not (names m r) || may_name r) && names_only m r

-- how many registers below address n the map names
unfoldable pub named_below : ℕ → ℕ → ℕ
named_below m zero = 0
named_below m (suc r) = named_below m r + bit m r

-- where the field of the register at address r begins: after the map and the fields of the lower registers
unfoldable pub place : ℕ → ℕ → ℕ
place m zero = 4
place m (suc r) = place m r + bit m r * size_at r

-- map and length are right: only registers that may be named, and just their fields behind the map
abbrev pub sound : List ℕ → Bool
sound p = nat_le 4 (length p) && (names_only (map_of p) 32 && length p == place (map_of p) 24)

-- what a sound profile answers, and a refusal of any other
abbrev pub if_sound : {X : Type 0} → List ℕ → X → Result X Refusal
if_sound p x = cond (sound p) (Ok x) (Err Profile)

-- the field of the register at address r, where the map names it
abbrev pub field_of : List ℕ → ℕ → Option (List ℕ)
field_of p r = cond (names (map_of p) r) (Some (take (size_at r) (drop (place (map_of p) r) p))) None

-- a part of the caller's bytes, by what it holds
abbrev pub lent : Result (Option (Bor (List ℕ))) Refusal → Result (Option (List ℕ)) Refusal
lent (Ok part) = Ok (option_map (λ x. x.now) part)
lent (Err e) = Err e
