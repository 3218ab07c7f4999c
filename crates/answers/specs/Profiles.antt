-- A profile explained register by register.
use Rattle.std.specs.Prelude.{ℕ, List, [], ◌∷◌, ◌++◌, length, drop, Some, None, Ok, Err, codes, Option, Result}
use Rattle.std.specs.List.{flat_map}
use Rattle.registers.specs.declared.register.Register.{Register}
use Rattle.registers.specs.Address.{address_of, registers}
use Rattle.registers.specs.Table.{name_of}
use Rattle.commands.specs.declared.refusal.Refusal.{Refusal}
use Rattle.profile.specs.Profile.{if_sound, field_of}
use Rattle.words.specs.Numbers.{bytes_shown, digits_shown}

-- the column of the names is so wide
abbrev pub blanks : List ℕ
blanks = codes "           "

-- address, name and bytes
abbrev pub register_row : Register → List ℕ → List ℕ
register_row r bytes =
    codes "     " ++ (digits_shown (address_of r ∷ []) ++ (codes " " ++ (name_of r ++ (drop (length (name_of r)) blanks ++ (bytes_shown bytes ++ codes "\n")))))

abbrev pub row_by : Register → Result (Option (List ℕ)) Refusal → List ℕ
row_by r (Ok (Some bytes)) = register_row r bytes
row_by r (Ok None) = []
row_by r (Err e) = []

-- what a sound profile has for the register
abbrev pub row_of : List ℕ → Register → List ℕ
row_of p r = row_by r (if_sound p (field_of p (address_of r)))

abbrev pub rows_of : List ℕ → List Register → List ℕ
rows_of p rs = flat_map (row_of p) rs

-- by ascending address
abbrev pub profile_rows : List ℕ → List ℕ
profile_rows p = rows_of p registers
