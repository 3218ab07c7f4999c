-- What a row of the program's table says.
use Rattle.std.specs.Prelude.{◌≡◌, ℕ, zero, suc, ◌<◌, Bool, true, false, not, ◌&&◌, List, [], ◌∷◌, is_some, ◌==◌, bit_and, nat_le}
use Rattle.registers.specs.declared.row.Allowed.{Allowed}
use Rattle.registers.specs.declared.row.Allowed.TheVariants.{ReadOnly, All, Clear, Range, RfSetup}
use Rattle.registers.specs.declared.row.Row.{Row}
use Rattle.registers.specs.Address.{address_of}
use Rattle.registers.specs.Table.{Entry, tested}

abbrev pub permits : Allowed → ℕ → Bool
permits ReadOnly v = false
permits All v = true
permits (Clear bits) v = bit_and v bits == 0
permits (Range low high) v = nat_le low v && nat_le v high
permits RfSetup v = bit_and v 0xD0 == 0 && not (bit_and v 0x28 == 0x28)

abbrev pub writable : Allowed → Bool
writable ReadOnly = false
writable All = true
writable (Clear bits) = true
writable (Range low high) = true
writable RfSetup = true

-- the row says of the register at the address what the table's entry says
pub record Tells (address : ℕ) (row : Row) (e : Entry) : Type 0 where
  pub register : address_of row.register ≡ address
  pub name : row.name.now ≡ e.name
  pub size : row.size ≡ e.size
  pub reset : row.reset ≡ e.reset
  pub written : writable row.allowed ≡ is_some e.takes
  pub takes : (v : ℕ) → v < 256 → permits row.allowed v ≡ tested e.takes v

-- The same as a test that computes.
abbrev pub same : Bool → Bool → Bool
same true b = b
same false b = not b

abbrev pub equal : List ℕ → List ℕ → Bool
equal [] [] = true
equal [] (y ∷ ys) = false
equal (x ∷ xs) [] = false
equal (x ∷ xs) (y ∷ ys) = x == y && equal xs ys

-- the test passes at each number below n
abbrev pub below : ℕ → (ℕ → Bool) → Bool
below zero f = true
below (suc n) f = f n && below n f

abbrev pub agrees : ℕ → Row → Entry → Bool
agrees k r e =
    (address_of r.register == k)
    && (equal r.name.now e.name
    && (r.size == e.size
    && (r.reset == e.reset
    && (same (writable r.allowed) (is_some e.takes)
    && below 256 (λ v. same (permits r.allowed v) (tested e.takes v))))))

-- the rows agree with the entries, one by one, from the address k on
abbrev pub agree : ℕ → List Row → List Entry → Bool
agree k [] [] = true
agree k [] (e ∷ es) = false
agree k (r ∷ rs) [] = false
agree k (r ∷ rs) (e ∷ es) = agrees k r e && agree (suc k) rs es
