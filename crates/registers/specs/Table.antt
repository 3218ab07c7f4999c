-- The table of registers.
use Rattle.std.specs.Prelude.{ℕ, Bool, true, false, not, ◌&&◌, List, [], ◌∷◌, length, is_some, Some, None, codes, Option, ◌==◌, nat_le, slice_index, slice_index_or}
use Rattle.registers.specs.declared.register.Register.{Register}
use Rattle.registers.specs.Address.{address_of}
use Rattle.registers.specs.Bits.{bit}

-- which values a register takes: all of them
abbrev pub all : ℕ → Bool
all v = true

-- those in which these bits are clear
abbrev pub clear : List ℕ → ℕ → Bool
clear [] v = true
clear (k ∷ ks) v = not (bit k v) && clear ks v

-- those from the lowest to the highest
abbrev pub within : ℕ → ℕ → ℕ → Bool
within low high v = nat_le low v && nat_le v high

-- of the two rate bits, 5 for 250 kbps and 3 for 2 Mbps, at most one stands
abbrev pub one_rate : ℕ → Bool
one_rate v = clear (7 ∷ (6 ∷ (4 ∷ []))) v && not (bit 5 v && bit 3 v)

-- its name, how many bytes it holds, each of them at reset, and the values that it takes: none at all if it is read only
pub record Entry : Type 0 where
  pub name : List ℕ
  pub size : ℕ
  pub reset : ℕ
  pub takes : Option (ℕ → Bool)

abbrev pub entry : List ℕ → ℕ → ℕ → Option (ℕ → Bool) → Entry
entry n s v t = record { name = n; size = s; reset = v; takes = t }

-- by address: a line for each of 00 to 17 (hexadecimal)
abbrev pub table : List Entry
table =
    entry (codes "CONFIG") 1 0x08 (Some (clear (7 ∷ [])))
    ∷ entry (codes "EN_AA") 1 0x3F (Some (clear (7 ∷ (6 ∷ []))))
    ∷ entry (codes "EN_RXADDR") 1 0x03 (Some (clear (7 ∷ (6 ∷ []))))
    ∷ entry (codes "SETUP_AW") 1 0x03 (Some (within 0x01 0x03))
    ∷ entry (codes "SETUP_RETR") 1 0x03 (Some all)
    ∷ entry (codes "RF_CH") 1 0x02 (Some (within 0x00 0x7D))
    ∷ entry (codes "RF_SETUP") 1 0x0E (Some one_rate)
    ∷ entry (codes "STATUS") 1 0x0E (Some (clear (7 ∷ (3 ∷ (2 ∷ (1 ∷ (0 ∷ [])))))))
    ∷ entry (codes "OBSERVE_TX") 1 0x00 None
    ∷ entry (codes "RESERVED") 1 0x00 None
    ∷ entry (codes "RX_ADDR_P0") 5 0xE7 (Some all)
    ∷ entry (codes "RX_ADDR_P1") 5 0xC2 (Some all)
    ∷ entry (codes "RX_ADDR_P2") 1 0xC3 (Some all)
    ∷ entry (codes "RX_ADDR_P3") 1 0xC4 (Some all)
    ∷ entry (codes "RX_ADDR_P4") 1 0xC5 (Some all)
    ∷ entry (codes "RX_ADDR_P5") 1 0xC6 (Some all)
    ∷ entry (codes "TX_ADDR") 5 0xE7 (Some all)
    ∷ entry (codes "RX_PW_P0") 1 0x00 (Some (within 0x00 0x20))
    ∷ entry (codes "RX_PW_P1") 1 0x00 (Some (within 0x00 0x20))
    ∷ entry (codes "RX_PW_P2") 1 0x00 (Some (within 0x00 0x20))
    ∷ entry (codes "RX_PW_P3") 1 0x00 (Some (within 0x00 0x20))
    ∷ entry (codes "RX_PW_P4") 1 0x00 (Some (within 0x00 0x20))
    ∷ entry (codes "RX_PW_P5") 1 0x00 (Some (within 0x00 0x20))
    ∷ entry (codes "FIFO_STATUS") 1 0x11 None
    ∷ []

-- the entry at an address; past the last register an empty one
abbrev pub entry_at : ℕ → Entry
entry_at n = slice_index_or table n (entry [] 0 0 None)

abbrev pub name_of : Register → List ℕ
name_of r = (entry_at (address_of r)).name

abbrev pub size_of : Register → ℕ
size_of r = (entry_at (address_of r)).size

abbrev pub reset_of : Register → ℕ
reset_of r = (entry_at (address_of r)).reset

abbrev pub is_read_only : Register → Bool
is_read_only r = not (is_some (entry_at (address_of r)).takes)

abbrev pub tested : Option (ℕ → Bool) → ℕ → Bool
tested None v = false
tested (Some p) v = p v

-- whether the register takes a value whose lowest byte is v
abbrev pub takes_low : Register → ℕ → Bool
takes_low r v = tested (entry_at (address_of r)).takes v

-- a value that may be written: as many bytes as the register holds, and the lowest one allowed (of five bytes all values are)
abbrev pub takes : Register → List ℕ → Bool
takes r bytes = length bytes == size_of r && takes_low r (slice_index bytes 0)
