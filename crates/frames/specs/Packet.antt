-- What a frame carries, and its bits.
use Rattle.std.specs.Prelude.{◌≡◌, ℕ, ◌+◌, ◌*◌, ◌/◌, ◌<◌, ◌≤◌, Bool, false, cond, ◌&&◌, List, [], ◌∷◌, ◌++◌, reverse, length, take, drop, replicate, Some, None, Option, ◌==◌, nat_eq, nat_le, slice_index, slice_index_or}
use Rattle.checks.specs.Bits.{word, bits}
use Rattle.frames.specs.Octets.{number, octets}

-- what a frame carries; the address is low byte first
pub record Packet : Type 0 where
  pub address : List ℕ
  pub pid : ℕ
  pub no_ack : Bool
  pub payload : List ℕ

abbrev pub Bytes : List ℕ → Type 0
Bytes xs = (i : ℕ) → slice_index xs i < 256

-- a packet that a frame with an address of a given width can carry
pub record Valid (width : ℕ) (p : Packet) : Type 0 where
  pub wide : 3 ≤ width
  pub narrow : width ≤ 5
  pub long : length p.address ≡ width
  pub address : Bytes p.address
  pub pid : p.pid < 4
  pub fits : length p.payload ≤ 32
  pub payload : Bytes p.payload

-- length in 6 bits, packet identity in 2, no-acknowledgement in 1
abbrev pub control : ℕ → ℕ → Bool → List Bool
control len pid no_ack = word 6 len ++ (word 2 pid ++ (no_ack ∷ []))

-- what the check covers: address, high byte first, control and payload
unfoldable pub covered : Packet → List Bool
covered p = bits (reverse p.address) ++ (control (length p.payload) p.pid p.no_ack ++ bits p.payload)

-- a check of w bits that means f follows it
abbrev pub with_check : ℕ → (List Bool → ℕ) → Packet → List Bool
with_check w f p = covered p ++ word w (f (covered p))

-- AA before a first bit 1, else 55
abbrev pub preamble : List Bool → ℕ
preamble xs = cond (slice_index_or xs 0 false) 0xAA 0x55

abbrev pub frame_bits : ℕ → (List Bool → ℕ) → Packet → List Bool
frame_bits w f p = word 8 (preamble (covered p)) ++ with_check w f p

-- bytes that begin with bits, the spare bits of the last byte 0; the later bytes stay
abbrev pub buffer_after : List Bool → List ℕ → List ℕ
buffer_after xs before = octets ((length xs + 7) / 8) (xs ++ replicate 7 false) ++ drop ((length xs + 7) / 8) before

-- ---- reading, of a bit string with its preamble

-- the payload's length in its control bits
abbrev pub length_field : ℕ → List Bool → ℕ
length_field width xs = number (take 6 (drop (8 + 8 * width) xs))

-- the bit count fits the length
abbrev pub count_fits : ℕ → ℕ → List Bool → Bool
count_fits w width xs =
    (nat_le 3 width && nat_le width 5)
    && (nat_le (length_field width xs) 32 && length xs == 8 + 8 * width + 9 + 8 * length_field width xs + w)

-- the bits before the last w have these for their check
abbrev pub check_right : ℕ → (List Bool → ℕ) → ℕ → List Bool → Bool
check_right w f width xs =
    nat_eq (f (take (8 * width + 9 + 8 * length_field width xs) (drop 8 xs)))
    (number (drop (8 + 8 * width + 9 + 8 * length_field width xs) xs))

-- what stands in the places of address, packet identity, no-acknowledgement and a payload of some length
abbrev pub fields_at : ℕ → ℕ → List Bool → Packet
fields_at width len xs = record {
  address = reverse (octets width (drop 8 xs));
  pid = number (take 2 (drop (8 + 8 * width + 6) xs));
  no_ack = slice_index_or xs (8 + 8 * width + 8) false;
  payload = octets len (drop (8 + 8 * width + 9) xs);
}

abbrev pub fields_read : ℕ → List Bool → Packet
fields_read width xs = fields_at width (length_field width xs) xs

unfoldable pub reading : ℕ → (List Bool → ℕ) → ℕ → List Bool → Option Packet
reading w f width xs = cond (count_fits w width xs && check_right w f width xs) (Some (fields_read width xs)) None
