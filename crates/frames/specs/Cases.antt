-- A small table of worked cases, and the one fact about it: each holds by the definitions.
use Rattle.std.specs.Prelude.{◌≡◌, ℕ, ◌+◌, ◌/◌, Bool, true, false, List, [], ◌∷◌, length}
use Rattle.checks.specs.Crc.{crc8, crc16}
use Rattle.frames.specs.Packet.{Packet, control, frame_bits}

pub data Case : Type 0 where
  -- a frame with an address, a payload and a check of these widths has so many bits, which fill so many bytes
  frame_size : (address payload check bits bytes : ℕ) → Case
  -- the nine control bits of a length, a packet identity and a no-acknowledgement bit
  control_bits : (length pid : ℕ) (no_ack : Bool) → List Bool → Case
  -- the two checks of one bit
  check_07 : Bool → ℕ → Case
  check_1021 : Bool → ℕ → Case

abbrev pub Holds : Case → Type 0
Holds (frame_size address payload check bits bytes) =
    (f : List Bool → ℕ) (p : Packet) → length p.address ≡ address → length p.payload ≡ payload
    → (length (frame_bits check f p) ≡ bits) × ((bits + 7) / 8 ≡ bytes)
Holds (control_bits length pid no_ack bits) = control length pid no_ack ≡ bits
Holds (check_07 bit value) = crc8 (bit ∷ []) ≡ value
Holds (check_1021 bit value) = crc16 (bit ∷ []) ≡ value

abbrev pub cases : List Case
cases =
    frame_size 5 32 16 329 42
    ∷ control_bits 4 1 false (false ∷ false ∷ false ∷ true ∷ false ∷ false ∷ false ∷ true ∷ false ∷ [])
    ∷ check_07 true 0xFE
    ∷ check_07 false 0xF9
    ∷ check_1021 true 0xFFFE
    ∷ check_1021 false 0xEFDF
    ∷ []

abbrev pub All : (Case → Type 0) → List Case → Type 0
All P [] = Unit {0}
All P (x ∷ xs) = P x × All P xs
