-- A frame changed on its way.
use Rattle.std.specs.Prelude.{◌≡◌, ℕ, ◌-◌, ◌%◌, ◌^◌, ◌≤◌, Bool, ◌⊎◌, List, [], ◌∷◌, ◌++◌, length, take, drop, Some, None}
use Rattle.checks.specs.Bits.{word}
use Rattle.checks.specs.Crc.{differs}
use Rattle.frames.specs.Packet.{Packet, Valid, frame_bits, reading}

-- exclusive or, bit by bit; what passes the end of the string is left out
unfoldable pub flip : List Bool → List Bool → List Bool
flip [] [] = []
flip [] (y ∷ ys) = []
flip (x ∷ xs) [] = x ∷ xs
flip (x ∷ xs) (y ∷ ys) = differs x y ∷ flip xs ys

-- t with the pattern ys combined in from a place on
abbrev pub changed : List Bool → ℕ → List Bool → List Bool
changed t start ys = take start t ++ flip (drop start t) ys

-- t came in place of the frame of p: past the preamble it is that frame, and is read as p; or it is read as nothing, at every address width
abbrev pub UnharmedOrDropped : ℕ → (List Bool → ℕ) → ℕ → Packet → List Bool → Type 0
UnharmedOrDropped w f width p t =
    ((drop 8 t ≡ drop 8 (frame_bits w f p)) × (reading w f width t ≡ Some p)) ⊎ ((v : ℕ) → reading w f v t ≡ None)

-- so it is after each change within w consecutive bits
abbrev pub DamageShows : ℕ → (List Bool → ℕ) → Type 0
DamageShows w f =
    (width : ℕ) (p : Packet) (start : ℕ) (ys : List Bool) → Valid width p → length ys ≤ w
    → UnharmedOrDropped w f width p (changed (frame_bits w f p) start ys)

-- and after each change by a pattern of 16 bits of which only the top w may stand
abbrev pub PatternShows : ℕ → (List Bool → ℕ) → Type 0
PatternShows w f =
    (width : ℕ) (p : Packet) (start pattern : ℕ) → Valid width p → pattern % 2 ^ (16 - w) ≡ 0
    → UnharmedOrDropped w f width p (changed (frame_bits w f p) start (word 16 pattern))
