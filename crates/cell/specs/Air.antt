-- The air between the units, and what becomes of the frame on it.
use Rattle.std.specs.Prelude.{ℕ, suc, ◌-◌, ◌%◌, ◌^◌, Bool, true, false, cond, not, ◌&&◌, List, [], ◌∷◌, length, take, replicate, Some, None, Option, ◌==◌, nat_lt}
use Rattle.checks.specs.Bits.{word, bits}
use Rattle.frames.specs.Packet.{buffer_after}
use Rattle.frames.specs.Damage.{changed}
use Rattle.cell.specs.declared.air.Frame.{Frame}
use Rattle.cell.specs.declared.air.Fate.{Fate}
use Rattle.cell.specs.declared.air.Fate.TheVariants.{Lost, Heard, HeardTwice, Changed}

-- ---- frames on the air

-- the frame of some bits, sent by a unit
abbrev pub frame_of : ℕ → List Bool → Frame
frame_of from xs = record { from = from; count = length xs; bytes = buffer_after xs (replicate 42 0) }

-- the bits of a frame
abbrev pub bits_on : Frame → List Bool
bits_on x = take x.count (bits x.bytes)

-- what is on the air after a sending or an answer: no bits are no frame
abbrev pub air_of : ℕ → List Bool → Option Frame
air_of from xs = cond (length xs == 0) None (Some (frame_of from xs))

-- ---- fates

-- the fates by their numbers
abbrev pub fate_of : ℕ → ℕ → ℕ → Option Fate
fate_of number start pattern =
    cond (number == 0) (Some Lost)
    (cond (number == 1) (Some Heard)
    (cond (number == 2) (Some HeardTwice) (cond (number == 3) (Some (Changed start pattern)) None)))

-- no bit of the pattern lies at or past the frame's end; the top bit lies on the start bit
unfoldable pub inside : List Bool → ℕ → ℕ → Bool
inside [] start count = true
inside (false ∷ ys) start count = inside ys (suc start) count
inside (true ∷ ys) start count = nat_lt start count && inside ys (suc start) count

-- it has at least one bit, none at or past the frame's end, and only in its top w
abbrev pub pattern_allowed : ℕ → ℕ → ℕ → ℕ → Bool
pattern_allowed w count start pattern =
    not (pattern == 0) && (pattern % 2 ^ (16 - w) == 0 && inside (word 16 pattern) start count)

abbrev pub fate_allowed : ℕ → ℕ → Option Fate → Bool
fate_allowed w count None = false
fate_allowed w count (Some Lost) = true
fate_allowed w count (Some Heard) = true
fate_allowed w count (Some HeardTwice) = true
fate_allowed w count (Some (Changed start pattern)) = pattern_allowed w count start pattern

-- the bits as a fate lets them be heard
abbrev pub fated : Fate → List Bool → List Bool
fated Lost xs = xs
fated Heard xs = xs
fated HeardTwice xs = xs
fated (Changed start pattern) xs = changed xs start (word 16 pattern)
