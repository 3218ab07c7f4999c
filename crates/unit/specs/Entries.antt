-- The entries of a unit's queues.
use Rattle.std.specs.Prelude.{ℕ, suc, ◌≤◌, min, cond, ◌&&◌, List, [], ◌∷◌, length, Some, None, Option, nat_le}
use Rattle.std.proofs.Common.{zero-le, suc-le-suc}
use Rattle.std.proofs.Math.Nat.{le-min}
use Rattle.frames.specs.Calls.{payload_bytes, payload_of}
use Rattle.unit.specs.declared.entry.Data.{Data}

abbrev pub data_bytes : Data → List ℕ
data_bytes d = payload_bytes d.payload

pub one_le : (n : ℕ) → 1 ≤ min (suc n) 32
one_le n = le-min (suc-le-suc zero-le) (suc-le-suc zero-le)

-- the entry of 1 to 32 bytes (no bytes at all, of which no entry is made, would be read as one byte 00)
abbrev pub data_of : List ℕ → Data
data_of [] = record { payload = payload_of (0 ∷ []); some = one_le 0 }
data_of (b ∷ bs) = record { payload = payload_of (b ∷ bs); some = one_le (length bs) }

-- an entry is made of 1 to 32 bytes
abbrev pub entry_of : List ℕ → Option Data
entry_of bs = cond (nat_le 1 (length bs) && nat_le (length bs) 32) (Some (data_of bs)) None
