-- Words that are bytes.
use Rattle.std.specs.Prelude.{◌≡◌, ℕ, ◌+◌, List, [], ◌∷◌, ◌++◌, Some, None, Ok, Err, vec_items, Result, Vec}
use Rattle.std.specs.declared.alloc.Global.{Global}
use Rattle.words.specs.declared.reading.Unread.{Unread}
use Rattle.words.specs.declared.reading.Unread.TheVariants.{NoByte, Memory}
use Rattle.words.specs.Numbers.{byte_of}

-- the bytes that words are, after those of acc, or the place of the first word that is no byte, counted from at + 1
abbrev pub bytes_after : List ℕ → ℕ → List (List ℕ) → Result (List ℕ) ℕ
bytes_after acc at [] = Ok acc
bytes_after acc at (w ∷ ws) = elim (byte_of w) [ Some b ↦ bytes_after (acc ++ b ∷ []) (at + 1) ws | None ↦ Err (at + 1) ]

abbrev pub bytes_from : ℕ → List (List ℕ) → Result (List ℕ) ℕ
bytes_from at ws = bytes_after [] at ws

-- r is what x says, unless there was no memory
abbrev pub ReadsBytes : Result (Vec ℕ Global) Unread → Result (List ℕ) ℕ → Type 0
ReadsBytes (Ok v) x = x ≡ Ok (vec_items v)
ReadsBytes (Err (NoByte n)) x = x ≡ Err n
ReadsBytes (Err Memory) x = Unit {0}
