-- The laws of the queue: what comes in last leaves last, and no more than three stand.
use Rattle.std.specs.Prelude.{◌≡◌, cond, List, [], ◌∷◌, ◌++◌, length, Some, None, Ok, Err, Option, Result, ◌==◌}
use Rattle.queue.specs.declared.queue.Queue.{Queue}
use Rattle.queue.specs.declared.queue.Queue.TheVariants.{Empty}
use Rattle.queue.specs.Entries.{entries, first, pushed, popped}

-- a value that is taken stands behind all others; one that is refused comes back, since three stand, and nothing changes
abbrev pub JoinsLast : {T : Type 0} → Queue T → T → Result Unit T → Queue T → Type 0
JoinsLast q x (Ok u) after = entries after ≡ entries q ++ (x ∷ [])
JoinsLast q x (Err y) after = (length (entries q) ≡ 3) × (y ≡ x) × (after ≡ q)

-- what leaves stood before all others, and they stay as they stood; nothing leaves an empty queue
abbrev pub LeavesFirst : {T : Type 0} → Queue T → Option T → Queue T → Type 0
LeavesFirst q None after = (entries q ≡ []) × (entries after ≡ [])
LeavesFirst q (Some x) after = entries q ≡ x ∷ entries after

pub data Call (T : Type 0) : Type 0 where
  pushes : T → Call T
  pops : Call T
  clears : Call T

-- the queue after the calls
abbrev pub run : {T : Type 0} → Queue T → List (Call T) → Queue T
run q [] = q
run q (pushes x ∷ cs) = run (pushed q x) cs
run q (pops ∷ cs) = run (popped q) cs
run q (clears ∷ cs) = run Empty cs

-- the values that came in, in their order: a full queue takes none
abbrev pub came : {T : Type 0} → Queue T → List (Call T) → List T
came q [] = []
came q (pushes x ∷ cs) = cond (length (entries q) == 3) [] (x ∷ []) ++ came (pushed q x) cs
came q (pops ∷ cs) = came (popped q) cs
came q (clears ∷ cs) = came Empty cs

abbrev pub listed : {T : Type 0} → Option T → List T
listed None = []
listed (Some x) = x ∷ []

-- the values that left, in their order: one by a pop, all by a clear
abbrev pub left : {T : Type 0} → Queue T → List (Call T) → List T
left q [] = []
left q (pushes x ∷ cs) = left (pushed q x) cs
left q (pops ∷ cs) = listed (first (entries q)) ++ left (popped q) cs
left q (clears ∷ cs) = entries q ++ left Empty cs

-- over every list of calls: what left, and then what still stands, is what stood and then what came
abbrev pub FirstInFirstOut : {T : Type 0} → Queue T → Type 0
FirstInFirstOut {T} q = (calls : List (Call T)) → left q calls ++ entries (run q calls) ≡ entries q ++ came q calls
