-- A queue as the list of its entries, the oldest first, and what each call makes of it.
use Rattle.std.specs.Prelude.{cond, List, [], ◌∷◌, ◌++◌, length, drop, Some, None, Ok, Err, Option, Result, ◌==◌}
use Rattle.queue.specs.declared.queue.Queue.{Queue}
use Rattle.queue.specs.declared.queue.Queue.TheVariants.{Empty, One, Two, Three}

abbrev pub entries : {T : Type 0} → Queue T → List T
entries Empty = []
entries (One a) = a ∷ []
entries (Two a b) = a ∷ (b ∷ [])
entries (Three a b c) = a ∷ (b ∷ (c ∷ []))

-- the queue of the first three elements of a list
abbrev pub queue_of : {T : Type 0} → List T → Queue T
queue_of [] = Empty
queue_of (a ∷ []) = One a
queue_of (a ∷ (b ∷ [])) = Two a b
queue_of (a ∷ (b ∷ (c ∷ xs))) = Three a b c

abbrev pub first : {T : Type 0} → List T → Option T
first [] = None
first (x ∷ xs) = Some x

-- a full queue hands the value back
abbrev pub push_answer : {T : Type 0} → Queue T → T → Result Unit T
push_answer q x = cond (length (entries q) == 3) (Err x) (Ok tt)

-- the value comes last, unless three stand
abbrev pub pushed : {T : Type 0} → Queue T → T → Queue T
pushed q x = cond (length (entries q) == 3) q (queue_of (entries q ++ (x ∷ [])))

-- all but the oldest
abbrev pub popped : {T : Type 0} → Queue T → Queue T
popped q = queue_of (drop 1 (entries q))
