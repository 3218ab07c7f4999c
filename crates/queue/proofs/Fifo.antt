-- First in, first out, over every list of calls.
-- Assumes nothing.
use Rattle.std.proofs.Common.{[], ◌∷◌, ◌++◌, sym, ap, ◌∙◌, append_assoc, append-nil}
use Rattle.queue.specs.declared.queue.Queue.{Queue}
use Rattle.queue.specs.declared.queue.Queue.TheVariants.{Empty, One, Two, Three}
use Rattle.queue.specs.Entries.{entries}
use Rattle.queue.specs.Order.{pushes, pops, clears, run, left, FirstInFirstOut}

pub fifo : {T : Type 0} (q : Queue T) → FirstInFirstOut q
fifo q [] = sym (append-nil (entries q))
fifo Empty (pushes x ∷ cs) = fifo (One x) cs
fifo (One a) (pushes x ∷ cs) = fifo (Two a x) cs
fifo (Two a b) (pushes x ∷ cs) = fifo (Three a b x) cs
fifo (Three a b c) (pushes x ∷ cs) = fifo (Three a b c) cs
fifo Empty (pops ∷ cs) = fifo Empty cs
fifo (One a) (pops ∷ cs) = ap (λ l. a ∷ l) (fifo Empty cs)
fifo (Two a b) (pops ∷ cs) = ap (λ l. a ∷ l) (fifo (One b) cs)
fifo (Three a b c) (pops ∷ cs) = ap (λ l. a ∷ l) (fifo (Two b c) cs)
fifo q (clears ∷ cs) =
    append_assoc (entries q) (left Empty cs) (entries (run Empty cs)) ∙ ap (λ l. entries q ++ l) (fifo Empty cs)
