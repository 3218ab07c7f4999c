-- What stands in a queue after a call.
-- Assumes nothing.
use Rattle.std.proofs.Common.{◌≡◌, ℕ, ◌≤◌, true, false, eqb, [], ◌∷◌, ◌++◌, length, drop, refl, arith}
use Rattle.queue.specs.declared.queue.Queue.{Queue}
use Rattle.queue.specs.declared.queue.Queue.TheVariants.{Empty, One, Two, Three}
use Rattle.queue.specs.Entries.{entries, pushed, popped}

pub pushed_last : {T : Type 0} (q : Queue T) (x : T) → eqb (length (entries q)) 3 ≡ false → entries (pushed q x) ≡ entries q ++ (x ∷ [])
pushed_last Empty x h = refl
pushed_last (One a) x h = refl
pushed_last (Two a b) x h = refl
pushed_last (Three a b c) x h = let z : ◌≡◌ {A = ℕ} 0 1 = cc in absurd (omega arith)

pub popped_rest : {T : Type 0} (q : Queue T) → entries (popped q) ≡ drop 1 (entries q)
popped_rest Empty = refl
popped_rest (One a) = refl
popped_rest (Two a b) = refl
popped_rest (Three a b c) = refl

pub drained : {T : Type 0} (q : Queue T) → eqb (length (entries q)) 0 ≡ true → q ≡ Empty
drained Empty h = refl
drained (One a) h = let z : ◌≡◌ {A = ℕ} 0 1 = cc in absurd (omega arith)
drained (Two a b) h = let z : ◌≡◌ {A = ℕ} 0 1 = cc in absurd (omega arith)
drained (Three a b c) h = let z : ◌≡◌ {A = ℕ} 0 1 = cc in absurd (omega arith)
