-- What `into_iter` of an array gives, one by one.
-- Assumes nothing.
use Rattle.std.proofs.Common.{◌≡◌, ℕ, List, Option, Some, None, refl, subst}
use Rattle.std.specs.Option.{option_map}
use Rattle.std.specs.declared.array.IntoIter.{IntoIter}
use Rattle.std.specs.Array.Iter.{array_into_iter_items, array_steps}
use Rattle.std.proofs.lemmas.Iterator.{YieldsList}
use Rattle.std.proofs.lemmas.Iterator.Consumers.{YieldsList-from_shown}

pub from_array : {A : Type 0} {n : ℕ} {s : IntoIter A n} (xs : List A) → array_into_iter_items s ≡ xs → YieldsList (array_steps {n = n}) (λ x. x) s xs
from_array {A} {n} {s} xs e =
    subst (YieldsList (array_steps {n = n}) (λ x. x) s) e
    (YieldsList-from_shown array_steps (λ x. x) array_into_iter_items (λ t u h. h.0) (λ t x u h. h) s)

-- an item that is read as it is
pub same : {A : Type 0} (o : Option A) → o ≡ option_map (λ x. x) o
same None = refl
same (Some x) = refl
