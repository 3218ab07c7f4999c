-- The boxed units in the first places, taken out and put back.
use Rattle.std.proofs.Common.{◌≡◌, ℕ, zero, suc, ◌<◌, ◌≤◌, false, List, [], ◌∷◌, ◌++◌, length, is_some, get_or, set, drop, replicate, Some, None, Option, sym, refl, ap, ◌∙◌, append_assoc, append-nil, arith}
use Rattle.std.proofs.Math.Seq.{drop-cons}
use Rattle.bench.specs.declared.unit.Bench.{Bench as BenchUnit}
use Rattle.unit.specs.declared.state.Boxed.{Boxed as BoxedUnit}
use Rattle.cell.specs.declared.parts.Inside.{Inside}
use Rattle.cell.specs.Making.{states, unit_at_fault, made}
use Rattle.desk.specs.declared.slot.AnyUnit.TheVariants.{Bench, Boxed}
use Rattle.desk.specs.declared.slot.Desk.{Desk}
use Rattle.desk.specs.Slots.{Slot}
use Rattle.desk.specs.Counts.{no_counts}
use Rattle.desk.specs.CellCalls.{with_inside}
use Rattle.desk.specs.Making.{boxed_first, without_boxed, with_boxed, made_unless, desk_made_by, desk_made}

pub none_of : {X : Type 0} (o : Option X) → is_some o ≡ false → o ≡ None
none_of None h = refl
none_of (Some x) h = let z : ◌≡◌ {A = ℕ} 0 1 = cc in absurd (omega arith)

module _ {C : Type 0} where
  abbrev pub in_slot : BoxedUnit C → Slot C
  in_slot u = Some (Boxed u)

  -- ---- taken out

  -- a place behind empty ones
  read_at : (i : ℕ) (x d : Slot C) (rest : List (Slot C)) → get_or (replicate i None ++ (x ∷ rest)) i d ≡ x
  read_at zero x d rest = refl
  read_at (suc i) x d rest = read_at i x d rest

  emptied_at : (i : ℕ) (x : Slot C) (rest : List (Slot C)) → set (replicate i None ++ (x ∷ rest)) i None ≡ replicate (suc i) None ++ rest
  emptied_at zero x rest = refl
  emptied_at (suc i) x rest = ap (λ ys. None ∷ ys) (emptied_at i x rest)

  refilled_at : (i : ℕ) (x : Slot C) (rest : List (Slot C)) → set (set (replicate i None ++ (x ∷ rest)) i None) i x ≡ replicate i None ++ (x ∷ rest)
  refilled_at zero x rest = refl
  refilled_at (suc i) x rest = ap (λ ys. None ∷ ys) (refilled_at i x rest)

  one_more_empty : (i : ℕ) (rest : List (Slot C)) → replicate i None ++ (None ∷ rest) ≡ replicate (suc i) None ++ rest
  one_more_empty zero rest = refl
  one_more_empty (suc i) rest = ap (λ ys. None ∷ ys) (one_more_empty i rest)

  -- the units of the first i places were taken out
  pub record Taking (xs : List (Slot C)) (i : ℕ) (us : List (BoxedUnit C)) (now : List (Slot C)) : Type 0 where
    pub units : us ++ boxed_first (drop i xs) ≡ boxed_first xs
    pub left : replicate i None ++ without_boxed (drop i xs) ≡ without_boxed xs
    pub stands : now ≡ replicate i None ++ drop i xs

  -- what stands at the next place
  next : (xs : List (Slot C)) (i : ℕ) (us : List (BoxedUnit C)) (now : List (Slot C)) (x : Slot C) → Taking xs i us now → i < length xs → get_or now i x ≡ x → drop i xs ≡ x ∷ drop (suc i) xs
  next xs i us now x so more is =
      let split = drop-cons xs i x more in
      let here : get_or now i x ≡ get_or xs i x =
      ap (λ ys. get_or ys i x) (so.stands ∙ ap (λ ys. replicate i None ++ ys) split) ∙ read_at i (get_or xs i x) x (drop (suc i) xs) in
      split ∙ ap (λ y. y ∷ drop (suc i) xs) (sym here ∙ is)

  pub one_taken : (xs : List (Slot C)) (i : ℕ) (us : List (BoxedUnit C)) (now : List (Slot C)) (x : Slot C) (u : BoxedUnit C) → Taking xs i us now → i < length xs → get_or now i x ≡ x
      → x ≡ in_slot u → Taking xs (suc i) (us ++ (u ∷ [])) (set now i None)
  one_taken xs i us now x u so more is boxed =
      let split : drop i xs ≡ in_slot u ∷ drop (suc i) xs = next xs i us now x so more is ∙ ap (λ y. y ∷ drop (suc i) xs) boxed in
      record {
        units = append_assoc us (u ∷ []) (boxed_first (drop (suc i) xs)) ∙ sym (ap (λ ys. us ++ boxed_first ys) split) ∙ so.units;
        left = sym (one_more_empty i (without_boxed (drop (suc i) xs))) ∙ sym (ap (λ ys. replicate i None ++ without_boxed ys) split) ∙ so.left;
        stands = ap (λ ys. set ys i None) (so.stands ∙ ap (λ ys. replicate i None ++ ys) split) ∙ emptied_at i (in_slot u) (drop (suc i) xs);
      }

  not_first : (x : Slot C) (rest : List (Slot C)) → ((u : BoxedUnit C) → x ≡ in_slot u → ⊥) → (boxed_first (x ∷ rest) ≡ []) × (without_boxed (x ∷ rest) ≡ x ∷ rest)
  not_first None rest other = (refl, refl)
  not_first (Some (Bench b)) rest other = (refl, refl)
  not_first (Some (Boxed u)) rest other = absurd (other u refl)

  -- a place without a boxed unit: what stands there is put back
  pub stopped : (xs : List (Slot C)) (i : ℕ) (us : List (BoxedUnit C)) (now : List (Slot C)) (x : Slot C) → Taking xs i us now → i < length xs → get_or now i x ≡ x
      → ((u : BoxedUnit C) → x ≡ in_slot u → ⊥) → (us ≡ boxed_first xs) × (set (set now i None) i x ≡ without_boxed xs)
  stopped xs i us now x so more is other =
      let rest = drop (suc i) xs in
      let split = next xs i us now x so more is in
      let ends = not_first x rest other in
      let none : boxed_first (drop i xs) ≡ [] = ap boxed_first split ∙ ends.0 in
      let same : without_boxed (drop i xs) ≡ x ∷ rest = ap without_boxed split ∙ ends.1 in (
        sym (append-nil us) ∙ sym (ap (λ ys. us ++ ys) none) ∙ so.units,
        ap (λ ys. set (set ys i None) i x) (so.stands ∙ ap (λ ys. replicate i None ++ ys) split) ∙ refilled_at i x rest
            ∙ sym (ap (λ ys. replicate i None ++ ys) same) ∙ so.left,
      )

  pub bench_stays : (xs : List (Slot C)) (i : ℕ) (us : List (BoxedUnit C)) (now : List (Slot C)) (x : Slot C) (b : BenchUnit) → Taking xs i us now → i < length xs → get_or now i x ≡ x
      → x ≡ Some (Bench b) → set (set now i None) i (Some (Bench b)) ≡ without_boxed xs
  bench_stays xs i us now x b so more is bench =
      let other : (u : BoxedUnit C) → x ≡ in_slot u → ⊥ = λ u e. let z : ◌≡◌ {A = ℕ} 0 1 = cc in omega arith in
      sym (ap (λ y. set (set now i None) i y) bench) ∙ (stopped xs i us now x so more is other).1

  pub gap_stays : (xs : List (Slot C)) (i : ℕ) (us : List (BoxedUnit C)) (now : List (Slot C)) (x : Slot C) → Taking xs i us now → i < length xs → get_or now i x ≡ x
      → x ≡ None → set now i None ≡ without_boxed xs
  gap_stays xs i us now x so more is none =
      let rest = drop (suc i) xs in
      let split : drop i xs ≡ None ∷ rest = next xs i us now x so more is ∙ ap (λ y. y ∷ rest) none in
      ap (λ ys. set ys i None) (so.stands ∙ ap (λ ys. replicate i None ++ ys) split)
      ∙ emptied_at i None rest ∙ sym (one_more_empty i rest)
      ∙ sym (ap (λ ys. replicate i None ++ without_boxed ys) split) ∙ so.left

  -- ---- put back

  pub as_before : (xs : List (Slot C)) → with_boxed (boxed_first xs) (without_boxed xs) ≡ xs
  as_before [] = refl
  as_before (None ∷ xs) = refl
  as_before (Some (Bench b) ∷ xs) = refl
  as_before (Some (Boxed u) ∷ xs) = ap (λ ys. Some (Boxed u) ∷ ys) (as_before xs)

  pub few_enough : (xs : List (Slot C)) → length (boxed_first xs) ≤ length (without_boxed xs)
  few_enough [] = omega arith
  few_enough (None ∷ xs) = omega arith
  few_enough (Some (Bench b) ∷ xs) = omega arith
  few_enough (Some (Boxed u) ∷ xs) = omega (arith, few_enough xs)

  -- ---- the desk

  pub cell_made : (w : ℕ) (d : Desk C) (c : Inside) → d.cell ≡ None → unit_at_fault w (states (boxed_first d.slots)) ≡ None → c ≡ made (states (boxed_first d.slots))
      → record { slots = without_boxed d.slots; cell = Some (with_inside c no_counts) } ≡ desk_made w d
  cell_made w d c none fits is =
      ap (λ x. record { slots = without_boxed d.slots; cell = Some (with_inside x no_counts) }) is
      ∙ sym (ap (λ x. desk_made_by x w d) none ∙ ap (λ o. made_unless o d) fits)

  pub unmade : (w : ℕ) (d : Desk C) (u : ℕ) → d.cell ≡ None → unit_at_fault w (states (boxed_first d.slots)) ≡ Some u → desk_made w d ≡ d
  unmade w d u none fault = ap (λ x. desk_made_by x w d) none ∙ ap (λ o. made_unless o d) fault
