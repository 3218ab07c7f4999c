-- A frame that a pattern changed.
use Rattle.std.proofs.Common.{◌≡◌, ℕ, ◌≤◌, Bool, List, [], ◌++◌, length, take, drop, ap, ◌∙◌, inl, inr, arith}
use Rattle.std.proofs.lemmas.Bool.{cases_lt}
use Rattle.std.proofs.lemmas.List.{take_all, drop_all, append-nil}
use Rattle.frames.specs.Damage.{changed}
use Rattle.frames.proofs.Turn.{length_changed, taken_changed}

-- its first bits
pub first_changed : (n : ℕ) (b : List Bool) (start : ℕ) (ys : List Bool) → take n (changed (take n b) start ys ++ drop n b) ≡ changed (take n b) start ys
first_changed n b start ys =
    elim (cases_lt (length b) n) [
      | inl l ↦
          let t = changed (take n b) start ys in
          let e : drop n b ≡ [] = drop_all n b (omega arith) in
          let m : length t ≤ n = omega (arith, length_changed (take n b) start ys, ap length (take_all n b (omega arith))) in
          ap (λ (z : List Bool). take n (t ++ z)) e ∙ ap (take n) (append-nil t) ∙ take_all n t m
      | inr h ↦ taken_changed n b start ys h
    ]
