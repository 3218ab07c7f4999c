-- One turn more.
use Rattle.std.proofs.Common.{◌≡◌, ℕ, zero, suc, ◌+◌, refl, ap, ◌∙◌, add-one}
use Rattle.std.specs.Fn.{iterate}
use Rattle.embed.specs.Cells.{each}

iterate-suc : {A : Type 0} (h : A → A) (n : ℕ) (x : A) → iterate h (suc n) x ≡ h (iterate h n x)
iterate-suc h zero x = refl
iterate-suc h (suc n) x = iterate-suc h n (h x)

pub iterate-add : {A : Type 0} (h : A → A) (n : ℕ) (x : A) → iterate h (n + 1) x ≡ h (iterate h n x)
iterate-add h n x = ap (λ k. iterate h k x) (add-one n) ∙ iterate-suc h n x

pub each-add : {A : Type 0} (f : ℕ → A → A) (n : ℕ) (r : A) → each f (n + 1) r ≡ f (1 + n) (each f n r)
unfolding each
each-add f n r = ap (λ k. each f k r) (add-one n)
