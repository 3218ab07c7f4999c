-- Making a cell: the code's loops against the definitions.
use Rattle.std.proofs.Common.{◌≡◌, ℕ, zero, suc, ◌+◌, ◌-◌, ◌<◌, ◌≤◌, Bool, true, false, cond, not, ◌&&◌, ◌||◌, ltb, List, [], ◌∷◌, ◌++◌, map, length, get_or, set, take, drop, replicate, is_some, Some, None, Option, sym, refl, ap, ◌∙◌, subst, inl, inr, add-one, arith}
use Rattle.std.specs.List.{list_all, list_any}
use Rattle.std.proofs.Math.Seq.{drop-cons, take-suc}
use Rattle.std.proofs.lemmas.List.{length-map, length-append, length-take, drop_all, take_all, take-map, get_or-map, get_or-set_same, get_or-set_other}
use Rattle.std.proofs.lemmas.Bool.{and_parts, ltb-true, cases_order}
use Rattle.registers.specs.declared.held.Registers.{Registers}
use Rattle.registers.specs.declared.pipe.Pipe.{Pipe}
use Rattle.unit.specs.declared.state.State.{State}
use Rattle.unit.specs.declared.state.Boxed.{Boxed}
use Rattle.cell.specs.Making.{nothing_in, pipe_for, same_pipe, pipe_taken, receiver_fits, sender_fits, sender_at_fault, senders_at_fault, unit_at_fault, places_of, states}

-- ---- what the chains answer

pub nothing_there : {X : Type 0} (xs : List (Option X)) → list_all (λ o. not (is_some o)) xs ≡ nothing_in xs
nothing_there [] = refl
nothing_there (x ∷ xs) = ap (λ b. not (is_some x) && b) (nothing_there xs)

pub taken_there : {C : Type 0} (r : Registers) (us : List (Boxed C)) (q : Option Pipe)
    → list_any (λ u. same_pipe (pipe_for r u.state.registers) q) us ≡ pipe_taken r (states us) q
taken_there r [] q = refl
taken_there r (u ∷ us) q = ap (λ b. same_pipe (pipe_for r u.state.registers) q || b) (taken_there r us q)

-- ---- the loop over the senders

pub one_more : (w : ℕ) (r : Registers) (xs : List State) (i : ℕ) (d : State) → i < length xs
    → sender_at_fault w r (take i xs) (drop i xs)
    ≡ cond (ltb i 6 && sender_fits w r (take i xs) (get_or xs i d)) (sender_at_fault w r (take (suc i) xs) (drop (suc i) xs)) (Some (suc i))
unfolding sender_at_fault
one_more w r xs i d l =
    let n : length (take i xs) ≡ i = length-take i xs ∙ omega arith in
    rw (drop-cons xs i d l, take-suc xs i d l, n) refl

pub at_end : (w : ℕ) (r : Registers) (xs : List State) (i : ℕ) → length xs ≤ i → sender_at_fault w r (take i xs) (drop i xs) ≡ None
unfolding sender_at_fault
at_end w r xs i l = rw (drop_all i xs l) refl

pub next_sender : {C : Type 0} (w : ℕ) (r : Registers) (us : List (Boxed C)) (i : ℕ) (u : Boxed C) (b : Bool) → i < length us → u ≡ get_or us i u
    → b ≡ (ltb (length (take i us)) 6 && sender_fits w r (states (take i us)) u.state)
    → sender_at_fault w r (take i (states us)) (drop i (states us))
    ≡ cond b (sender_at_fault w r (take (i + 1) (states us)) (drop (i + 1) (states us))) (Some (i + 1))
next_sender w r us i u b l is e =
    let t : take i (states us) ≡ states (take i us) = take-map (λ v. v.state) i us in
    let g : get_or (states us) i u.state ≡ u.state = get_or-map (λ v. v.state) us i u u.state l ∙ sym (ap (λ v. v.state) is) in
    let n : length (take i us) ≡ i = length-take i us ∙ omega arith in
    let k : (ltb i 6 && sender_fits w r (take i (states us)) (get_or (states us) i u.state)) ≡ b = rw (t, g) (sym (rw n at e)) in
    rw (one_more w r (states us) i u.state (rw length-map l), k, add-one) refl

-- ---- the first unit

pub some : (w : ℕ) (r : Registers) (us : List State) → 1 ≤ length us → senders_at_fault w r us ≡ sender_at_fault w r [] us
some w r [] l = absurd (omega arith)
some w r (u ∷ us) l = refl

pub first_unit : {C : Type 0} (w : ℕ) (us : List (Boxed C)) (u : Boxed C) → 1 ≤ length us → u ≡ get_or us 0 u
    → unit_at_fault w (states us) ≡ cond (receiver_fits w u.state) (senders_at_fault w u.state.registers (states (take (length us - 1) (drop 1 us)))) (Some 0)
first_unit w [] u l is = absurd (omega arith)
first_unit w (v ∷ us) u l is =
    let e : v ≡ u = sym is in
    rw (take_all (length (v ∷ us) - 1) us (omega arith))
    (subst (λ x. unit_at_fault w (states (v ∷ us)) ≡ cond (receiver_fits w x.state) (senders_at_fault w x.state.registers (states us)) (Some 0)) e refl)

-- ---- at most seven units make a cell

passed : {X : Type 0} (b : Bool) (o : Option X) (x : X) → cond b o (Some x) ≡ None → (b ≡ true) × (o ≡ None)
passed true o x h = (refl, h)
passed false o x h = absurd (let z : ◌≡◌ {A = ℕ} 0 1 = cc in omega arith)

at_most_6 : (w : ℕ) (r : Registers) (earlier ss : List State) → sender_at_fault w r earlier ss ≡ None → length earlier ≤ 6 → length earlier + length ss ≤ 6
unfolding sender_at_fault
at_most_6 w r earlier [] h l = omega arith
at_most_6 w r earlier (s ∷ ss) h l =
    let p = passed _ _ _ h in
    let below : length earlier < 6 = ltb-true (length earlier) 6 (and_parts (ltb (length earlier) 6) _ p.0).0 in
    let e = length-append earlier (s ∷ []) in
    let more : length earlier + 1 + length ss ≤ 6 = rw (← e) (at_most_6 w r (earlier ++ (s ∷ [])) ss p.1 (rw e (omega arith))) in
    omega arith

some_senders : (w : ℕ) (r : Registers) (ss : List State) → senders_at_fault w r ss ≡ None → sender_at_fault w r [] ss ≡ None
some_senders w r [] h = absurd (let z : ◌≡◌ {A = ℕ} 0 1 = cc in omega arith)
some_senders w r (s ∷ ss) h = h

pub at_most_7 : (w : ℕ) (us : List State) → unit_at_fault w us ≡ None → length us ≤ 7
at_most_7 w [] h = omega arith
at_most_7 w (r ∷ ss) h =
    let p = passed (receiver_fits w r) (senders_at_fault w r.registers ss) 0 h in
    let l = at_most_6 w r.registers [] ss (some_senders w r.registers ss p.1) (omega arith) in
    omega arith

-- ---- the units are put into their places, the last one first

pub popped_one : {B : Type 0} (xs new : List B) (u : B) → new ++ (u ∷ []) ≡ take (length (new ++ (u ∷ []))) xs
    → (new ≡ take (length new) xs) × (get_or xs (length new) u ≡ u) × (length new < length xs)
popped_one [] [] u h = absurd (let z : ◌≡◌ {A = ℕ} 1 0 = ap length h in omega arith)
popped_one (x ∷ xs) [] u h = (refl, cc, omega arith)
popped_one [] (y ∷ new) u h = absurd (let z : suc (length (new ++ (u ∷ []))) ≡ 0 = ap length h in omega arith)
popped_one (x ∷ xs) (y ∷ new) u h =
    let e : y ≡ x = cc in
    let t : new ++ (u ∷ []) ≡ take (length (new ++ (u ∷ []))) xs = cc in
    let i = popped_one xs new u t in
    (cc, i.1, omega arith)

pub placed_one : {A : Type 0} (none x : A) (ps : List A) (n : ℕ) → get_or ps n none ≡ x → n < length ps
    → set (replicate (suc n) none ++ drop (suc n) ps) n x ≡ replicate n none ++ drop n ps
placed_one none x [] n e l = absurd (omega arith)
placed_one none x (p ∷ ps) zero e l = cc
placed_one none x (p ∷ ps) (suc n) e l = ap (λ ys. none ∷ ys) (placed_one none x ps n e (omega arith))

pub there : (us : List State) (zs : List (Option State)) (n : ℕ) (d : State) → n < length us → get_or (map Some us ++ zs) n None ≡ Some (get_or us n d)
there [] zs n d l = absurd (omega arith)
there (u ∷ us) zs zero d l = refl
there (u ∷ us) zs (suc n) d l = there us zs n d (omega arith)

pub empty_at_first : (xs : List State) → length xs ≤ 7 → replicate {A = Option State} 7 None ≡ replicate (length xs) None ++ drop (length xs) (places_of xs)
empty_at_first [] l = refl
empty_at_first (x ∷ []) l = refl
empty_at_first (x ∷ (y ∷ [])) l = refl
empty_at_first (x ∷ (y ∷ (z ∷ []))) l = refl
empty_at_first (x ∷ (y ∷ (z ∷ (u ∷ [])))) l = refl
empty_at_first (x ∷ (y ∷ (z ∷ (u ∷ (v ∷ []))))) l = refl
empty_at_first (x ∷ (y ∷ (z ∷ (u ∷ (v ∷ (w ∷ [])))))) l = refl
empty_at_first (x ∷ (y ∷ (z ∷ (u ∷ (v ∷ (w ∷ (q ∷ []))))))) l = refl
empty_at_first (x ∷ (y ∷ (z ∷ (u ∷ (v ∷ (w ∷ (q ∷ (p ∷ xs)))))))) l = absurd (omega arith)

none_of : (n u : ℕ) (s : State) → get_or (replicate {A = Option State} n None) u None ≡ Some s → ⊥
none_of zero u s e = let y : ◌≡◌ {A = ℕ} 0 1 = cc in absurd (omega arith)
none_of (suc n) zero s e = let y : ◌≡◌ {A = ℕ} 0 1 = cc in absurd (omega arith)
none_of (suc n) (suc u) s e = none_of n u s e

pub nobody : (u : ℕ) (s : State) → get_or (replicate {A = Option State} 7 None) u None ≡ Some s → ⊥
nobody u s e = none_of 7 u s e

-- each unit that stands somewhere has a property, one of them at the place n
pub all_there : (P : State → Type 0) (xs : List (Option State)) (n : ℕ) (x : State) → n < length xs → P x
    → ((u : ℕ) (s : State) → get_or xs u None ≡ Some s → P s) → (u : ℕ) (s : State) → get_or (set xs n (Some x)) u None ≡ Some s → P s
all_there P xs n x l p all u s e = elim (cases_order u n) [
  | inl i ↦
      let j : get_or (set xs n (Some x)) u None ≡ Some x = rw i (get_or-set_same xs n (Some x) None l) in
      let same : x ≡ s = cc in
      subst P same p
  | inr (inl i) ↦ all u s (sym (get_or-set_other xs n u (Some x) None (λ j. omega arith)) ∙ e)
  | inr (inr i) ↦ all u s (sym (get_or-set_other xs n u (Some x) None (λ j. omega arith)) ∙ e)
]
