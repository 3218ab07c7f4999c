-- What the registers hold after loading.
use Rattle.std.proofs.Common.{◌≡◌, ℕ, Bool, true, false, cond, not, ◌||◌, eqb, List, [], ◌∷◌, Some, None, Ok, Err, Option, Result, sym, refl, ap, ◌∙◌, subst, inl, inr, arith, rules}
use Rattle.std.proofs.lemmas.Bool.{eq-eqb, ne_eqb, cases_eq}
use Rattle.registers.specs.declared.register.Register.{Register}
use Rattle.registers.specs.declared.held.Registers.{Registers}
use Rattle.registers.specs.Address.{address_of, registers}
use Rattle.registers.specs.File.{value_of}
use Rattle.registers.proofs.Holding.{one_address}
use Rattle.commands.specs.declared.refusal.Refusal.{Refusal}
use Rattle.commands.specs.declared.refusal.Refusal.TheVariants.{Profile, NotAllowed}
use Rattle.commands.specs.Refusals.{first_of, unless, kept_or}
use Rattle.profile.specs.Profile.{sound}
use Rattle.bench.specs.Loading.{field, refuses, field_refusals, load_refusal, fields_written, load_after, field_or, Fills, FillsAll, Loaded}

pub first_none : (b : Bool) (e : Refusal) (rest : Option Refusal) → cond b (Some e) rest ≡ None → (b ≡ false) × (rest ≡ None)
first_none true e rest h = absurd (let z : ◌≡◌ {A = ℕ} 0 1 = cc in omega arith)
first_none false e rest h = (refl, h)

-- ---- all fields

-- whether a register is among some
unfoldable pub among : Register → List Register → Bool
among q [] = false
among q (r ∷ rs) = eqb (address_of q) (address_of r) || among q rs

again : (o : Option (List ℕ)) (v : List ℕ) → field_or o (field_or o v) ≡ field_or o v
again None v = refl
again (Some w) v = refl

twice : (b : Bool) (o : Option (List ℕ)) (v : List ℕ) → cond b (field_or o (field_or o v)) (field_or o v) ≡ field_or o v
twice true o v = again o v
twice false o v = refl

-- what a register holds once the fields of some are written
abbrev pub held_after : List ℕ → List Register → Registers → Register → List ℕ
held_after p rs f q = cond (among q rs) (field_or (field p q) (value_of f q)) (value_of f q)

-- one field and then the others fill as all of them do
pub filled :
    (p : List ℕ) (f g : Registers) (r : Register) (rs : List Register) → Fills f r (field p r) g → refuses r (field p r) ≡ false → (q : Register)
    → held_after p rs g q ≡ held_after p (r ∷ rs) f q
unfolding among
filled p f g r rs w n q =
    let pick : Bool → List ℕ → List ℕ = λ b v. cond b (field_or (field p q) v) v in
    elim (cases_eq (address_of q) (address_of r)) [
      | inl e ↦
          let same : q ≡ r = one_address q r e in
          let v : value_of g q ≡ field_or (field p q) (value_of f q) =
          subst (λ (s : Register). value_of g s ≡ field_or (field p s) (value_of f s)) (sym same) (w.there n) in
          ap (pick (among q rs)) v ∙ twice (among q rs) (field p q) (value_of f q)
          ∙ sym (ap (λ (b : Bool). pick (b || among q rs) (value_of f q)) (eq-eqb _ _ e))
      | inr e ↦
          let v : value_of g q ≡ value_of f q = w.elsewhere q (λ s. e (ap address_of s)) in
          ap (pick (among q rs)) v ∙ sym (ap (λ (b : Bool). pick (b || among q rs) (value_of f q)) (ne_eqb _ _ e))
    ]

pub all_among : (q : Register) → among q registers ≡ true
unfolding among
all_among q = search rules

-- with none left, all fields have filled
pub all_filled :
    (p : List ℕ) (f g : Registers) (left all : List Register) → left ≡ [] → all ≡ registers → (q : Register)
    → held_after p left g q ≡ held_after p all f q → value_of g q ≡ field_or (field p q) (value_of f q)
unfolding among
all_filled p f g left all none every q h =
    let a : held_after p registers f q ≡ field_or (field p q) (value_of f q) =
    ap (λ (b : Bool). cond b (field_or (field p q) (value_of f q)) (value_of f q)) (all_among q) in
    ap (λ (rs : List Register). held_after p rs g q) (sym none) ∙ h ∙ ap (λ (rs : List Register). held_after p rs f q) every ∙ a

-- where no field is refused, no register refuses its own
none_refused : (p : List ℕ) (rs : List Register) → first_of (field_refusals p rs) ≡ None → (q : Register) → among q rs ≡ true
    → refuses q (field p q) ≡ false
unfolding among
none_refused p [] h q m = absurd (cc)
none_refused p (r ∷ rs) h q m =
    let n = first_none (refuses r (field p r)) (NotAllowed r) (first_of (field_refusals p rs)) h in
    elim (cases_eq (address_of q) (address_of r)) [
      | inl e ↦ subst (λ (s : Register). refuses s (field p s) ≡ false) (sym (one_address q r e)) n.0
      | inr e ↦ none_refused p rs n.1 q (sym (ap (λ (b : Bool). b || among q rs) (ne_eqb _ _ e)) ∙ m)
    ]

-- ---- the whole call

abbrev Ends : List ℕ → Registers → Result Unit Refusal → Registers → Type 0
Ends p f r after = (r ≡ unless (load_refusal p) tt) × (after ≡ load_after p f) × Loaded p f after

module _ (p : List ℕ) (f : Registers) where
  pub refuses_all : (e : Refusal) → load_refusal p ≡ Some e → Ends p f (Err e) f
  refuses_all e h = (
    sym (ap (λ (o : Option Refusal). unless o tt) h),
    sym (ap (λ (o : Option Refusal). kept_or o f (fields_written registers p f)) h),
    ((λ n. absurd (let m : Some e ≡ None = sym h ∙ n in let z : ◌≡◌ {A = ℕ} 0 1 = cc in omega arith)), λ _ _. refl),
  )

  pub loads_all : (g : Registers) → g ≡ fields_written registers p f → FillsAll p f g → sound p ≡ true → first_of (field_refusals p registers) ≡ None
      → Ends p f (Ok tt) g
  loads_all g e w s n =
      let h : load_refusal p ≡ None = ap (λ (b : Bool). cond (not b) (Some Profile) (first_of (field_refusals p registers))) s ∙ n in (
        sym (ap (λ (o : Option Refusal). unless o tt) h),
        e ∙ sym (ap (λ (o : Option Refusal). kept_or o f (fields_written registers p f)) h),
        (
          (λ _. w (λ q. none_refused p registers n q (all_among q))),
          λ e' m. absurd (let k : Some e' ≡ None = sym m ∙ h in cc),
        ),
      )

  pub in_fields : sound p ≡ true → load_refusal p ≡ first_of (field_refusals p registers)
  in_fields s = ap (λ (b : Bool). cond (not b) (Some Profile) (first_of (field_refusals p registers))) s
