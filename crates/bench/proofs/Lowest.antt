-- The first register with a fault is the lowest.
use Rattle.std.proofs.Common.{◌≡◌, ℕ, suc, ◌<◌, ◌≤◌, Bool, true, false, cond, ◌&&◌, ◌||◌, eqb, ◌⊎◌, List, [], ◌∷◌, Some, None, Option, sym, refl, subst, inl, inr, arith}
use Rattle.std.proofs.lemmas.Bool.{eqb-true, and_parts}
use Rattle.registers.specs.declared.register.Register.{Register}
use Rattle.registers.specs.declared.held.Registers.{Registers}
use Rattle.registers.specs.Address.{address_of, registers}
use Rattle.registers.proofs.Holding.{one_address}
use Rattle.bench.specs.Checking.{faulty, first_faulty, fault_of, LowestFault}
use Rattle.bench.proofs.Loads.{among, all_among}

-- the registers of a list have the addresses from k on
aligned : ℕ → List Register → Bool
aligned k [] = true
aligned k (r ∷ rs) = eqb (address_of r) k && aligned (suc k) rs

either : (a b : Bool) → a || b ≡ true → (a ≡ true) ⊎ (b ≡ true)
either true b h = inl refl
either false b h = inr h

module _ (bad : Register → Bool) where
  above : (k : ℕ) (rs : List Register) → aligned k rs ≡ true → (q : Register) → among q rs ≡ true → k ≤ address_of q
  unfolding aligned among
  above k [] a q m = absurd (let z : ◌≡◌ {A = ℕ} 0 1 = cc in omega arith)
  above k (x ∷ rs) a q m =
      let s = and_parts (eqb (address_of x) k) (aligned (suc k) rs) a in
      elim (either (eqb (address_of q) (address_of x)) (among q rs) m) [
        | inl e ↦ omega (arith, eqb-true _ _ e, eqb-true _ _ s.0)
        | inr n ↦ omega (arith, above (suc k) rs s.1 q n)
      ]

  -- what the search of some registers tells of one of them
  Tells : Option Register → Register → Type 0
  Tells None q = bad q ≡ false
  Tells (Some r) q = (bad r ≡ true) × (address_of q < address_of r → bad q ≡ false)

  later : (o : Option Register) (q : Register) → bad q ≡ false → ((r : Register) → o ≡ Some r → bad r ≡ true) → Tells o q
  unfolding Tells
  later None q h t = h
  later (Some r) q h t = (t r refl, λ _. h)

  stands : (rs : List Register) (r : Register) → first_faulty bad rs ≡ Some r → bad r ≡ true
  unfolding first_faulty
  stands [] r h = absurd (let z : ◌≡◌ {A = ℕ} 0 1 = cc in omega arith)
  stands (x ∷ rs) r h = by (bad x) refl h (λ g. stands rs r g)
    where
      by : (b : Bool) → bad x ≡ b → cond b (Some x) (first_faulty bad rs) ≡ Some r → (first_faulty bad rs ≡ Some r → bad r ≡ true)
          → bad r ≡ true
      by true e g rest = let s : x ≡ r = cc in subst (λ (y : Register). bad y ≡ true) s e
      by false e g rest = rest g

  tells : (k : ℕ) (rs : List Register) → aligned k rs ≡ true → (q : Register) → among q rs ≡ true → Tells (first_faulty bad rs) q
  unfolding aligned among first_faulty Tells
  tells k [] a q m = absurd (let z : ◌≡◌ {A = ℕ} 0 1 = cc in omega arith)
  tells k (x ∷ rs) a q m = by (bad x) refl (λ n. tells (suc k) rs parts.1 q n)
    where
      parts : (eqb (address_of x) k ≡ true) × (aligned (suc k) rs ≡ true)
      parts = and_parts (eqb (address_of x) k) (aligned (suc k) rs) a

      least : k ≤ address_of q
      least = above k (x ∷ rs) a q m

      by : (b : Bool) → bad x ≡ b → (among q rs ≡ true → Tells (first_faulty bad rs) q) → Tells (cond b (Some x) (first_faulty bad rs)) q
      by true e rest = (e, λ l. absurd (omega (arith, eqb-true _ _ parts.0, least, l)))
      by false e rest =
          elim (either (eqb (address_of q) (address_of x)) (among q rs) m) [
            | inl s ↦
                later (first_faulty bad rs) q (subst (λ (y : Register). bad y ≡ false) (sym (one_address q x (eqb-true _ _ s))) e)
                (λ r t. stands rs r t)
            | inr n ↦ rest n
          ]

pub lowest : (width : ℕ) (f : Registers) (o : Option Register) → o ≡ fault_of width f → LowestFault width f o
unfolding aligned Tells
lowest width f None h = λ q. subst (λ (o : Option Register). Tells (faulty width f) o q) (sym h) (tells (faulty width f) 0 registers refl q (all_among q))
lowest width f (Some r) h = (
  stands (faulty width f) registers r (sym h),
  λ q l. (subst (λ (o : Option Register). Tells (faulty width f) o q) (sym h) (tells (faulty width f) 0 registers refl q (all_among q))).1 l,
)
