-- The burst law of every cyclic redundancy check whose polynomial has its low bit set, over the width.
-- Assumes nothing.
use Rattle.std.specs.Prelude.{◌≡◌, ℕ, zero, suc, ◌+◌, ◌-◌, ◌*◌, ◌/◌, ◌%◌, ◌^◌, ◌<◌, ◌≤◌, Bool, true, false, cond, ◌⊎◌, List, [], ◌∷◌, ◌++◌, length, ◌==◌, bit_xor, nat_eq, refl}
use Rattle.std.proofs.Common.{sym, ◌∙◌, ap₂, inl, inr, mod-lt, mod-eq_of_lt, mul-one, mul_assoc, pow-suc, arith, pow_pos, shr-shr, shr_lt}
use Rattle.std.proofs.Math.Path.{ap, subst}
use Rattle.std.proofs.Math.Nat.{mul-mod_left, mod-mod}
use Rattle.std.specs.Int.Bits.{xor_mod, xor_assoc, xor_self, xor_zero_r}
use Rattle.std.proofs.lemmas.Nat.{xor_lt, mod-pow-add, shl-shr}
use Rattle.std.proofs.Math.Pow.{mod-mod-pow, field, split}
use Rattle.checks.specs.Bits.{bit, word}
use Rattle.checks.specs.Burst.{EndsInOwnCheck, Burst}
use Rattle.checks.specs.Crc.{differs, step, run}
use Rattle.checks.specs.Places.{run_append}

-- ---- numbers

xor_undo : (a p : ℕ) → bit_xor (bit_xor a p) p ≡ a
xor_undo a p = xor_assoc a p p ∙ ap (λ (x : ℕ). bit_xor a x) (xor_self p) ∙ xor_zero_r a

xor_cancel : (a b p : ℕ) → bit_xor a p ≡ bit_xor b p → a ≡ b
xor_cancel a b p e = sym (xor_undo a p) ∙ ap (λ (x : ℕ). bit_xor x p) e ∙ xor_undo b p

mod_less : (n k w : ℕ) → k ≤ w → n % 2 ^ w % 2 ^ k ≡ n % 2 ^ k
mod_less n k w h =
    let q : (w - k) + k ≡ w = omega arith in
    subst (λ (m : ℕ). n % 2 ^ m % 2 ^ k ≡ n % 2 ^ k) q (mod-mod-pow n (w - k) k)

twice_mod : (r k : ℕ) → r * 2 % 2 ^ suc k ≡ (r % 2 ^ k) * 2
twice_mod r k =
    let q : k + 1 ≡ suc k = omega arith in
    let d : r * 2 / 2 ≡ r = omega arith in
    let m : r * 2 % 2 ≡ 0 = mul-mod_left r 2 in
    subst (λ (j : ℕ). r * 2 % 2 ^ j ≡ (r % 2 ^ k) * 2) q
    (mod-pow-add (r * 2) k 1 ∙ ap (λ (x : ℕ). (x % 2 ^ k) * 2 + r * 2 % 2) d ∙ omega (arith, m))

-- ---- bits

differs_cancel : (t x y : Bool) → differs t x ≡ differs t y → x ≡ y
differs_cancel false x y e = e
differs_cancel true true true e = refl
differs_cancel true true false e = sym e
differs_cancel true false true e = sym e
differs_cancel true false false e = refl

differs_cancel_left : (s t x : Bool) → differs s x ≡ differs t x → s ≡ t
differs_cancel_left false false x e = refl
differs_cancel_left true true x e = refl
differs_cancel_left false true true e = sym e
differs_cancel_left false true false e = e
differs_cancel_left true false true e = sym e
differs_cancel_left true false false e = e

differs_self : (t : Bool) → differs t t ≡ false
differs_self true = refl
differs_self false = refl

as_bit : Bool → ℕ
as_bit true = 1
as_bit false = 0

as_bit_injective : (s t : Bool) → as_bit s ≡ as_bit t → s ≡ t
unfolding as_bit
as_bit_injective false false e = refl
as_bit_injective true true e = refl
as_bit_injective false true e = absurd (omega arith)
as_bit_injective true false e = absurd (omega arith)

-- ---- the top bit

false_true : false ≡ true → ⊥
false_true e = let z : ◌≡◌ {A = ℕ} 0 1 = cc in omega arith

half_bit : (a b : ℕ) → a < 2 → b < 2 → (a == 1) ≡ (b == 1) → a ≡ b
half_bit zero zero ha hb e = refl
half_bit zero (suc zero) ha hb e = absurd (false_true e)
half_bit (suc zero) zero ha hb e = absurd (false_true (sym e))
half_bit (suc zero) (suc zero) ha hb e = refl
half_bit (suc (suc a)) b ha hb e = absurd (omega (arith, ha))
half_bit zero (suc (suc b)) ha hb e = absurd (omega (arith, hb))
half_bit (suc zero) (suc (suc b)) ha hb e = absurd (omega (arith, hb))

top_below : (v r : ℕ) → r < 2 ^ suc v → r / 2 ^ v < 2
top_below v r h =
    let q : suc v ≡ 1 + v = omega arith in
    shr_lt 1 v (subst (λ (m : ℕ). r < 2 ^ m) q h)

top_equal : (v r s : ℕ) → r < 2 ^ suc v → s < 2 ^ suc v → bit r v ≡ bit s v → r / 2 ^ v ≡ s / 2 ^ v
top_equal v r s hr hs e =
    let hr' : r / 2 ^ v < 2 = top_below v r hr in
    let hs' : s / 2 ^ v < 2 = top_below v s hs in
    half_bit (r / 2 ^ v) (s / 2 ^ v) hr' hs'
    (ap (λ (n : ℕ). nat_eq n 1) (sym (mod-eq_of_lt hr')) ∙ e ∙ ap (λ (n : ℕ). nat_eq n 1) (mod-eq_of_lt hs'))

-- the top bit of c shifted left by j, in a register of suc v = suc k + j bits
own_top : (v k j c : ℕ) → k + j ≡ v → bit (c * 2 ^ j % 2 ^ suc v) v ≡ bit c k
own_top v k j c e =
    let i : suc v ≡ 1 + v = omega arith in
    let jk : j + k ≡ v = omega (arith, e) in
    let f : c * 2 ^ j % 2 ^ suc v / 2 ^ v ≡ c * 2 ^ j / 2 ^ v % 2 =
    subst (λ (m : ℕ). c * 2 ^ j % 2 ^ m / 2 ^ v ≡ c * 2 ^ j / 2 ^ v % 2) (sym i) (field (c * 2 ^ j) 1 v) in
    let g : c * 2 ^ j / 2 ^ v ≡ c / 2 ^ k =
    subst (λ (m : ℕ). c * 2 ^ j / 2 ^ m ≡ c / 2 ^ k) jk
    (sym (shr-shr (c * 2 ^ j) j k) ∙ ap (λ (n : ℕ). n / 2 ^ k) (shl-shr c j)) in
    ap (λ (n : ℕ). nat_eq (n % 2) 1) (f ∙ ap (λ (n : ℕ). n % 2) g) ∙ ap (λ (n : ℕ). nat_eq n 1) (mod-mod (c / 2 ^ k) 2)

shift_on : (v j c : ℕ) → (c * 2 ^ j % 2 ^ suc v) * 2 % 2 ^ suc v ≡ c * 2 ^ suc j % 2 ^ suc v
shift_on v j c =
    twice_mod (c * 2 ^ j % 2 ^ suc v) v ∙ ap (λ (n : ℕ). n * 2) (mod_less (c * 2 ^ j) v (suc v) (omega arith))
    ∙ sym (twice_mod (c * 2 ^ j) v)
    ∙ ap (λ (n : ℕ). n % 2 ^ suc v) (mul_assoc c (2 ^ j) 2 ∙ ap (λ (n : ℕ). c * n) (sym (pow-suc 2 j)))

-- ---- one step

-- the register after a step, by its feedback bit
abbrev mix : (v p : ℕ) → Bool → ℕ → ℕ
mix v p b r = cond b (bit_xor (r * 2 % 2 ^ suc v) p) (r * 2 % 2 ^ suc v)

module _ (v p : ℕ) (odd : p % 2 ≡ 1) (small : p < 2 ^ suc v) where
  even : (r : ℕ) → r * 2 % 2 ^ suc v % 2 ≡ 0
  even r = mod_less (r * 2) 1 (suc v) (omega arith) ∙ mul-mod_left r 2

  -- the polynomial's low bit shows the feedback bit
  low_bit : (b : Bool) (r : ℕ) → mix v p b r % 2 ≡ as_bit b
  unfolding as_bit
  low_bit true r = xor_mod (r * 2 % 2 ^ suc v) p 1 ∙ rw (even r, odd)
  low_bit false r = even r

  mix_below : (b : Bool) (r : ℕ) → mix v p b r < 2 ^ suc v
  mix_below true r = xor_lt (suc v) _ _ (mod-lt (r * 2) (pow_pos (suc v))) small
  mix_below false r = mod-lt (r * 2) (pow_pos (suc v))

  feedback : (k : ℕ) (b c : Bool) (r s : ℕ) → mix v p b r % 2 ^ suc k ≡ mix v p c s % 2 ^ suc k → b ≡ c
  feedback k b c r s e =
      as_bit_injective b c
      (sym (low_bit b r) ∙ sym (mod_less (mix v p b r) 1 (suc k) (omega arith)) ∙ ap (λ (n : ℕ). n % 2) e
      ∙ mod_less (mix v p c s) 1 (suc k) (omega arith) ∙ low_bit c s)

  shifted : (k : ℕ) → k ≤ v → (r s : ℕ) → r * 2 % 2 ^ suc v % 2 ^ suc k ≡ s * 2 % 2 ^ suc v % 2 ^ suc k → r % 2 ^ k ≡ s % 2 ^ k
  shifted k h r s e =
      let q : (r % 2 ^ k) * 2 ≡ (s % 2 ^ k) * 2 =
      sym (twice_mod r k) ∙ sym (mod_less (r * 2) (suc k) (suc v) (omega arith)) ∙ e
      ∙ mod_less (s * 2) (suc k) (suc v) (omega arith) ∙ twice_mod s k in
      omega (arith, q)

  back : (k : ℕ) → k ≤ v → (b : Bool) (r s : ℕ) → mix v p b r % 2 ^ suc k ≡ mix v p b s % 2 ^ suc k → r % 2 ^ k ≡ s % 2 ^ k
  back k h true r s e =
      shifted k h r s
      (xor_cancel _ _ (p % 2 ^ suc k)
      (sym (xor_mod (r * 2 % 2 ^ suc v) p (suc k)) ∙ e ∙ xor_mod (s * 2 % 2 ^ suc v) p (suc k)))
  back k h false r s e = shifted k h r s e

  -- ---- runs

  pub run_below : (r : ℕ) → r < 2 ^ suc v → (a : List Bool) → run (suc v) p r a < 2 ^ suc v
  run_below r h [] = h
  run_below r h (x ∷ a) = run_below (step (suc v) p r x) (mix_below (differs (bit r v) x) r) a

  -- from a window of at most suc v bits each bit can be read back
  window :
      (d e : List Bool) → length d ≡ length e → (k : ℕ) → length d + k ≤ suc v → (r s : ℕ)
      → run (suc v) p r d % 2 ^ (length d + k) ≡ run (suc v) p s e % 2 ^ (length d + k)
      → (r % 2 ^ k ≡ s % 2 ^ k) × (r ≡ s → d ≡ e)
  window [] [] l k h r s q =
      let z : 0 + k ≡ k = omega arith in (subst (λ (m : ℕ). r % 2 ^ m ≡ s % 2 ^ m) z q, λ _. refl)
  window [] (y ∷ e) l k h r s q = absurd (omega (arith, l))
  window (x ∷ d) [] l k h r s q = absurd (omega (arith, l))
  window (x ∷ d) (y ∷ e) l k h r s q =
      let m : suc (length d) + k ≡ length d + suc k = omega arith in
      let l' : length d ≡ length e = omega (arith, l) in
      let h' : length d + suc k ≤ suc v = omega (arith, h) in
      let b : Bool = differs (bit r v) x in
      let c : Bool = differs (bit s v) y in
      let ih = window d e l' (suc k) h' (mix v p b r) (mix v p c s)
      (subst (λ (n : ℕ). run (suc v) p (mix v p b r) d % 2 ^ n ≡ run (suc v) p (mix v p c s) e % 2 ^ n) m q) in
      let f : b ≡ c = feedback k b c r s ih.0 in
      let t : mix v p b r % 2 ^ suc k ≡ mix v p b s % 2 ^ suc k =
      ih.0 ∙ ap (λ (z : Bool). mix v p z s % 2 ^ suc k) (sym f) in (
        back k (omega (arith, h)) b r s t,
        λ same.
            let xy : x ≡ y = differs_cancel (bit r v) x y (f ∙ ap (λ (n : ℕ). differs (bit n v) y) (sym same)) in
            let st : mix v p b r ≡ mix v p c s =
            ap (λ (z : Bool). mix v p z r) f ∙ ap (λ (n : ℕ). mix v p c n) same in
            ap (λ (z : Bool). z ∷ d) xy ∙ ap (λ (z : List Bool). y ∷ z) (ih.1 st),
      )

  -- ---- a fixed end

  -- a step with a fixed bit loses nothing
  step_injective : (x : Bool) (r s : ℕ) → r < 2 ^ suc v → s < 2 ^ suc v → step (suc v) p r x ≡ step (suc v) p s x → r ≡ s
  step_injective x r s hr hs e =
      let b : Bool = differs (bit r v) x in
      let c : Bool = differs (bit s v) x in
      let f : b ≡ c = feedback v b c r s (ap (λ (n : ℕ). n % 2 ^ suc v) e) in
      let lo : r % 2 ^ v ≡ s % 2 ^ v =
      back v (omega arith) b r s (ap (λ (n : ℕ). n % 2 ^ suc v) (e ∙ ap (λ (z : Bool). mix v p z s) (sym f))) in
      let top : bit r v ≡ bit s v = differs_cancel_left (bit r v) (bit s v) x f in
      sym (split r v) ∙ ap₂ (λ (m n : ℕ). m * 2 ^ v + n) (top_equal v r s hr hs top) lo ∙ split s v

  run_injective : (a : List Bool) (r s : ℕ) → r < 2 ^ suc v → s < 2 ^ suc v → run (suc v) p r a ≡ run (suc v) p s a → r ≡ s
  run_injective [] r s hr hs e = e
  run_injective (x ∷ a) r s hr hs e =
      step_injective x r s hr hs
      (run_injective a (step (suc v) p r x) (step (suc v) p s x) (mix_below (differs (bit r v) x) r)
      (mix_below (differs (bit s v) x) s) e)

  -- ---- the register's own bits bring it to 0

  own : (k j c : ℕ) → k + j ≡ suc v → run (suc v) p (c * 2 ^ j % 2 ^ suc v) (word k c) ≡ 0
  unfolding word
  own zero j c e =
      let q : j ≡ suc v = omega (arith, e) in
      subst (λ (m : ℕ). c * 2 ^ m % 2 ^ suc v ≡ 0) (sym q) (mul-mod_left c (2 ^ suc v))
  own (suc k) j c e =
      let i : k + suc j ≡ suc v = omega (arith, e) in
      let r : ℕ = c * 2 ^ j % 2 ^ suc v in
      let top : bit r v ≡ bit c k = own_top v k j c (omega (arith, e)) in
      let f : differs (bit r v) (bit c k) ≡ false =
      ap (λ (t : Bool). differs t (bit c k)) top ∙ differs_self (bit c k) in
      let st : mix v p (differs (bit r v) (bit c k)) r ≡ c * 2 ^ suc j % 2 ^ suc v =
      ap (λ (z : Bool). mix v p z r) f ∙ shift_on v j c in
      ap (λ (n : ℕ). run (suc v) p n (word k c)) st ∙ own k (suc j) c i

  own_check_zero : (r : ℕ) → r < 2 ^ suc v → (t : List Bool) → EndsInOwnCheck (suc v) (run (suc v) p r) t → run (suc v) p r t ≡ 0
  own_check_zero r h t s =
      let c : ℕ = run (suc v) p r s.0 in
      let z : c * 2 ^ 0 % 2 ^ suc v ≡ c =
      ap (λ (n : ℕ). n % 2 ^ suc v) (mul-one c) ∙ mod-eq_of_lt (run_below r h s.0) in
      ap (run (suc v) p r) s.1 ∙ run_append (suc v) p r s.0 (word (suc v) c)
      ∙ ap (λ (n : ℕ). run (suc v) p n (word (suc v) c)) (sym z) ∙ own (suc v) 0 c (omega arith)

  pub burst : (r : ℕ) → r < 2 ^ suc v → Burst (suc v) (run (suc v) p r)
  burst r h a d e b l n ne s t =
      let q : ℕ = run (suc v) p r a in
      let hq : q < 2 ^ suc v = run_below r h a in
      let both : run (suc v) p (run (suc v) p q d) b ≡ run (suc v) p (run (suc v) p q e) b =
      sym (run_append (suc v) p r a (d ++ b) ∙ run_append (suc v) p q d b) ∙ own_check_zero r h (a ++ (d ++ b)) s
      ∙ sym (own_check_zero r h (a ++ (e ++ b)) t) ∙ run_append (suc v) p r a (e ++ b) ∙ run_append (suc v) p q e b in
      let same : run (suc v) p q d ≡ run (suc v) p q e =
      run_injective b (run (suc v) p q d) (run (suc v) p q e) (run_below q hq d) (run_below q hq e) both in
      ne ((window d e l 0 (omega (arith, n)) q q (ap (λ (m : ℕ). m % 2 ^ (length d + 0)) same)).1 refl)

-- ---- over the width itself

pub positive : {w : ℕ} → (w ≡ 8) ⊎ (w ≡ 16) → 0 < w
positive (inl e) = omega (arith, e)
positive (inr e) = omega (arith, e)

pub every_below :
    (w p r : ℕ) (f : List Bool → ℕ) → f ≡ run w p r → 0 < w → p % 2 ≡ 1 → p < 2 ^ w → r < 2 ^ w
    → (s : List Bool) → f s < 2 ^ w
every_below zero p r f e h odd small begun s = absurd (omega (arith, h))
every_below (suc v) p r f e h odd small begun s = subst (λ (g : List Bool → ℕ). g s < 2 ^ suc v) (sym e) (run_below v p odd small r begun s)

pub every_burst :
    (w p r : ℕ) (f : List Bool → ℕ) → f ≡ run w p r → 0 < w → p % 2 ≡ 1 → p < 2 ^ w → r < 2 ^ w → Burst w f
every_burst zero p r f e h odd small begun = absurd (omega (arith, h))
every_burst (suc v) p r f e h odd small begun = subst (Burst (suc v)) (sym e) (burst v p odd small r begun)
