-- The map's bits by counts of ones and by masks.
use Rattle.std.proofs.Common.{◌≡◌, ℕ, zero, suc, ◌+◌, ◌-◌, ◌*◌, ◌/◌, ◌%◌, ◌^◌, ◌<◌, ◌≤◌, min, Bool, true, false, cond, not, ◌&&◌, ◌||◌, eqb, leb, sym, refl, ap, ◌∙◌, subst, ap₂, inl, inr, lt_of_lt_of_le, mod-eq_of_lt, suc-add, one-mul, zero-add, one-add, arith, pow_pos, pow_mono}
use native.Mathlib.Nat.{mod-one, div-eq_of_lt}
use lib.Bits.{bit_and, and_shr, and_step, and_le_l}
use lib.Count.{ones, ones_in, ones_cat}
use Rattle.std.proofs.lemmas.Bool.{eqb-true, eq-eqb, ne_eqb, le-leb, cases_eq, cases_lt, and_parts}
use Rattle.std.proofs.lemmas.Nat.{mod-pow-add, mod_below}
use Rattle.registers.proofs.Agree.{below_at}
use Rattle.profile.specs.Profile.{bit, names, size_at, may_name, names_only, named_below, place}

ones_bit : (a : ℕ) → a < 2 → ones a ≡ a
unfolding ones ones_in
ones_bit zero h = refl
ones_bit (suc zero) h = refl
ones_bit (suc (suc a)) h = absurd (omega arith)

-- a number by one bit more
more : (m r : ℕ) → m % 2 ^ suc r ≡ bit m r * 2 ^ r + m % 2 ^ r
more m r = rw (← one-add r) (mod-pow-add m 1 r)

ones_more : (m r : ℕ) → ones (m % 2 ^ suc r) ≡ bit m r + ones (m % 2 ^ r)
ones_more m r =
    let b : bit m r < 2 = omega arith in
    rw (more m r, ones_cat r (bit m r) (m % 2 ^ r) (mod_below m (2 ^ r) (pow_pos r)), ones_bit (bit m r) b)

-- the registers named below an address are the ones of the map's low part
pub count : (m r : ℕ) → named_below m r ≡ ones (m % 2 ^ r)
unfolding named_below ones ones_in
count m zero = sym (ap ones (mod-one m))
count m (suc r) = omega (arith, count m r, ones_more m r)

-- a bit of a masked number
and_bit : (a b r : ℕ) → bit (bit_and a b) r ≡ min (bit a r) (bit b r)
and_bit a b r = rw and_shr (omega (arith, and_step (a / 2 ^ r) (b / 2 ^ r)))

-- the mask of wide registers has just those of five bytes, and the others have one: tested at each register
wide : (r : ℕ) → r < 24 → size_at r ≡ 1 + 4 * bit 0x10C00 r
wide r h = eqb-true (size_at r) (1 + 4 * bit 0x10C00 r) (below_at 24 (λ k. eqb (size_at k) (1 + 4 * bit 0x10C00 k)) refl r h)

times : (b w : ℕ) → b < 2 → w < 2 → b * (1 + 4 * w) ≡ b + 4 * min b w
times zero w h k = omega arith
times (suc zero) w h k = omega arith
times (suc (suc b)) w h k = absurd (omega arith)

-- a field's place by two counts
pub by_counts : (m r : ℕ) → r ≤ 24 → place m r ≡ 4 + named_below m r + 4 * named_below (bit_and m 0x10C00) r
unfolding place named_below
by_counts m zero h = refl
by_counts m (suc r) h =
    rw (wide r h, and_bit m 0x10C00 r)
    (omega (arith, by_counts m r (omega arith), times (bit m r) (bit 0x10C00 r) (omega arith) (omega arith)))

place_mono : (m r j : ℕ) → place m r ≤ place m (j + r)
unfolding place
place_mono m r zero = rw zero-add (omega arith)
place_mono m r (suc j) = rw suc-add (omega (arith, place_mono m r j))

place_named : (m r : ℕ) → bit m r ≡ 1 → place m (suc r) ≡ place m r + size_at r
unfolding place
place_named m r b = rw b (rw one-mul)

-- the field of a named register lies within the whole
pub within : (m r : ℕ) → bit m r ≡ 1 → r < 24 → place m r + size_at r ≤ place m 24
within m r b h =
    let e : (23 - r) + suc r ≡ 24 = omega arith in
    let n : place m (suc r) ≤ place m 24 = rw e at (place_mono m (suc r) (23 - r)) in
    rw (← place_named m r b) n

or_not : (a b : Bool) → not a || b ≡ true → a ≡ true → b ≡ true
or_not true b h e = h
or_not false b h e = absurd (let z : ◌≡◌ {A = ℕ} 0 1 = cc in omega arith)

not-true : (b : Bool) → not b ≡ true → b ≡ false
not-true true e = sym e
not-true false e = refl

by_cases : (b : Bool) → (b ≡ true → false ≡ true) → b ≡ false
by_cases true h = sym (h refl)
by_cases false h = refl

agree : (a b : Bool) → cond a b (not b) ≡ true → a ≡ b
agree true b e = sym e
agree false true e = e
agree false false e = refl

-- the mask of allowed registers has just those that may be named: tested at each bit
allowed : (r : ℕ) → r < 32 → may_name r ≡ names 0x7FFC7F r
allowed r h = agree (may_name r) (names 0x7FFC7F r) (below_at 32 (λ k. cond (may_name k) (names 0x7FFC7F k) (not (names 0x7FFC7F k))) refl r h)

-- one bit more of a number and of the same number masked
bit_more : (x a p l k : ℕ) → x < 2 → a < 2 → l < p → k < p
    → (not (eqb x 1) || eqb a 1) && eqb l k ≡ eqb (min x a * p + l) (x * p + k)
bit_more zero a p l k hx ha hl hk =
    let z : min zero a ≡ 0 = omega arith in
    let e : min zero a * p + l ≡ l = ap (λ (n : ℕ). n * p + l) z ∙ omega arith in
    let f : zero * p + k ≡ k = omega arith in
    sym (ap₂ eqb e f)
bit_more (suc zero) zero p l k hx ha hl hk = sym (ne_eqb _ _ (λ e. omega arith))
bit_more (suc zero) (suc zero) p l k hx ha hl hk =
    elim (cases_eq l k) [
      | inl e ↦ eq-eqb l k e ∙ sym (eq-eqb (1 * p + l) (1 * p + k) (omega arith))
      | inr n ↦ ne_eqb l k n ∙ sym (ne_eqb (1 * p + l) (1 * p + k) (λ e. n (omega (arith, e))))
    ]
bit_more (suc (suc x)) a p l k hx ha hl hk = absurd (omega arith)
bit_more (suc zero) (suc (suc a)) p l k hx ha hl hk = absurd (omega arith)

masked : (m n : ℕ) → n ≤ 32 → names_only m n ≡ eqb (bit_and m 0x7FFC7F % 2 ^ n) (m % 2 ^ n)
unfolding names_only
masked m zero h = sym (ap₂ eqb (mod-one (bit_and m 0x7FFC7F)) (mod-one m))
masked m (suc r) h =
    let low = λ (v : ℕ). mod_below v (2 ^ r) (pow_pos r) in
    ap₂ (λ (x y : Bool). (not (names m r) || x) && y) (allowed r h) (masked m r (omega arith))
    ∙ bit_more (bit m r) (bit 0x7FFC7F r) (2 ^ r) (bit_and m 0x7FFC7F % 2 ^ r) (m % 2 ^ r) (omega arith) (omega arith) (low (bit_and m 0x7FFC7F)) (low m)
    ∙ sym (ap₂ eqb (more (bit_and m 0x7FFC7F) r ∙ ap (λ (b : ℕ). b * 2 ^ r + bit_and m 0x7FFC7F % 2 ^ r) (and_bit m 0x7FFC7F r)) (more m r))

-- a map that the mask leaves as it is names only registers that may be named
pub only_allowed : (m : ℕ) → m < 2 ^ 32 → eqb (bit_and m 0x7FFC7F) m ≡ names_only m 32
only_allowed m h =
    let l : bit_and m 0x7FFC7F < 2 ^ 32 = omega (arith, and_le_l m 0x7FFC7F) in
    sym (masked m 32 (omega arith) ∙ ap₂ eqb (mod-eq_of_lt l) (mod-eq_of_lt h))

-- so each register that it names is one of the table
named_is_register : (m n r : ℕ) → names_only m n ≡ true → names m r ≡ true → r < n → may_name r ≡ true
unfolding names_only
named_is_register m zero r t e h = absurd (omega arith)
named_is_register m (suc n) r t e h =
    let parts = and_parts (not (names m n) || may_name n) (names_only m n) t in
    let here : not (names m n) || may_name n ≡ true = parts.0 in
    let rest : names_only m n ≡ true = parts.1 in
    elim (cases_eq r n) [
      | inl q ↦ subst (λ (k : ℕ). names m k ≡ true → may_name k ≡ true) (sym q) (or_not (names m n) (may_name n) here) e
      | inr ne ↦ named_is_register m n r rest e (omega (arith, ne))
    ]

above : (r : ℕ) → r < 32 → 24 ≤ r → may_name r ≡ false
above r h l =
    let t = below_at 32 (λ k. cond (leb 24 k) (not (may_name k)) true) refl r h in
    not-true (may_name r) (sym (ap (λ (b : Bool). cond b (not (may_name r)) true) (le-leb 24 r l)) ∙ t)

-- a sound map names no register that is not there
pub none_above : (m r : ℕ) → m < 2 ^ 32 → names_only m 32 ≡ true → 24 ≤ r → names m r ≡ false
none_above m r h t l =
    elim (cases_lt r 32) [
      | inl k ↦ by_cases (names m r) (λ e. sym (above r k l) ∙ named_is_register m 32 r t e k)
      | inr k ↦ ap (λ (n : ℕ). eqb (n % 2) 1) (div-eq_of_lt (lt_of_lt_of_le h (pow_mono k)))
    ]
