-- Many bits at once, by tables of what a byte makes of the register 0.
-- Assumes nothing.
use Rattle.std.proofs.Common.{◌≡◌, ℕ, zero, suc, pred, cond, ◌+◌, ◌*◌, ◌/◌, ◌%◌, ◌^◌, ◌<◌, ◌≤◌, ◌-◌, ◌⊎◌, Bool, true, false, ◌&&◌, List, [], ◌∷◌, ◌++◌, length, append_assoc, get_or, bit_xor, nat_eq, refl, sym, ◌∙◌, ap, ap₂, subst, inl, inr, arith, mod-lt, mod-eq_of_lt, pow_pos, mul-one, mul_assoc, pow-suc, lit<}
use Rattle.std.proofs.Math.Nat.{add-zero, zero-add, zero-mod, mod-mod, mul-mod_left, pow-le-pow_right, mul_comm}
use Rattle.std.proofs.lemmas.Bool.{cases_eq, eqb-true}
use Rattle.std.proofs.lemmas.Nat.{xor_block, xor_comm, xor_lt, pow-add, shr-shr, mod-pow-add, field_of, shl-shr}
use Rattle.std.specs.Int.Bits.{xor_assoc, xor_self, xor_zero_l, xor_zero_r}
use Rattle.checks.specs.Bits.{bit, word, bits}
use Rattle.checks.specs.Crc.{differs, step, run}
use Rattle.checks.specs.Places.{run_append, length_bits}
use Rattle.checks.proofs.Linear.{run_xor, apart}
use Rattle.checks.proofs.Words.{bit_above, mod_less, word_low, word_join}

-- ---- a rule of 256 entries, by one test that computes

abbrev pub same_below : (ℕ → ℕ) → (ℕ → ℕ) → ℕ → Bool
same_below f g zero = true
same_below f g (suc n) = nat_eq (f n) (g n) && same_below f g n

both_of : (x y : Bool) → (x && y) ≡ true → (x ≡ true) × (y ≡ true)
both_of true y h = (refl, h)
both_of false y h = cc

pub same_at : (f g : ℕ → ℕ) (n : ℕ) → same_below f g n ≡ true → (b : ℕ) → b < n → f b ≡ g b
same_at f g zero h b lt = absurd (omega (arith, lt))
same_at f g (suc n) h b lt =
    let both = both_of (nat_eq (f n) (g n)) (same_below f g n) h in
    elim (cases_eq b n) [
      | inl same ↦ subst (λ (k : ℕ). f k ≡ g k) (sym same) (eqb-true (f n) (g n) both.0)
      | inr other ↦ same_at f g n both.1 b (omega arith)
    ]

-- ---- the two widths

pub narrow : {w : ℕ} → (w ≡ 8) ⊎ (w ≡ 16) → w ≤ 16
narrow (inl e) = omega (arith, e)
narrow (inr e) = omega (arith, e)

-- ---- zeros

step_none : (w p : ℕ) → step w p 0 false ≡ 0
step_none w p =
    ap (λ (t : Bool). cond (differs t false) (bit_xor (0 * 2 % 2 ^ w) p) (0 * 2 % 2 ^ w)) (bit_above 0 (pred w) (pow_pos (pred w)))
    ∙ zero-mod (2 ^ w)

-- in front they leave the register 0
pub leading : (w p c d x : ℕ) → x < 2 ^ c → run w p 0 (word (d + c) x) ≡ run w p 0 (word c x)
unfolding word
leading w p c zero x h = ap (λ (n : ℕ). run w p 0 (word n x)) (zero-add c)
leading w p c (suc d) x h =
    let q : suc d + c ≡ suc (d + c) = omega arith in
    let le : 2 ^ c ≤ 2 ^ (d + c) = pow-le-pow_right (lit< tt) (omega arith) in
    ap (λ (n : ℕ). run w p 0 (word n x)) q
    ∙ ap (λ (t : Bool). run w p (step w p 0 t) (word (d + c) x)) (bit_above x (d + c) (omega (arith, le, h)))
    ∙ ap (λ (n : ℕ). run w p n (word (d + c) x)) (step_none w p) ∙ leading w p c d x h

-- ---- a register's top bits bring it to what moves up

-- the first of the bits that are moved out is the top bit
first_out : (v c r : ℕ) → bit (r * 2 ^ suc c / 2 ^ suc v) c ≡ bit r v
first_out v c r =
    let q : suc v + c ≡ suc c + v = omega arith in
    ap (λ (n : ℕ). nat_eq (n % 2) 1)
    (shr-shr (r * 2 ^ suc c) (suc v) c ∙ ap (λ (i : ℕ). r * 2 ^ suc c / 2 ^ i) q ∙ sym (shr-shr (r * 2 ^ suc c) (suc c) v)
    ∙ ap (λ (n : ℕ). n / 2 ^ v) (shl-shr r (suc c)))

differs_self : (t : Bool) → differs t t ≡ false
differs_self true = refl
differs_self false = refl

twice : (r c : ℕ) → r * 2 * 2 ^ c ≡ r * 2 ^ suc c
twice r c = mul_assoc r 2 (2 ^ c) ∙ ap (λ (n : ℕ). r * n) (mul_comm 2 (2 ^ c) ∙ sym (pow-suc 2 c))

-- moved once and then by c, within the register's width and c bits more
once : (v c r : ℕ) → r * 2 % 2 ^ suc v * 2 ^ c ≡ r * 2 ^ suc c % 2 ^ (c + suc v)
once v c r =
    let y : ℕ = r * 2 * 2 ^ c in
    let q : suc v + c ≡ c + suc v = omega arith in
    let whole : y % 2 ^ (suc v + c) ≡ r * 2 % 2 ^ suc v * 2 ^ c =
    mod-pow-add y (suc v) c ∙ ap₂ (λ (a b : ℕ). a % 2 ^ suc v * 2 ^ c + b) (shl-shr (r * 2) c) (mul-mod_left (r * 2) (2 ^ c))
    ∙ add-zero (r * 2 % 2 ^ suc v * 2 ^ c) in
    sym whole ∙ ap₂ (λ (n k : ℕ). n % 2 ^ k) (twice r c) q

still_out : (v c r : ℕ) → r * 2 ^ suc c / 2 ^ suc v % 2 ^ c ≡ r * 2 % 2 ^ suc v * 2 ^ c / 2 ^ suc v % 2 ^ c
still_out v c r =
    sym
    (ap (λ (n : ℕ). n / 2 ^ suc v % 2 ^ c) (once v c r) ∙ ap (λ (n : ℕ). n % 2 ^ c) (field_of (r * 2 ^ suc c) c (suc v))
    ∙ mod-mod (r * 2 ^ suc c / 2 ^ suc v) (2 ^ c))

pub moved_out : (v p c r : ℕ) → r < 2 ^ suc v → run (suc v) p r (word c (r * 2 ^ c / 2 ^ suc v)) ≡ r * 2 ^ c % 2 ^ suc v
unfolding word
moved_out v p zero r h = sym (ap (λ (n : ℕ). n % 2 ^ suc v) (mul-one r) ∙ mod-eq_of_lt h)
moved_out v p (suc c) r h =
    let y : ℕ = r * 2 ^ suc c in
    let x : ℕ = y / 2 ^ suc v in
    let s : ℕ = r * 2 % 2 ^ suc v in
    ap (λ (t : Bool). run (suc v) p (cond (differs (bit r v) t) (bit_xor s p) s) (word c x)) (first_out v c r)
    ∙ ap (λ (t : Bool). run (suc v) p (cond t (bit_xor s p) s) (word c x)) (differs_self (bit r v))
    ∙ ap (run (suc v) p s) (word_low c x (s * 2 ^ c / 2 ^ suc v) (still_out v c r))
    ∙ moved_out v p c s (mod-lt (r * 2) (pow_pos (suc v)))
    ∙ ap (λ (n : ℕ). n % 2 ^ suc v) (once v c r) ∙ mod_less y (suc v) (c + suc v) (omega arith)

-- ---- the step

pub block :
    (w p r c x : ℕ) → 0 < w → r < 2 ^ w
    → bit_xor (run w p 0 (word c (bit_xor (r * 2 ^ c / 2 ^ w) x))) (r * 2 ^ c % 2 ^ w) ≡ run w p r (word c x)
block zero p r c x hw h = absurd (omega (arith, hw))
block (suc v) p r c x hw h =
    let out : ℕ = r * 2 ^ c / 2 ^ suc v in
    let met : ℕ = run (suc v) p 0 (word c (bit_xor out x)) in
    xor_comm met (r * 2 ^ c % 2 ^ suc v) ∙ ap (λ (n : ℕ). bit_xor n met) (sym (moved_out v p c r h))
    ∙ sym (run_xor (suc v) p c r 0 out (bit_xor out x))
    ∙ ap₂ (λ (n y : ℕ). run (suc v) p n (word c y)) (xor_zero_r r)
    (sym (xor_assoc out out x) ∙ ap (λ (n : ℕ). bit_xor n x) (xor_self out) ∙ xor_zero_l x)

-- ---- the register's bits, combined with the first two bytes

two_bytes :
    (w p r a b high low : ℕ)
    → 0 < w → w ≤ 16 → r < 2 ^ w → b < 256 → low < 256 → r * 2 ^ (16 - w) ≡ high * 256 + low
    → run w p r (word 8 a ++ word 8 b) ≡ run w p 0 (word 8 (bit_xor high a) ++ word 8 (bit_xor low b))
two_bytes w p r a b high low hw hs h hb hl e =
    let q : 16 ≡ 16 - w + w = omega arith in
    let x : ℕ = a * 2 ^ 8 + b in
    let top : ℕ = r * 2 ^ (16 - w) in
    let moved : r * 2 ^ 16 ≡ top * 2 ^ w =
    ap (λ (i : ℕ). r * 2 ^ i) q ∙ ap (λ (n : ℕ). r * n) (pow-add 2 (16 - w) w) ∙ sym (mul_assoc r (2 ^ (16 - w)) (2 ^ w)) in
    let out : r * 2 ^ 16 / 2 ^ w ≡ high * 2 ^ 8 + low = ap (λ (n : ℕ). n / 2 ^ w) moved ∙ shl-shr top w ∙ e in
    let none : r * 2 ^ 16 % 2 ^ w ≡ 0 = ap (λ (n : ℕ). n % 2 ^ w) moved ∙ mul-mod_left top (2 ^ w) in
    ap (run w p r) (sym (word_join 8 8 a b hb)) ∙ sym (block w p r 16 x hw h)
    ∙ ap₂ (λ (m n : ℕ). bit_xor (run w p 0 (word 16 (bit_xor m x))) n) out none
    ∙ xor_zero_r _
    ∙ ap (λ (n : ℕ). run w p 0 (word 16 n)) (xor_block 8 high a low b hl hb)
    ∙ ap (run w p 0) (word_join 8 8 (bit_xor high a) (bit_xor low b) (xor_lt 8 low b hl hb))

pub first_two :
    (w p r a b high low : ℕ) (rest : List ℕ)
    → 0 < w → w ≤ 16 → r < 2 ^ w → b < 256 → low < 256 → r * 2 ^ (16 - w) ≡ high * 256 + low
    → run w p 0 (bits (bit_xor high a ∷ bit_xor low b ∷ rest)) ≡ run w p r (bits (a ∷ b ∷ rest))
unfolding bits
first_two w p r a b high low rest hw hs h hb hl e =
    let x : List Bool = word 8 (bit_xor high a) in
    let y : List Bool = word 8 (bit_xor low b) in
    ap (run w p 0) (sym (append_assoc x y (bits rest))) ∙ run_append w p 0 (x ++ y) (bits rest)
    ∙ ap (λ (n : ℕ). run w p n (bits rest)) (sym (two_bytes w p r a b high low hw hs h hb hl e))
    ∙ sym (run_append w p r (word 8 a ++ word 8 b) (bits rest)) ∙ ap (run w p r) (append_assoc (word 8 a) (word 8 b) (bits rest))

-- ---- byte by byte

-- zeros behind a number
zeros_behind : (w p j m a : ℕ) → run w p 0 (word (j + m) (a * 2 ^ m)) ≡ run w p (run w p 0 (word j a)) (word m 0)
zeros_behind w p j m a =
    ap (λ (x : ℕ). run w p 0 (word (j + m) x)) (sym (add-zero (a * 2 ^ m))) ∙ ap (run w p 0) (word_join j m a 0 (pow_pos m))
    ∙ run_append w p 0 (word j a) (word m 0)

-- the first byte and the others, each for itself
pub byte_first :
    (w p b : ℕ) (bs : List ℕ)
    → run w p 0 (bits (b ∷ bs)) ≡ bit_xor (run w p 0 (word (8 * (length bs + 1)) (b * 2 ^ (8 * length bs)))) (run w p 0 (bits bs))
unfolding bits
byte_first w p b bs =
    let m : ℕ = 8 * length bs in
    let r : ℕ = run w p 0 (word 8 b) in
    let q : 8 + m ≡ 8 * (length bs + 1) = omega arith in
    run_append w p 0 (word 8 b) (bits bs) ∙ ap (λ (n : ℕ). run w p n (bits bs)) (sym (xor_zero_r r)) ∙ apart w p r 0 (bits bs)
    ∙ ap (λ (n : ℕ). bit_xor n (run w p 0 (bits bs)))
    (ap (λ (i : ℕ). run w p r (word i 0)) (length_bits bs) ∙ sym (zeros_behind w p 8 m b) ∙ ap (λ (i : ℕ). run w p 0 (word i (b * 2 ^ m))) q)

one_more_behind : (w p b k : ℕ) → run w p 0 (word (8 * (k + 1 + 1)) (b * 2 ^ (8 * (k + 1)))) ≡ run w p (run w p 0 (word (8 * (k + 1)) (b * 2 ^ (8 * k)))) (word 8 0)
one_more_behind w p b k =
    let q : 8 * (k + 1 + 1) ≡ 8 * (k + 1) + 8 = omega arith in
    let e : 8 * (k + 1) ≡ 8 * k + 8 = omega arith in
    let up : b * 2 ^ (8 * (k + 1)) ≡ b * 2 ^ (8 * k) * 2 ^ 8 =
    ap (λ (i : ℕ). b * 2 ^ i) e ∙ ap (λ (x : ℕ). b * x) (pow-add 2 (8 * k) 8) ∙ sym (mul_assoc b (2 ^ (8 * k)) (2 ^ 8)) in
    ap₂ (λ (i x : ℕ). run w p 0 (word i x)) q up ∙ zeros_behind w p (8 * (k + 1)) 8 (b * 2 ^ (8 * k))

-- each table by the one before
pub entries :
    (w p : ℕ) (tables : List (List ℕ))
    → same_below (λ b. get_or (get_or tables 0 []) b 0) (λ b. run w p 0 (word 8 b)) 256 ≡ true
    → ((k : ℕ) → k < 7 → same_below (λ b. get_or (get_or tables (suc k) []) b 0) (λ b. run w p (get_or (get_or tables k []) b 0) (word 8 0)) 256 ≡ true)
    → (k b : ℕ) → k < 8 → b < 256 → get_or (get_or tables k []) b 0 ≡ run w p 0 (word (8 * (k + 1)) (b * 2 ^ (8 * k)))
entries w p tables first next zero b hk hb =
    same_at (λ x. get_or (get_or tables 0 []) x 0) (λ x. run w p 0 (word 8 x)) 256 first b hb ∙ ap (λ (x : ℕ). run w p 0 (word 8 x)) (sym (mul-one b))
entries w p tables first next (suc k) b hk hb =
    let q : suc k ≡ k + 1 = omega arith in
    same_at (λ x. get_or (get_or tables (suc k) []) x 0) (λ x. run w p (get_or (get_or tables k []) x 0) (word 8 0)) 256
    (next k (omega (arith, hk))) b hb
    ∙ ap (λ (r : ℕ). run w p r (word 8 0)) (entries w p tables first next k b (omega (arith, hk)) hb)
    ∙ subst (λ (i : ℕ). run w p (run w p 0 (word (8 * (k + 1)) (b * 2 ^ (8 * k)))) (word 8 0) ≡ run w p 0 (word (8 * (i + 1)) (b * 2 ^ (8 * i)))) (sym q)
    (sym (one_more_behind w p b k))
