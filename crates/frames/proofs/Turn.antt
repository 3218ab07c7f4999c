-- A pattern combined in bit by bit.
use Rattle.std.proofs.Common.{◌≡◌, ℕ, zero, suc, ◌+◌, ◌/◌, ◌%◌, ◌^◌, ◌<◌, ◌≤◌, Bool, true, false, not, eqb, ◌⊎◌, List, [], ◌∷◌, ◌++◌, length, get_or, take, drop, set, replicate, sym, refl, ap, ◌∙◌, ap₂, inl, inr, add_comm, suc-add, zero-add, arith, length-append, shr-shr}
use Rattle.std.proofs.lemmas.Bool.{cases_lt}
use Rattle.std.proofs.lemmas.List.{take-append-drop, take_at, length-take-le, length-take, length-drop, set-append_left, set_past, set-get_or, get_or_append_left}
use Rattle.checks.specs.Bits.{word}
use Rattle.checks.specs.Crc.{differs}
use Rattle.frames.specs.Damage.{flip, changed}
use Rattle.frames.proofs.Octets.{word_low}
use Rattle.frames.proofs.Spoil.{flip_none, flip_nil, length_flip}

differs_true : (x : Bool) → differs x true ≡ not x
differs_true true = refl
differs_true false = refl

differs_false : (x : Bool) → differs x false ≡ x
differs_false true = refl
differs_false false = refl

flip_more :
    (xs ys : List Bool) (i : ℕ) → i < length ys
    → flip xs (take (i + 1) ys) ≡ set (flip xs (take i ys)) i (differs (get_or (flip xs (take i ys)) i false) (get_or ys i false))
unfolding flip
flip_more xs [] i h = absurd (omega arith)
flip_more [] (y ∷ ys) i h = flip_nil (take (i + 1) (y ∷ ys)) ∙ sym (ap (λ (u : List Bool). set u i (differs (get_or u i false) (get_or (y ∷ ys) i false))) (flip_nil (take i (y ∷ ys))))
flip_more (x ∷ xs) (y ∷ ys) zero h = ap (λ (u : List Bool). differs x y ∷ u) (flip_none xs)
flip_more (x ∷ xs) (y ∷ ys) (suc i) h =
    let e : suc i + 1 ≡ suc (i + 1) = omega arith in
    rw e (ap (λ (u : List Bool). differs x y ∷ u) (flip_more xs ys i (omega arith)))

changed_more :
    (d ys : List Bool) (start i : ℕ) → i < length ys
    → changed d start (take (i + 1) ys) ≡ set (changed d start (take i ys)) (start + i) (differs (get_or (changed d start (take i ys)) (start + i) false) (get_or ys i false))
changed_more d ys zero i h = rw zero-add (flip_more d ys i h)
changed_more [] ys (suc s) i h =
    flip_nil (take (i + 1) ys)
    ∙ sym (ap (λ (u : List Bool). set u (suc s + i) (differs (get_or u (suc s + i) false) (get_or ys i false))) (flip_nil (take i ys)))
changed_more (x ∷ d) ys (suc s) i h = rw suc-add (ap (λ (u : List Bool). x ∷ u) (changed_more d ys s i h))

pub length_changed : (d : List Bool) (start : ℕ) (ys : List Bool) → length (changed d start ys) ≡ length d
length_changed d start ys =
    omega (arith, length-append (take start d) (flip (drop start d) ys), length_flip (drop start d) ys, length-take start d, length-drop start d)

-- one more bit of the pattern
module _ (d z ys : List Bool) (start i : ℕ) (h : i < length ys) where
  pub left_out : (get_or ys i false ≡ false) ⊎ (length d ≤ start + i) → changed d start (take i ys) ++ z ≡ changed d start (take (i + 1) ys) ++ z
  left_out (inl e) =
      let c = changed d start (take i ys) in
      let at = start + i in
      ap (λ (u : List Bool). u ++ z)
      (sym (changed_more d ys start i h ∙ ap (λ (x : Bool). set c at (differs (get_or c at false) x)) e
      ∙ ap (λ (x : Bool). set c at x) (differs_false (get_or c at false)) ∙ set-get_or c at false))
  left_out (inr l) =
      ap (λ (u : List Bool). u ++ z)
      (sym (changed_more d ys start i h ∙ set_past (changed d start (take i ys)) (start + i) _ (omega (arith, length_changed d start (take i ys)))))

  pub turned : get_or ys i false ≡ true → start + i < length d
      → set (changed d start (take i ys) ++ z) (start + i) (not (get_or (changed d start (take i ys) ++ z) (start + i) false)) ≡ changed d start (take (i + 1) ys) ++ z
  turned e l =
      let c = changed d start (take i ys) in
      let at = start + i in
      let lt : at < length c = omega (arith, length_changed d start (take i ys)) in
      set-append_left c z at _ lt
      ∙ ap (λ (u : List Bool). u ++ z)
      (ap (λ (x : Bool). set c at x) (ap not (get_or_append_left c z false at lt) ∙ sym (differs_true (get_or c at false)) ∙ ap (differs (get_or c at false)) (sym e))
      ∙ sym (changed_more d ys start i h))

pub turn_more :
    (b ys : List Bool) (count start i : ℕ) → i < length ys → get_or ys i false ≡ true → start + i < count
    → set (changed (take count b) start (take i ys) ++ drop count b) (start + i)
    (not (get_or (changed (take count b) start (take i ys) ++ drop count b) (start + i) false))
    ≡ changed (take count b) start (take (i + 1) ys) ++ drop count b
turn_more b ys count start i h e l =
    let d = take count b in
    let z = drop count b in
    elim (cases_lt (start + i) (length d)) [
      | inl k ↦ turned d z ys start i h e k
      | inr k ↦
          set_past (changed d start (take i ys) ++ z) (start + i) _
          (omega (arith, length-append (changed d start (take i ys)) z, length_changed d start (take i ys), length-take count b, length-drop count b))
          ∙ left_out d z ys start i h (inr k)
    ]

flip_short : (xs ys : List Bool) (n : ℕ) → length xs ≤ n → flip xs (take n ys) ≡ flip xs ys
unfolding flip
flip_short [] ys n h = flip_nil (take n ys) ∙ sym (flip_nil ys)
flip_short (x ∷ xs) ys zero h = absurd (omega (arith, h))
flip_short (x ∷ xs) [] (suc n) h = refl
flip_short (x ∷ xs) (y ∷ ys) (suc n) h = ap (λ (u : List Bool). differs x y ∷ u) (flip_short xs ys n (omega (arith, h)))

-- what of a pattern has no place in the string changes nothing
pub all_turned : (d ys : List Bool) (start n : ℕ) → length d ≤ start + n → changed d start (take n ys) ≡ changed d start ys
all_turned d ys start n h = ap (λ (u : List Bool). take start d ++ u) (flip_short (drop start d) ys n (omega (arith, h, length-drop start d)))

pub nothing_yet : (b : List Bool) (count start : ℕ) → b ≡ changed (take count b) start [] ++ drop count b
nothing_yet b count start =
    sym (ap (λ (u : List Bool). u ++ drop count b)
    (ap (λ (u : List Bool). take start (take count b) ++ u) (flip_none (drop start (take count b))) ∙ take-append-drop start (take count b))
    ∙ take-append-drop count b)

-- ---- patterns that are numbers

word_high : (a b p : ℕ) → word (a + b) p ≡ word a (p / 2 ^ b) ++ word b p
unfolding word
word_high zero b p = rw zero-add
word_high (suc a) b p =
    rw suc-add
    (ap₂ (λ (x : Bool) (xs : List Bool). x ∷ xs)
    (ap (λ (n : ℕ). eqb (n % 2) 1) (ap (λ (k : ℕ). p / 2 ^ k) (add_comm a b) ∙ sym (shr-shr p b a))) (word_high a b p))

flip_zeros : (xs ys : List Bool) (k : ℕ) → flip xs (ys ++ replicate k false) ≡ flip xs ys
unfolding flip
flip_zeros [] ys k = flip_nil (ys ++ replicate k false) ∙ sym (flip_nil ys)
flip_zeros (x ∷ xs) [] zero = refl
flip_zeros (x ∷ xs) [] (suc k) = ap₂ (λ (y : Bool) (ys : List Bool). y ∷ ys) (differs_false x) (flip_zeros xs [] k ∙ flip_none xs)
flip_zeros (x ∷ xs) (y ∷ ys) k = ap (λ (u : List Bool). differs x y ∷ u) (flip_zeros xs ys k)

-- a pattern in its top 8 bits alone
pub top_half : (t : List Bool) (start p : ℕ) → p % 256 ≡ 0 → changed t start (word 16 p) ≡ changed t start (word 8 (p / 256))
top_half t start p e =
    let z : word 8 p ≡ replicate 8 false = word_low 8 p e in
    ap (λ (u : List Bool). take start t ++ u)
    (ap (flip (drop start t)) (word_high 8 8 p ∙ ap (λ (u : List Bool). word 8 (p / 256) ++ u) z) ∙ flip_zeros (drop start t) (word 8 (p / 256)) 8)

-- the first n bits of what was changed there
pub taken_changed :
    (n : ℕ) (b : List Bool) (start : ℕ) (ys : List Bool) → n ≤ length b → take n (changed (take n b) start ys ++ drop n b) ≡ changed (take n b) start ys
taken_changed n b start ys h = take_at (changed (take n b) start ys) (drop n b) n (length_changed (take n b) start ys ∙ length-take-le n b h)
