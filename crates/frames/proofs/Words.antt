-- Numbers cut and joined, in bits; a byte in the bits of its buffer.
use Rattle.std.proofs.Common.{◌≡◌, ℕ, zero, suc, ◌+◌, ◌-◌, ◌*◌, ◌/◌, ◌%◌, ◌^◌, ◌<◌, ◌≤◌, Bool, eqb, List, [], ◌∷◌, ◌++◌, length, get_or, take, drop, set, sym, refl, ap, ◌∙◌, subst, ap₂, arith, mod-eq_of_lt, mul-le-mul_right, suc-add, zero-add, take-append-drop, take-add, inl, inr}
use Rattle.std.specs.Int.Bits.{bit_and, bit_or}
use lib.Seq.{paste, take-append-add, drop-append-add}
use Rattle.std.proofs.lemmas.Nat.{and_mask, or_shifted, shr-shr, shr_high, mod_low, mod_below, pow_pos, pow-add, shl_whole, shr_below}
use Rattle.std.proofs.lemmas.Nat.Bits.{ones_shr}
use Rattle.std.proofs.lemmas.List.{append_assoc, append-nil, take_all, take_at, drop_at, take-append-le, drop-append-le, length-take-le, length-drop, drop-drop, drop_more, take_more, take_more_set, length-take, get_or-take, get_or-drop, get_or_past}
use Rattle.std.proofs.lemmas.Bool.{cases_lt}
use Rattle.std.proofs.lemmas.List.Edits.{paste-paste, paste_all}
use Rattle.std.specs.Int.{w64, byte_at, bytes_high_first, from_be_bytes, to_be_bytes}
use Rattle.std.specs.Simd.{first_chunks}
use Rattle.std.proofs.Common.{pow-suc}
use Rattle.std.proofs.lemmas.Nat.{be_bytes_8}
use Rattle.std.proofs.lemmas.List.{drop_all}
use Rattle.std.proofs.lemmas.List.Edits.{take-paste}
use Rattle.checks.specs.Bits.{word, bits}
use Rattle.checks.specs.Places.{length_word, length_bits}
use Rattle.frames.specs.Octets.{number, octets}
use Rattle.frames.proofs.Octets.{same_number, bits_drop, number_append, octets_back, octets_front}
use Rattle.frames.proofs.Places.{bits_append, bits_one}

-- ---- a number of two parts

pub word_split : (a b v : ℕ) → word (a + b) v ≡ word a (v / 2 ^ b) ++ word b v
unfolding word
word_split zero b v = rw zero-add refl
word_split (suc a) b v =
    rw suc-add
    (ap₂ (λ (x : Bool) (xs : List Bool). x ∷ xs)
    (ap (λ (n : ℕ). eqb (n % 2) 1) (sym (shr-shr v b a ∙ ap (λ (n : ℕ). v / 2 ^ n) (omega arith))))
    (word_split a b v))

-- the low bits are those of the low part
pub word_mod : (k v : ℕ) → word k (v % 2 ^ k) ≡ word k v
word_mod k v = same_number k (v % 2 ^ k) v (mod-eq_of_lt (mod_below v (2 ^ k) (pow_pos k)))

pub word_join : (a b h l : ℕ) → l < 2 ^ b → word (a + b) (h * 2 ^ b + l) ≡ word a h ++ word b l
word_join a b h l lt =
    word_split a b (h * 2 ^ b + l)
    ∙ ap₂ (λ (x : ℕ) (y : List Bool). word a x ++ y) (shr_high h b l lt) (same_number b (h * 2 ^ b + l) l (mod_low h b l lt ∙ sym (mod-eq_of_lt lt)))

pub below_join : (a b h l : ℕ) → h < 2 ^ a → l < 2 ^ b → h * 2 ^ b + l < 2 ^ (a + b)
below_join a b h l u v =
    let m : suc h * 2 ^ b ≤ 2 ^ a * 2 ^ b = mul-le-mul_right (2 ^ b) u in
    rw pow-add (omega (arith, m, v))

-- the bits of a number from a place on
pub word_part : (a b c v : ℕ) → take b (drop a (word (a + b + c) v)) ≡ word b (v / 2 ^ c)
word_part a b c v =
    rw (word_split (a + b) c v, word_split a b (v / 2 ^ c))
    (ap (take b) (ap (drop a) (append_assoc (word a (v / 2 ^ c / 2 ^ b)) (word b (v / 2 ^ c)) (word c v))
    ∙ drop_at (word a (v / 2 ^ c / 2 ^ b)) (word b (v / 2 ^ c) ++ word c v) a (length_word a (v / 2 ^ c / 2 ^ b)))
    ∙ take_at (word b (v / 2 ^ c)) (word c v) b (length_word b (v / 2 ^ c)))

-- ---- what the code reckons

-- the ones of a mask
pub ones : (v k : ℕ) → k ≤ 8 → bit_and v (255 / 2 ^ (8 - k)) ≡ v % 2 ^ k
ones v k le =
    let s : 8 - (8 - k) ≡ k = omega arith in
    ap (bit_and v) (ones_shr 8 (8 - k) (omega arith) ∙ ap (λ (n : ℕ). 2 ^ n - 1) s) ∙ and_mask v k

-- a number shifted, with another in the place that is free
pub joined : (a b h l : ℕ) → h < 2 ^ a → l < 2 ^ b → a + b ≤ 16 → bit_or (h * 2 ^ b % 65536) l ≡ h * 2 ^ b + l
joined a b h l u v le = ap (λ (n : ℕ). bit_or n l) (shl_whole h a b 16 u le) ∙ or_shifted h b l v

pub across_right :
    (x y place : ℕ) → x < 256 → y < 256 → place ≤ 8
    → word 8 (bit_or (x * 256 % 65536) y / 2 ^ (8 - place) % 256) ≡ take 8 (drop place (word 8 x ++ word 8 y))
across_right x y place hx hy le =
    let both = bit_or (x * 256 % 65536) y in
    let e : both ≡ x * 2 ^ 8 + y = joined 8 8 x y hx hy (omega arith) in
    let s : place + 8 + (8 - place) ≡ 8 + 8 = omega arith in
    word_mod 8 (both / 2 ^ (8 - place)) ∙ sym (word_part place 8 (8 - place) both)
    ∙ ap (λ (w : List Bool). take 8 (drop place w)) (ap₂ word s e ∙ word_join 8 8 x y hy)

pub within_right :
    (x v j c e : ℕ) → x < 256 → j + c + e ≡ 8
    → word 8 (bit_or (bit_or (x / 2 ^ (e + c) * 2 ^ c % 65536) (bit_and v (255 / 2 ^ (8 - c))) * 2 ^ e % 65536) (bit_and x (255 / 2 ^ (8 - e))) % 256)
    ≡ paste (word 8 x) j (word c v) c
within_right x v j c e hx n =
    let h = x / 2 ^ (e + c) in
    let q : j + (e + c) ≡ 8 = omega arith in
    let hh : h < 2 ^ j = shr_below x j (e + c) (subst (λ (k : ℕ). x < 2 ^ k) (sym q) hx) in
    let lv = mod_below v (2 ^ c) (pow_pos c) in
    let lx = mod_below x (2 ^ e) (pow_pos e) in
    let m = h * 2 ^ c + v % 2 ^ c in
    let a1 = ap (bit_or (h * 2 ^ c % 65536)) (ones v c (omega arith)) ∙ joined j c h (v % 2 ^ c) hh lv (omega arith) in
    let a2 =
    ap₂ (λ (u w : ℕ). bit_or (u * 2 ^ e % 65536) w) a1 (ones x e (omega arith))
    ∙ joined (j + c) e m (x % 2 ^ e) (below_join j c h (v % 2 ^ c) hh lv) lx (omega arith) in
    let w1 : word (j + c + e) (m * 2 ^ e + x % 2 ^ e) ≡ word j h ++ word c v ++ word e x =
    word_join (j + c) e m (x % 2 ^ e) lx
    ∙ ap₂ (λ (u w : List Bool). u ++ w) (word_join j c h (v % 2 ^ c) lv ∙ ap (λ (w : List Bool). word j h ++ w) (word_mod c v)) (word_mod e x) in
    let f : take j (word 8 x) ≡ word j h = rw (← q) (ap (take j) (word_split j (e + c) x) ∙ take_at (word j h) (word (e + c) x) j (length_word j h)) in
    let d : drop (j + c) (word 8 x) ≡ word e x =
    rw (← n) (ap (drop (j + c)) (word_split (j + c) e x) ∙ drop_at (word (j + c) (x / 2 ^ e)) (word e x) (j + c) (length_word (j + c) (x / 2 ^ e))) in
    let t : take c (word c v) ≡ word c v = take_all c (word c v) (omega (arith, length_word c v)) in
    word_mod 8 _ ∙ ap (word 8) a2 ∙ ap (λ (k : ℕ). word k (m * 2 ^ e + x % 2 ^ e)) (sym n) ∙ w1
    ∙ sym (ap₂ (λ (u w : List Bool). u ++ w) (ap₂ (λ (u w : List Bool). u ++ w) f t) d)

-- ---- bytes in a buffer's bits

pub bits_from : (xs : List ℕ) (i : ℕ) → i < length xs → drop (8 * i) (bits xs) ≡ word 8 (get_or xs i 0) ++ bits (drop (i + 1) xs)
unfolding bits
bits_from xs i h = bits_drop i xs ∙ ap bits (drop_more xs i 0 h)

pub bits_take : (k : ℕ) (xs : List ℕ) → k ≤ length xs → take (8 * k) (bits xs) ≡ bits (take k xs)
bits_take k xs h =
    ap (take (8 * k)) (ap bits (sym (take-append-drop k xs)) ∙ bits_append (take k xs) (drop k xs))
    ∙ take_at (bits (take k xs)) (bits (drop k xs)) (8 * k) (omega (arith, length_bits (take k xs), length-take-le k xs h))

-- a write within a byte
pub put_byte :
    (xs : List ℕ) (i j k n y : ℕ) (s : List Bool) → i < length xs → j + n ≤ 8 → k ≡ 8 * i + j
    → word 8 y ≡ paste (word 8 (get_or xs i 0)) j s n → bits (set xs i y) ≡ paste (bits xs) k s n
unfolding bits
put_byte [] i j k n y s h l e f = absurd (omega arith)
put_byte (x ∷ xs) zero j k n y s h l e f =
    let q : k ≡ j = omega arith in
    let w = length_word 8 x in
    rw q
    (ap (λ (u : List Bool). u ++ bits xs) f ∙ append_assoc (take j (word 8 x) ++ take n s) (drop (j + n) (word 8 x)) (bits xs)
    ∙ sym (ap₂ (λ (u v : List Bool). u ++ take n s ++ v) (take-append-le j (word 8 x) (bits xs) (omega (arith, w)))
    (drop-append-le (j + n) (word 8 x) (bits xs) (omega (arith, w)))))
put_byte (x ∷ xs) (suc i) j k n y s h l e f =
    let w = word 8 x in
    let q : k ≡ length w + (k - 8) = omega (arith, length_word 8 x) in
    let r : k + n ≡ length w + (k - 8 + n) = omega (arith, length_word 8 x) in
    ap (λ (u : List Bool). w ++ u) (put_byte xs i j (k - 8) n y s (omega arith) l (omega arith) f)
    ∙ sym (append_assoc w (take (k - 8) (bits xs) ++ take n s) _) ∙ ap (λ (u : List Bool). u ++ drop (k - 8 + n) (bits xs)) (sym (append_assoc w (take (k - 8) (bits xs)) (take n s)))
    ∙ sym (ap₂ (λ (u v : List Bool). u ++ take n s ++ v) (ap (λ (m : ℕ). take m (w ++ bits xs)) q ∙ take-append-add w (bits xs) (k - 8))
    (ap (λ (m : ℕ). drop m (w ++ bits xs)) r ∙ drop-append-add w (bits xs) (k - 8 + n)))

-- the bits within a byte
pub get_byte :
    (xs : List ℕ) (i j at c e : ℕ) → i < length xs → at ≡ 8 * i + j → j + c + e ≡ 8
    → take c (drop at (bits xs)) ≡ word c (get_or xs i 0 / 2 ^ e)
get_byte xs i j at c e h a n =
    let w = word 8 (get_or xs i 0) in
    let rest = bits (drop (i + 1) xs) in
    let l = length_word 8 (get_or xs i 0) in
    ap (take c) (ap (λ (m : ℕ). drop m (bits xs)) a ∙ sym (drop-drop j (8 * i) (bits xs)) ∙ ap (drop j) (bits_from xs i h)
    ∙ drop-append-le j w rest (omega (arith, l)))
    ∙ take-append-le c (drop j w) rest (omega (arith, l, length-drop j w))
    ∙ ap (λ (m : ℕ). take c (drop j (word m (get_or xs i 0)))) (sym n) ∙ word_part j c e (get_or xs i 0)

-- a number's low bits, written in two goes
pub put_twice :
    (d now next : List Bool) (at room rest count v : ℕ) → count ≡ room + rest → at ≤ length d
    → now ≡ paste d at (word room (v / 2 ^ rest)) room → next ≡ paste now (at + room) (word rest v) rest → next ≡ paste d at (word count v) count
put_twice d now next at room rest count v n l e f =
    let p = paste-paste d at (word room (v / 2 ^ rest)) (word rest v) room rest (sym (length_word room (v / 2 ^ rest))) (sym (length_word rest v)) l in
    let s = word_split room rest v in
    rw n cc

-- and read in two goes
pub get_twice :
    (b : List Bool) (at room rest count first next : ℕ) → count ≡ room + rest → count ≤ 16 → at + count ≤ length b
    → first ≡ number (take room (drop at b)) → next ≡ number (take rest (drop (at + room) b)) → first < 2 ^ room → next < 2 ^ rest
    → (bit_or (first * 2 ^ rest % 65536) next ≡ number (take count (drop at b))) × (bit_or (first * 2 ^ rest % 65536) next < 2 ^ count)
get_twice b at room rest count first next n small l e f u v =
    let o = joined room rest first next u v (omega arith) in
    let d = drop room (drop at b) in
    let q = drop-drop room at b in
    let m : length (take rest d) ≡ rest = rw q (length-take-le rest (drop (at + room) b) (omega (arith, length-drop (at + room) b))) in (
      o
          ∙ sym (ap (λ (k : ℕ). number (take k (drop at b))) n ∙ ap number (take-add room rest (drop at b))
          ∙ number_append (take room (drop at b)) (take rest d) rest m
          ∙ ap₂ (λ (x y : ℕ). x * 2 ^ rest + y) (sym e) (ap (λ (t : List Bool). number (take rest t)) q ∙ sym f)),
      rw (o, n) (below_join room rest first next u v),
    )

-- the same in three goes, the second of which are 8 bits
pub put_thrice :
    (d b1 b2 b3 : List Bool) (at room rest count v : ℕ) → count ≡ room + rest → 8 ≤ rest → at ≤ length d
    → b1 ≡ paste d at (word room (v / 2 ^ rest)) room → b2 ≡ paste b1 (at + room) (word 8 (v / 2 ^ (rest - 8))) 8
    → b3 ≡ paste b2 (at + room + 8) (word (rest - 8) v) (rest - 8) → b3 ≡ paste d at (word count v) count
put_thrice d b1 b2 b3 at room rest count v n le l e1 e2 e3 =
    let k : rest - 8 + 8 ≡ rest = omega arith in
    let high : v / 2 ^ rest ≡ v / 2 ^ (rest - 8) / 2 ^ 8 = ap (λ (m : ℕ). v / 2 ^ m) (sym k) ∙ sym (shr-shr v (rest - 8) 8) in
    let on : at + room + 8 ≡ at + (room + 8) = omega arith in
    put_twice d b2 b3 at (room + 8) (rest - 8) count v (omega arith) l
    (put_twice d b1 b2 at room 8 (room + 8) (v / 2 ^ (rest - 8)) refl l (e1 ∙ ap (λ (x : ℕ). paste d at (word room x) room) high) e2)
    (e3 ∙ ap (λ (m : ℕ). paste b2 m (word (rest - 8) v) (rest - 8)) on)

pub get_thrice :
    (b : List Bool) (at room rest count first second third : ℕ) → count ≡ room + rest → 8 ≤ rest → count ≤ 16 → at + count ≤ length b
    → first ≡ number (take room (drop at b)) → second ≡ number (take 8 (drop (at + room) b)) → third ≡ number (take (rest - 8) (drop (at + room + 8) b))
    → first < 2 ^ room → second < 2 ^ 8 → third < 2 ^ (rest - 8)
    → (bit_or (bit_or (first * 256 % 65536) second * 2 ^ (rest - 8) % 65536) third ≡ number (take count (drop at b)))
    × (bit_or (bit_or (first * 256 % 65536) second * 2 ^ (rest - 8) % 65536) third < 2 ^ count)
get_thrice b at room rest count first second third n le small l e1 e2 e3 u1 u2 u3 =
    let h = get_twice b at room 8 (room + 8) first second refl (omega arith) (omega arith) e1 e2 u1 u2 in
    let on : at + room + 8 ≡ at + (room + 8) = omega arith in
    get_twice b at (room + 8) (rest - 8) count (bit_or (first * 256 % 65536) second) third (omega arith) small l
    h.0 (e3 ∙ ap (λ (m : ℕ). number (take (rest - 8) (drop m b))) on) h.1 u3

-- ---- whole bytes

-- bytes copied from a byte's start on
pub get_copied :
    (xs : List ℕ) (k n : ℕ) → ((i : ℕ) → get_or xs i 0 < 256) → k + n ≤ length xs → take n (drop k xs) ≡ octets n (drop (8 * k) (bits xs))
get_copied xs k n h l =
    let ys = take n (drop k xs) in
    let ly : length ys ≡ n = length-take-le n (drop k xs) (omega (arith, length-drop k xs)) in
    let b : drop (8 * k) (bits xs) ≡ bits ys ++ bits (drop n (drop k xs)) =
    bits_drop k xs ∙ ap bits (sym (take-append-drop n (drop k xs))) ∙ bits_append ys (drop n (drop k xs)) in
    sym (ap (octets n) b ∙ octets_front n (bits ys) (bits (drop n (drop k xs))) (omega (arith, length_bits ys))
    ∙ ap (λ (m : ℕ). octets m (bits ys)) (sym ly)
    ∙ octets_back ys (λ i. below i))
  where
    below : (i : ℕ) → get_or (take n (drop k xs)) i 0 < 256
    below i =
        elim (cases_lt i n) [
          | inl lt ↦ rw (get_or-take n (drop k xs) i 0 lt, get_or-drop k xs i 0) (h (k + i))
          | inr ge ↦ rw (get_or_past (take n (drop k xs)) i 0 (omega (arith, length-take n (drop k xs)))) (omega arith)
        ]

pub put_copied :
    (xs ys : List ℕ) (k : ℕ) → k + length ys ≤ length xs → bits (paste xs k ys (length ys)) ≡ paste (bits xs) (8 * k) (bits ys) (8 * length ys)
put_copied xs ys k l =
    let n = length ys in
    let z : 8 * k + 8 * n ≡ 8 * (k + n) = omega arith in
    ap bits (paste_all xs k ys n refl) ∙ bits_append (take k xs) (ys ++ drop (k + n) xs)
    ∙ ap₂ (λ (u v : List Bool). u ++ v) (sym (bits_take k xs (omega arith)))
    (bits_append ys (drop (k + n) xs) ∙ ap (λ (u : List Bool). bits ys ++ u) (sym (ap (λ (m : ℕ). drop m (bits xs)) z ∙ bits_drop (k + n) xs)))
    ∙ sym (paste_all (bits xs) (8 * k) (bits ys) (8 * n) (sym (length_bits ys)))

-- ---- bytes written across two

-- the byte across two has the rest of the first and the front of the second
two_parts : (s : ℕ) (a b : List Bool) → length a ≡ 8 → length b ≡ 8 → s ≤ 8 → take 8 (drop s (a ++ b)) ≡ drop s a ++ take s b
two_parts s a b la lb le =
    let m : 8 ≡ length (drop s a) + s = omega (arith, length-drop s a) in
    ap (take 8) (drop-append-le s a b (omega arith)) ∙ ap (λ (n : ℕ). take n (drop s a ++ b)) m ∙ take-append-add (drop s a) b s

-- the last bits of a byte
low_word : (s v : ℕ) → s ≤ 8 → drop (8 - s) (word 8 v) ≡ word s v
low_word s v le =
    let e : 8 - s + s ≡ 8 = omega arith in
    ap (λ (k : ℕ). drop (8 - s) (word k v)) (sym e) ∙ ap (drop (8 - s)) (word_split (8 - s) s v)
    ∙ drop_at (word (8 - s) (v / 2 ^ s)) (word s v) (8 - s) (length_word (8 - s) (v / 2 ^ s))

-- What is filled after i of the bytes: the last bits of the byte `last` are left.
abbrev pub Filled : (first : ℕ) (src : List ℕ) (place : ℕ) (now : List ℕ) (last i : ℕ) → Type 0
Filled first src place now last i = bits (take i now) ++ word place last ≡ word place first ++ bits (take i src)

pub filled_none : (src now : List ℕ) (place first : ℕ) → Filled first src place now first 0
unfolding bits
filled_none src now place first = sym (append-nil (word place first))

pub filled_one :
    (first : ℕ) (src now : List ℕ) (place last i b y : ℕ) → i < length src → i < length now → place ≤ 8 → b ≡ get_or src i 0
    → word 8 y ≡ take 8 (drop (8 - place) (word 8 last ++ word 8 b))
    → Filled first src place now last i → Filled first src place (set now i y) b (i + 1)
filled_one first src now place last i b y hs hn le eb e w =
    let s = 8 - place in
    let p = bits (take i now) in
    let a = word 8 b in
    let d = word place last in
    let ey : word 8 y ≡ d ++ take s a =
    e ∙ two_parts s (word 8 last) a (length_word 8 last) (length_word 8 b) (omega arith)
    ∙ ap (λ (u : List Bool). u ++ take s a) (low_word place last le) in
    let one : bits (take (i + 1) (set now i y)) ≡ p ++ (d ++ take s a) =
    ap bits (take_more_set now i y hn) ∙ bits_append (take i now) (y ∷ []) ∙ ap (λ (u : List Bool). p ++ u) (bits_one y ∙ ey) in
    let src' : bits (take (i + 1) src) ≡ bits (take i src) ++ a =
    ap bits (take_more src i 0 hs ∙ ap (λ (x : ℕ). take i src ++ x ∷ []) (sym eb)) ∙ bits_append (take i src) (b ∷ [])
    ∙ ap (λ (u : List Bool). bits (take i src) ++ u) (bits_one b) in
    ap₂ (λ (u v : List Bool). u ++ v) (one ∙ sym (append_assoc p d (take s a))) (sym (low_word place b le))
    ∙ append_assoc (p ++ d) (take s a) (drop s a)
    ∙ ap₂ (λ (u v : List Bool). u ++ v) w (take-append-drop s a)
    ∙ append_assoc (word place first) (bits (take i src)) a ∙ ap (λ (u : List Bool). word place first ++ u) (sym src')

-- eight bytes at once
pub filled_eight :
    (first : ℕ) (src now : List ℕ) (place last i : ℕ) (ys eight : List ℕ) → i + 8 ≤ length src → i + 8 ≤ length now → place ≤ 8
    → eight ≡ take 8 (drop i src) → length ys ≡ 8 → bits ys ≡ word place last ++ take (64 - place) (bits eight)
    → Filled first src place now last i → Filled first src place (paste now i ys 8) (get_or eight 7 0) (i + 8)
unfolding bits
filled_eight first src now s last i ys eight hs hn small ee ly ey w =
    let p = bits (take i now) in
    let d = word s last in
    let b = bits eight in
    let z = get_or eight 7 0 in
    let le : length eight ≡ 8 = ap length ee ∙ length-take-le 8 (drop i src) (omega (arith, length-drop i src)) in
    let q : 64 - s ≡ 56 + (8 - s) = omega arith in
    let tail : drop (64 - s) b ≡ word s z =
    ap (λ (m : ℕ). drop m b) q ∙ sym (drop-drop (8 - s) 56 b)
    ∙ ap (drop (8 - s)) (bits_from eight 7 (omega (arith, le)) ∙ ap (λ (zs : List ℕ). word 8 z ++ bits zs) (drop_all 8 eight (omega (arith, le))) ∙ append-nil (word 8 z))
    ∙ low_word s z small in
    let one : bits (take (i + 8) (paste now i ys 8)) ≡ p ++ (d ++ take (64 - s) b) =
    ap bits (take-paste now i ys 8 (omega arith) (omega (arith, ly))) ∙ bits_append (take i now) (take 8 ys)
    ∙ ap (λ (u : List Bool). p ++ u) (ap bits (take_all 8 ys (omega (arith, ly))) ∙ ey) in
    let src' : bits (take (i + 8) src) ≡ bits (take i src) ++ b =
    ap bits (take-add i 8 src) ∙ bits_append (take i src) (take 8 (drop i src)) ∙ ap (λ (zs : List ℕ). bits (take i src) ++ bits zs) (sym ee) in
    ap (λ (u : List Bool). u ++ word s z) (one ∙ sym (append_assoc p d (take (64 - s) b)))
    ∙ append_assoc (p ++ d) (take (64 - s) b) (word s z)
    ∙ ap₂ (λ (u v : List Bool). u ++ v) w (ap (λ (u : List Bool). take (64 - s) b ++ u) (sym tail) ∙ take-append-drop (64 - s) b)
    ∙ append_assoc (word s first) (bits (take i src)) b ∙ ap (λ (u : List Bool). word s first ++ u) (sym src')

-- Bytes were filled by the last bits of a byte and by others, and what is left of these is written behind.
pub put_left :
    (old : List ℕ) (start place first last : ℕ) (src out : List ℕ) (next : List Bool) → start + length src ≤ length old → length out ≡ length src
    → bits out ++ word place last ≡ word place first ++ bits src
    → next ≡ paste (bits (paste old start out (length src))) (8 * (start + length src)) (word place last) place
    → next ≡ paste (bits old) (8 * start) (word place first ++ bits src) (place + 8 * length src)
put_left old start place first last src out next h lo e f =
    let n = length src in
    let k = 8 * start in
    let d = bits old in
    let z : 8 * (start + n) ≡ k + 8 * n = omega arith in
    let m : 8 * n + place ≡ place + 8 * n = omega arith in
    let now : bits (paste old start out n) ≡ paste d k (bits out) (8 * n) =
    subst (λ (q : ℕ). bits (paste old start out q) ≡ paste d k (bits out) (8 * q)) lo (put_copied old out start (omega arith)) in
    f ∙ ap₂ (λ (b : List Bool) (at : ℕ). paste b at (word place last) place) now z
    ∙ paste-paste d k (bits out) (word place last) (8 * n) place (omega (arith, length_bits out, lo)) (sym (length_word place last)) (omega (arith, length_bits old))
    ∙ ap₂ (λ (t : List Bool) (q : ℕ). paste d k t q) e m

-- Bytes were filled with the bits from the place on.
pub got_across :
    (xs out : List ℕ) (at last : ℕ) → at / 8 + length out < length xs → ((i : ℕ) → get_or out i 0 < 256)
    → bits out ++ word (8 - at % 8) last ≡ word (8 - at % 8) (get_or xs (at / 8) 0) ++ bits (take (length out) (drop (at / 8 + 1) xs))
    → out ≡ octets (length out) (drop at (bits xs))
got_across xs out at last h by e =
    let n = length out in
    let k = at / 8 in
    let s = at % 8 in
    let x = get_or xs k 0 in
    let rest = drop (k + 1) xs in
    let d = word (8 - s) last in
    let z : s ≡ 8 - (8 - s) = omega arith in
    let m : at ≡ 8 * k + s = omega arith in
    let all : drop at (bits xs) ≡ bits out ++ (d ++ bits (drop n rest)) =
    ap (λ (q : ℕ). drop q (bits xs)) m ∙ sym (drop-drop s (8 * k) (bits xs)) ∙ ap (drop s) (bits_from xs k (omega arith))
    ∙ drop-append-le s (word 8 x) (bits rest) (omega (arith, length_word 8 x))
    ∙ ap₂ (λ (u v : List Bool). u ++ v) (ap (λ (q : ℕ). drop q (word 8 x)) z ∙ low_word (8 - s) x (omega arith))
    (ap bits (sym (take-append-drop n rest)) ∙ bits_append (take n rest) (drop n rest))
    ∙ sym (append_assoc (word (8 - s) x) (bits (take n rest)) (bits (drop n rest)))
    ∙ ap (λ (u : List Bool). u ++ bits (drop n rest)) (sym e) ∙ append_assoc (bits out) d (bits (drop n rest)) in
    sym (ap (octets n) all ∙ octets_front n (bits out) (d ++ bits (drop n rest)) (omega (arith, length_bits out)) ∙ octets_back out by)

-- ---- eight bytes as one number

pow256 : (k : ℕ) → 256 ^ k ≡ 2 ^ (8 * k)
pow256 zero = refl
pow256 (suc k) =
    let e : 8 * suc k ≡ 8 + 8 * k = omega arith in
    rw e (omega (arith, pow-suc 256 k, pow-add 2 8 (8 * k), pow256 k))

top : (k n : ℕ) → word 8 (byte_at k n) ≡ word 8 (n / 2 ^ (8 * k))
top zero n = word_mod 8 n ∙ ap (word 8) (omega arith)
top (suc k) n = word_mod 8 (n / 256 ^ suc k) ∙ ap (λ (m : ℕ). word 8 (n / m)) (pow256 (suc k))

bytes_bits : (k n : ℕ) → bits (bytes_high_first k n) ≡ word (8 * k) n
unfolding bits word
bytes_bits zero n = refl
bytes_bits (suc k) n =
    let e : 8 * suc k ≡ 8 + 8 * k = omega arith in
    ap₂ (λ (x y : List Bool). x ++ y) (top k n) (bytes_bits k n) ∙ sym (ap (λ (m : ℕ). word m n) e ∙ word_split 8 (8 * k) n)

pub across_eight_right :
    (last s number : ℕ) (eight : List ℕ) → s < 8 → number < 2 ^ 64 → length eight ≡ 8 → ((i : ℕ) → get_or eight i 0 < 256) → number ≡ from_be_bytes w64 eight
    → bits (to_be_bytes w64 (bit_or (bit_and last (255 / 2 ^ (8 - s)) * 2 ^ (64 - s) % 18446744073709551616) (number / 2 ^ s)))
    ≡ word s last ++ take (64 - s) (bits eight)
across_eight_right last s number eight h8 hn le by e =
    let r = last % 2 ^ s in
    let t = 64 - s in
    let u : s + t ≡ 64 = omega arith in
    let v : t + s ≡ 64 = omega arith in
    let lr = mod_below last (2 ^ s) (pow_pos s) in
    let ln : number / 2 ^ s < 2 ^ t = shr_below number t s (subst (λ (k : ℕ). number < 2 ^ k) (sym v) hn) in
    let m = r * 2 ^ t + number / 2 ^ s in
    let o : bit_or (bit_and last (255 / 2 ^ (8 - s)) * 2 ^ t % 18446744073709551616) (number / 2 ^ s) ≡ m =
    ap (λ (x : ℕ). bit_or (x * 2 ^ t % 18446744073709551616) (number / 2 ^ s)) (ones last s (omega arith))
    ∙ ap (λ (x : ℕ). bit_or x (number / 2 ^ s)) (shl_whole r s t 64 lr (omega arith)) ∙ or_shifted r t (number / 2 ^ s) ln in
    let f : take t (bits eight) ≡ word t (number / 2 ^ s) =
    ap (take t) (ap bits (sym (be_bytes_8 eight number le by e)) ∙ bytes_bits 8 number ∙ ap (λ (k : ℕ). word k number) (sym v) ∙ word_split t s number)
    ∙ take_at (word t (number / 2 ^ s)) (word s number) t (length_word t (number / 2 ^ s)) in
    ap (λ (x : ℕ). bits (to_be_bytes w64 x)) o ∙ bytes_bits 8 m ∙ ap (λ (k : ℕ). word k m) (sym u) ∙ word_join s t r (number / 2 ^ s) ln
    ∙ ap₂ (λ (x y : List Bool). x ++ y) (word_mod s last) (sym f)

-- a chunk of eight
pub chunk_at : (k : ℕ) (xs : List ℕ) (i : ℕ) → i < k → get_or (first_chunks 8 k xs) i [] ≡ take 8 (drop (8 * i) xs)
chunk_at zero xs i h = absurd (omega (arith, h))
chunk_at (suc k) xs zero h = refl
chunk_at (suc k) xs (suc i) h =
    let e : 8 + 8 * i ≡ 8 * suc i = omega arith in
    chunk_at k (drop 8 xs) i (omega (arith, h)) ∙ ap (take 8) (drop-drop (8 * i) 8 xs ∙ ap (λ (m : ℕ). drop m xs) e)
