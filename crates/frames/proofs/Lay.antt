-- A frame buffer-after down part after part.
use Rattle.std.proofs.Common.{◌≡◌, ℕ, ◌+◌, ◌-◌, ◌*◌, ◌/◌, ◌<◌, ◌≤◌, Bool, true, false, cond, ◌⊎◌, List, [], ◌∷◌, ◌++◌, reverse, length, get_or, take, drop, replicate, sym, refl, ap, ◌∙◌, subst, ap₂, inl, inr, arith, length-append}
use Rattle.std.specs.Int.{from_bool}
use lib.Seq.{paste}
use Rattle.std.proofs.lemmas.List.{append_assoc, length-reverse, get_or_append_left, take_at, drop_at, length-take-le, take-append-le, take-take}
use Rattle.std.proofs.lemmas.List.Edits.{paste_all}
use Rattle.checks.specs.Bits.{word, bits}
use Rattle.checks.specs.Places.{length_word, length_bits}
use Rattle.frames.specs.Octets.{octets}
use Rattle.frames.specs.Packet.{Packet, covered, preamble, frame_bits, buffer_after}
use Rattle.frames.proofs.Places.{then_put, bits_append}
use Rattle.frames.proofs.Octets.{front_octets, bits_octets, length_octets}

word_one : (b : Bool) → word 1 (from_bool b) ≡ b ∷ []
unfolding word
word_one true = refl
word_one false = refl

pub length_covered : (s : Packet) → length (covered s) ≡ 8 * length s.address + 9 + 8 * length s.payload
unfolding covered
length_covered s =
    let a = bits (reverse s.address) in
    let l = word 6 (length s.payload) in
    let i = word 2 s.pid in
    let p = bits s.payload in
    let b = s.no_ack ∷ [] in
    omega (
      arith,
      length-append a ((l ++ (i ++ b)) ++ p),
      length-append (l ++ (i ++ b)) p,
      length-append l (i ++ b),
      length-append i b,
      length_bits (reverse s.address),
      length-reverse s.address,
      length_word 6 (length s.payload),
      length_word 2 s.pid,
      length_bits s.payload,
    )

pub length_frame : (w : ℕ) (f : List Bool → ℕ) (s : Packet) → length (frame_bits w f s) ≡ 8 + 8 * length s.address + 9 + 8 * length s.payload + w
length_frame w f s =
    let p = word 8 (preamble (covered s)) in
    let k = word w (f (covered s)) in
    omega (
      arith,
      length-append p (covered s ++ k),
      length-append (covered s) k,
      length_word 8 (preamble (covered s)),
      length_word w (f (covered s)),
      length_covered s,
    )

pub preamble_from : (s : Packet) (hs : List ℕ) → hs ≡ reverse s.address → 0 < length hs → preamble (covered s) ≡ preamble (bits hs)
unfolding covered
preamble_from s hs e h =
    ap (λ (b : Bool). cond b 0xAA 0x55)
    (get_or_append_left (bits (reverse s.address)) _ false 0 (omega (arith, length_bits (reverse s.address), ap length e))
    ∙ ap (λ (xs : List ℕ). get_or (bits xs) 0 false) (sym e))

-- preamble with address, length with packet identity, and the rest one after the other
pub put_all :
    (s : Packet) (pre width v flag len : ℕ) (d b1 b2 b3 : List Bool)
    → length s.address ≡ width → length s.payload ≡ len → word 8 v ≡ word 6 (length s.payload) ++ word 2 s.pid → flag ≡ from_bool s.no_ack
    → b1 ≡ paste d 0 (word 8 pre ++ bits (reverse s.address)) (8 + 8 * width)
    → b2 ≡ paste b1 (8 + 8 * width) (word 8 v) 8
    → b3 ≡ paste b2 (8 * (2 + width)) (word 1 flag ++ bits s.payload) (1 + 8 * len)
    → b3 ≡ paste d 0 (word 8 pre ++ covered s) (8 + 8 * width + 9 + 8 * len)
unfolding covered
put_all s pre width v flag len d b1 b2 b3 la lp ev ef f1 f2 f3 =
    let s1 = word 8 pre in
    let s2 = bits (reverse s.address) in
    let s3 = word 8 v in
    let s4 = word 1 flag ++ bits s.payload in
    let l = word 6 (length s.payload) in
    let i = word 2 s.pid in
    let p = bits s.payload in
    let n1 : 8 + 8 * width ≡ length (s1 ++ s2) =
    omega (arith, length-append s1 s2, length_word 8 pre, length_bits (reverse s.address), length-reverse s.address) in
    let l4 : 1 + 8 * len ≡ length s4 = omega (arith, length-append (word 1 flag) p, length_word 1 flag, length_bits s.payload) in
    let p2 = then_put d (s1 ++ s2) s3 b1 b2 (8 + 8 * width) 8 n1 (sym (length_word 8 v)) f1 f2 in
    let n2 : 8 + 8 * width + 8 ≡ length (s1 ++ s2 ++ s3) = omega (arith, length-append (s1 ++ s2) s3, length_word 8 v) in
    let z : 8 * (2 + width) ≡ 8 + 8 * width + 8 = omega arith in
    let m : 8 + 8 * width + 8 + (1 + 8 * len) ≡ 8 + 8 * width + 9 + 8 * len = omega arith in
    let p3 =
    then_put d (s1 ++ s2 ++ s3) s4 b2 b3 (8 + 8 * width + 8) (1 + 8 * len) n2 l4 p2 (f3 ∙ ap (λ (at : ℕ). paste b2 at s4 (1 + 8 * len)) z) in
    let e : s3 ++ s4 ≡ (l ++ (i ++ (s.no_ack ∷ []))) ++ p =
    ap₂ (λ (u w : List Bool). u ++ (w ++ p)) ev (ap (word 1) ef ∙ word_one s.no_ack) ∙ simp append_assoc in
    p3 ∙ ap₂ (λ (t : List Bool) (n : ℕ). paste d 0 t n)
    (append_assoc (s1 ++ s2) s3 s4 ∙ append_assoc s1 s2 (s3 ++ s4) ∙ ap (λ (t : List Bool). s1 ++ (s2 ++ t)) e) m

-- what the check covers, in the bits after the preamble
pub covered_read :
    (xs : List ℕ) (d p t : List Bool) (n : ℕ) → length p ≡ 8 → n ≡ 8 + length t → bits xs ≡ paste d 0 (p ++ t) n
    → take (n - 8) (drop 8 (bits xs)) ≡ t
covered_read xs d p t n lp ln e =
    let l : n ≡ length (p ++ t) = omega (arith, length-append p t) in
    let m : length t ≡ n - 8 = omega arith in
    ap (take (n - 8))
    (ap (drop 8) (e ∙ paste_all d 0 (p ++ t) n l ∙ append_assoc p t _) ∙ drop_at p (t ++ _) 8 lp)
    ∙ take_at t _ (n - 8) m

spare : word 7 0 ≡ replicate 7 false
unfolding word
spare = refl

whole_bytes :
    (a p w n : ℕ) → (w ≡ 8) ⊎ (w ≡ 16) → n ≡ 8 + (8 * a + 9 + 8 * p) → n ≤ 313
    → (n + w + 7 ≡ 8 * ((n + w + 7) / 8)) × ((n + w + 7) / 8 ≤ 42)
whole_bytes a p w n (inl e) h l = (omega arith, omega arith)
whole_bytes a p w n (inr e) h l = (omega arith, omega arith)

pub close_up :
    (f : List Bool → ℕ) (w : ℕ) (s : Packet) (before after : List ℕ) (n v : ℕ) (b1 b2 : List Bool)
    → (w ≡ 8) ⊎ (w ≡ 16) → ((i : ℕ) → get_or before i 0 < 256) → ((i : ℕ) → get_or after i 0 < 256)
    → 42 ≤ length before → length after ≡ length before
    → n ≡ 8 + length (covered s) → n ≤ 313 → v ≡ f (covered s)
    → b1 ≡ paste (bits before) 0 (word 8 (preamble (covered s)) ++ covered s) n
    → b2 ≡ paste b1 n (word w v) w
    → bits after ≡ paste b2 (n + w) (word 7 0) 7
    → (n + w ≡ length (frame_bits w f s)) × (after ≡ buffer_after (frame_bits w f s) before)
close_up f w s before after n v b1 b2 wide hb ha room same e small ev f1 f2 f3 =
    let d = bits before in
    let p = word 8 (preamble (covered s)) in
    let t = covered s in
    let k = word w v in
    let lp : length p ≡ 8 = length_word 8 (preamble t) in
    let lk : w ≡ length k = sym (length_word w v) in
    let l1 : n ≡ length (p ++ t) = omega (arith, length-append p t) in
    let p2 = then_put d (p ++ t) k b1 b2 n w l1 lk f1 f2 in
    let l2 : n + w ≡ length (p ++ t ++ k) = omega (arith, length-append (p ++ t) k) in
    let p3 = then_put d (p ++ t ++ k) (word 7 0) b2 (bits after) (n + w) 7 l2 (sym (length_word 7 0)) p2 f3 in
    let whole : p ++ t ++ k ≡ frame_bits w f s =
    append_assoc p t k ∙ ap (λ (x : ℕ). p ++ (t ++ word w x)) ev in
    let fb = frame_bits w f s in
    let lf : n + w ≡ length fb = l2 ∙ ap length whole in
    let j = (length fb + 7) / 8 in
    let r = whole_bytes (length s.address) (length s.payload) w n wide (e ∙ ap (λ (x : ℕ). 8 + x) (length_covered s)) small in
    let c8 : n + w + 7 ≡ 8 * j = subst (λ (x : ℕ). n + w + 7 ≡ 8 * ((x + 7) / 8)) lf r.0 in
    let le : length (fb ++ replicate 7 false) ≡ 8 * j = omega (arith, length-append fb (replicate 7 false)) in
    let fits : j ≤ length before = omega (arith, subst (λ (x : ℕ). (x + 7) / 8 ≤ 42) lf r.1) in (
      lf,
      front_octets before after (fb ++ replicate 7 false) j hb ha le fits same
          (p3 ∙ ap₂ (λ (x : List Bool) (m : ℕ). paste d 0 x m) (ap₂ (λ (x y : List Bool). x ++ y) whole spare) c8),
    )

-- a frame stands at the front of the bytes that it was buffer-after in
pub laid_front : (t : List Bool) (before : List ℕ) → take (length t) (bits (buffer_after t before)) ≡ t
laid_front t before =
    let n = length t in
    let j = (n + 7) / 8 in
    let p = t ++ replicate 7 false in
    let lp : length p ≡ n + 7 = length-append t (replicate 7 false) in
    let up : n ≤ 8 * j = omega arith in
    let lt : length (take (8 * j) p) ≡ 8 * j = length-take-le (8 * j) p (omega arith) in
    ap (take n) (bits_append (octets j p) (drop j before) ∙ ap (λ (u : List Bool). u ++ bits (drop j before)) (bits_octets j p (omega arith)))
    ∙ take-append-le n (take (8 * j) p) (bits (drop j before)) (omega arith)
    ∙ take-take n (8 * j) p up ∙ take_at t (replicate 7 false) n refl

pub length_laid : (t : List Bool) (before : List ℕ) → length t ≤ 8 * length (buffer_after t before)
length_laid t before =
    let j = (length t + 7) / 8 in
    omega (arith, length-append (octets j (t ++ replicate 7 false)) (drop j before), length_octets j (t ++ replicate 7 false))
