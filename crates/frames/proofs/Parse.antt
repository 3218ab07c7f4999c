-- What is read is exactly what was packed.
use Rattle.std.proofs.Common.{◌≡◌, ℕ, ◌+◌, ◌-◌, ◌*◌, ◌^◌, ◌<◌, ◌≤◌, Bool, true, false, cond, ◌&&◌, List, [], ◌∷◌, ◌++◌, reverse, length, get_or, take, drop, Some, None, Option, sym, refl, ap, ◌∙◌, subst, ap₂, inl, inr, add-zero, arith, length-append}
use Rattle.std.proofs.lemmas.List.{append_assoc, length-reverse, reverse-reverse, length-drop, length-take, length-take-le, get_or-drop, get_or-reverse, get_or_past, take-append-drop, drop-drop, drop_more, take_at, drop_at}
use Rattle.std.proofs.lemmas.Bool.{leb-true, eqb-true, le-leb, eq-eqb, and_parts, and_from, cases_lt, cond-true, cond-false}
use Rattle.std.proofs.lemmas.Option.{cond_some}
use Rattle.checks.specs.Bits.{word, bits}
use Rattle.checks.specs.Places.{length_word, length_bits}
use Rattle.frames.specs.Octets.{number, octets}
use Rattle.frames.specs.Packet.{Packet, Valid, Bytes, covered, with_check, preamble, frame_bits, length_field, count_fits, check_right, fields_read, reading}
use Rattle.frames.specs.Calls.{Exactly}
use Rattle.frames.proofs.Octets.{number_back, number_below, word_number, bits_octets, octets_front, octets_back, length_octets, octets_bytes}
use Rattle.frames.proofs.Lay.{length_covered}

-- ---- fields_read of a list, one after the other

next : (xs p q : List Bool) (n m k : ℕ) → drop n xs ≡ p ++ q → length p ≡ m → n + m ≡ k → (take m (drop n xs) ≡ p) × (drop k xs ≡ q)
next xs p q n m k e l s = (
  ap (take m) e ∙ take_at p q m l,
  ap (λ (j : ℕ). drop j xs) (sym s) ∙ sym (drop-drop m n xs) ∙ ap (drop m) e ∙ drop_at p q m l,
)

glue : (xs p q : List Bool) (n m k : ℕ) → take m (drop n xs) ≡ p → drop k xs ≡ q → n + m ≡ k → drop n xs ≡ p ++ q
glue xs p q n m k e f s =
    sym (take-append-drop m (drop n xs))
    ∙ ap₂ (λ (u v : List Bool). u ++ v) e (drop-drop m n xs ∙ ap (λ (j : ℕ). drop j xs) s ∙ f)

bytes_reverse : (xs : List ℕ) → Bytes xs → Bytes (reverse xs)
bytes_reverse xs h i =
    elim (cases_lt i (length xs)) [
      | inl l ↦ subst (λ (v : ℕ). v < 256) (sym (get_or-reverse xs i 0 l)) (h (length xs - 1 - i))
      | inr l ↦ subst (λ (v : ℕ). v < 256) (sym (get_or_past (reverse xs) i 0 (omega (arith, length-reverse xs)))) (omega arith)
    ]

pub none_from : {X : Type 0} (b : Bool) (x : X) → cond b (Some x) None ≡ None → b ≡ false
none_from true x e = cc
none_from false x e = refl

-- ---- the fields of a packed packet

regroup :
    (s : Packet) (k : List Bool)
    → covered s ++ k ≡ bits (reverse s.address) ++ (word 6 (length s.payload) ++ (word 2 s.pid ++ (s.no_ack ∷ (bits s.payload ++ k))))
unfolding covered
regroup s k = simp append_assoc

pub same : {s t : Packet} → s.address ≡ t.address → s.pid ≡ t.pid → s.no_ack ≡ t.no_ack → s.payload ≡ t.payload → s ≡ t
same {s} {t} a i b p =
    ap₂ (λ (x : List ℕ) (y : ℕ). record { address = x; pid = y; no_ack = s.no_ack; payload = s.payload }) a i
    ∙ ap₂ (λ (x : Bool) (y : List ℕ). record { address = t.address; pid = t.pid; no_ack = x; payload = y }) b p

-- bytes are read back from where their bits stand
taken_back : (bs : List ℕ) (ys q : List Bool) (k : ℕ) → length bs ≡ k → Bytes bs → ys ≡ bits bs ++ q → octets k ys ≡ bs
taken_back bs ys q k l h e =
    ap₂ octets (sym l) e ∙ octets_front (length bs) (bits bs) q (omega (arith, length_bits bs)) ∙ octets_back bs h

pub after_preamble : (w : ℕ) (f : List Bool → ℕ) (s : Packet) → drop 8 (frame_bits w f s) ≡ with_check w f s
after_preamble w f s = drop_at (word 8 (preamble (covered s))) (with_check w f s) 8 (length_word 8 (preamble (covered s)))

module _ (f : List Bool → ℕ) (w : ℕ) (below : (s : List Bool) → f s < 2 ^ w) (width : ℕ) (xs : List Bool) where
  pub reads_all : (s : Packet) → Valid width s → drop 8 xs ≡ with_check w f s → reading w f width xs ≡ Some s
  unfolding reading
  reads_all s ok e =
      let a = bits (reverse s.address) in
      let l = length s.payload in
      let p = bits s.payload in
      let k = word w (f (covered s)) in
      let n1 = next xs a _ 8 (8 * width) (8 + 8 * width) (e ∙ regroup s k)
      (omega (arith, length_bits (reverse s.address), length-reverse s.address, ok.long)) refl in
      let n2 = next xs (word 6 l) _ (8 + 8 * width) 6 (8 + 8 * width + 6) n1.1 (length_word 6 l) refl in
      let n3 = next xs (word 2 s.pid) _ (8 + 8 * width + 6) 2 (8 + 8 * width + 8) n2.1 (length_word 2 s.pid) (omega arith) in
      let n4 = next xs (s.no_ack ∷ []) (p ++ k) (8 + 8 * width + 8) 1 (8 + 8 * width + 9) n3.1 refl (omega arith) in
      let n5 = next xs p k (8 + 8 * width + 9) (8 * l) (8 + 8 * width + 9 + 8 * l) n4.1 (length_bits s.payload) refl in
      let len : length_field width xs ≡ l = ap number n2.0 ∙ number_back 6 l (omega (arith, ok.fits)) in
      let lc : length (covered s) ≡ 8 * width + 9 + 8 * l = length_covered s ∙ omega (arith, ok.long) in
      let lx : length xs ≡ 8 + 8 * width + 9 + 8 * l + w =
      omega (arith, ap length e, length-drop 8 xs, length-append (covered s) k, length_word w (f (covered s)), lc) in
      let count : count_fits w width xs ≡ true =
      and_from _ _ (and_from _ _ (le-leb 3 width ok.wide) (le-leb width 5 ok.narrow))
      (and_from _ _ (le-leb (length_field width xs) 32 (omega (arith, len, ok.fits))) (eq-eqb (length xs) _ (omega (arith, len, lx)))) in
      let covers : take (8 * width + 9 + 8 * length_field width xs) (drop 8 xs) ≡ covered s =
      ap (take (8 * width + 9 + 8 * length_field width xs)) e ∙ take_at (covered s) k _ (omega (arith, len, lc)) in
      let last : number (drop (8 + 8 * width + 9 + 8 * length_field width xs) xs) ≡ f (covered s) =
      ap (λ (j : ℕ). number (drop (8 + 8 * width + 9 + 8 * j) xs)) len ∙ ap number n5.1 ∙ number_back w (f (covered s)) (below (covered s)) in
      let check : check_right w f width xs ≡ true = eq-eqb _ _ (ap f covers ∙ sym last) in
      cond-true (count_fits w width xs && check_right w f width xs) (Some (fields_read width xs)) None (and_from _ _ count check)
      ∙ ap Some
      (same
      (ap reverse (taken_back (reverse s.address) (drop 8 xs) _ width (length-reverse s.address ∙ ok.long) (bytes_reverse s.address ok.address) (e ∙ regroup s k)) ∙ reverse-reverse s.address)
      (ap number n3.0 ∙ number_back 2 s.pid ok.pid)
      (ap (λ (j : ℕ). get_or xs j false) (sym (add-zero (8 + 8 * width + 8))) ∙ sym (get_or-drop (8 + 8 * width + 8) xs 0 false) ∙ ap (λ (u : List Bool). get_or u 0 false) n3.1)
      (taken_back s.payload (drop (8 + 8 * width + 9) xs) k (length_field width xs) (sym len) ok.payload n4.1))

  only : count_fits w width xs ≡ true → check_right w f width xs ≡ true → Valid width (fields_read width xs) × (drop 8 xs ≡ with_check w f (fields_read width xs))
  only count check =
      let t = and_parts _ _ count in
      let tw = and_parts _ _ t.0 in
      let tl = and_parts _ _ t.1 in
      let s = fields_read width xs in
      let l = length_field width xs in
      let wide : 3 ≤ width = leb-true 3 width tw.0 in
      let narrow : width ≤ 5 = leb-true width 5 tw.1 in
      let fits : l ≤ 32 = leb-true l 32 tl.0 in
      let lx : length xs ≡ 8 + 8 * width + 9 + 8 * l + w = eqb-true (length xs) _ tl.1 in
      let k = drop (8 + 8 * width + 9 + 8 * l) xs in
      let lk : length k ≡ w = omega (arith, length-drop (8 + 8 * width + 9 + 8 * l) xs, lx) in
      let lo : length (octets l (drop (8 + 8 * width + 9) xs)) ≡ l = length_octets l (drop (8 + 8 * width + 9) xs) in
      let ta : take (8 * width) (drop 8 xs) ≡ bits (reverse s.address) =
      sym (ap bits (reverse-reverse (octets width (drop 8 xs))) ∙ bits_octets width (drop 8 xs) (omega (arith, length-drop 8 xs, lx))) in
      let tl : take 6 (drop (8 + 8 * width) xs) ≡ word 6 (length s.payload) =
      sym (ap (word 6) lo ∙ word_number 6 (take 6 (drop (8 + 8 * width) xs))
      (length-take-le 6 (drop (8 + 8 * width) xs) (omega (arith, length-drop (8 + 8 * width) xs, lx)))) in
      let ti : take 2 (drop (8 + 8 * width + 6) xs) ≡ word 2 s.pid =
      sym (word_number 2 (take 2 (drop (8 + 8 * width + 6) xs))
      (length-take-le 2 (drop (8 + 8 * width + 6) xs) (omega (arith, length-drop (8 + 8 * width + 6) xs, lx)))) in
      let tp : take (8 * l) (drop (8 + 8 * width + 9) xs) ≡ bits s.payload =
      sym (bits_octets l (drop (8 + 8 * width + 9) xs) (omega (arith, length-drop (8 + 8 * width + 9) xs, lx))) in
      let d4 : drop (8 + 8 * width + 9) xs ≡ bits s.payload ++ k = glue xs _ k _ (8 * l) _ tp refl refl in
      let i9 : 8 + 8 * width + 8 + 1 ≡ 8 + 8 * width + 9 = omega arith in
      let d3 : drop (8 + 8 * width + 8) xs ≡ s.no_ack ∷ (bits s.payload ++ k) =
      drop_more xs (8 + 8 * width + 8) false (omega (arith, lx))
      ∙ ap (λ (u : List Bool). s.no_ack ∷ u) (ap (λ (j : ℕ). drop j xs) i9 ∙ d4) in
      let d2 = glue xs _ _ (8 + 8 * width + 6) 2 _ ti d3 (omega arith) in
      let d1 = glue xs _ _ (8 + 8 * width) 6 _ tl d2 refl in
      let d0 : drop 8 xs ≡ covered s ++ k = glue xs _ _ 8 (8 * width) _ ta d1 refl ∙ sym (regroup s k) in
      let la : length s.address ≡ width = length-reverse (octets width (drop 8 xs)) ∙ length_octets width (drop 8 xs) in
      let covers : take (8 * width + 9 + 8 * l) (drop 8 xs) ≡ covered s =
      ap (take (8 * width + 9 + 8 * l)) d0 ∙ take_at (covered s) k _ (omega (arith, length_covered s, la, lo)) in
      let seal : k ≡ word w (f (covered s)) =
      sym (ap (word w) (ap f (sym covers) ∙ eqb-true _ _ check) ∙ word_number w k lk) in (
        record {
          wide = wide;
          narrow = narrow;
          long = la;
          address = bytes_reverse (octets width (drop 8 xs)) (octets_bytes width (drop 8 xs));
          pid = number_below (take 2 (drop (8 + 8 * width + 6) xs)) 2 (omega (arith, length-take 2 (drop (8 + 8 * width + 6) xs)));
          fits = omega (arith, lo, fits);
          payload = octets_bytes l (drop (8 + 8 * width + 9) xs);
        },
        d0 ∙ ap (λ (u : List Bool). covered s ++ u) seal,
      )

  -- what is read is sound, and its frame has these bits after the preamble
  pub reads_only : (s : Packet) → reading w f width xs ≡ Some s → Valid width s × (drop 8 xs ≡ with_check w f s)
  unfolding reading
  reads_only s e =
      let r = cond_some (count_fits w width xs && check_right w f width xs) (fields_read width xs) s e in
      let t = and_parts (count_fits w width xs) (check_right w f width xs) r.0 in
      subst (λ (z : Packet). Valid width z × (drop 8 xs ≡ with_check w f z)) r.1 (only t.0 t.1)

  pub exactly : (r : Option Packet) → r ≡ reading w f width xs → Exactly w f width xs r
  exactly r e s = (
    λ q. let h = reads_only s (sym e ∙ q) in (h.0, h.1 ∙ sym (after_preamble w f s)),
    λ ok q. e ∙ reads_all s ok (q ∙ after_preamble w f s),
  )

  pub reads_none : (count_fits w width xs && check_right w f width xs) ≡ false → reading w f width xs ≡ None
  unfolding reading
  reads_none h = cond-false (count_fits w width xs && check_right w f width xs) (Some (fields_read width xs)) None h

  pub reads_some : count_fits w width xs ≡ true → check_right w f width xs ≡ true → reading w f width xs ≡ Some (fields_read width xs)
  unfolding reading
  reads_some h k = cond-true (count_fits w width xs && check_right w f width xs) (Some (fields_read width xs)) None (and_from _ _ h k)

  -- the check that stands after what was read
  pub check_read : (s : Packet) (k : ℕ) → reading w f width xs ≡ Some s → k ≡ 8 + 8 * width + 9 + 8 * length s.payload → number (drop k xs) ≡ f (covered s)
  check_read s k e h =
      let r = reads_only s e in
      let l : length (covered s) ≡ 8 * width + 9 + 8 * length s.payload = omega (arith, length_covered s, r.0.long) in
      ap number (next xs (covered s) (word w (f (covered s))) 8 _ k r.1 l (omega arith)).1 ∙ number_back w (f (covered s)) (below (covered s))
