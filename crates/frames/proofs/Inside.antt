-- Reading the first n bits of more.
use Rattle.std.proofs.Common.{◌≡◌, ℕ, ◌+◌, ◌*◌, ◌^◌, ◌<◌, ◌≤◌, Bool, true, false, cond, ◌&&◌, eqb, leb, List, ◌++◌, reverse, length, get_or, take, drop, Some, None, Option, sym, ap, ◌∙◌, ap₂, arith}
use Rattle.std.proofs.lemmas.List.{length-drop, length-take-le, take-append-drop, drop-append-le, take-append-le, get_or_append_left, drop-take}
use Rattle.std.proofs.lemmas.Bool.{le-leb, eq-eqb, ne_eqb, lt-leb, and_from, and_left, and_right}
use Rattle.std.proofs.lemmas.Option.{cond_some}
use Rattle.frames.specs.Octets.{number, octets}
use Rattle.frames.specs.Packet.{Packet, covered, length_field, count_fits, check_right, fields_at, reading}
use Rattle.frames.proofs.Octets.{octets_front, length_octets}
use Rattle.frames.proofs.Parse.{same, none_from, reads_none, reads_some, check_read}

module _ (b : List Bool) (n : ℕ) (le : n ≤ length b) where
  front : length (take n b) ≡ n
  front = length-take-le n b le

  drop_inside : (k : ℕ) → k ≤ n → drop k b ≡ drop k (take n b) ++ drop n b
  drop_inside k h = ap (drop k) (sym (take-append-drop n b)) ∙ drop-append-le k (take n b) (drop n b) (omega (arith, front))

  pub inside : (k m : ℕ) → k + m ≤ n → take m (drop k (take n b)) ≡ take m (drop k b)
  inside k m h =
      sym (ap (take m) (drop_inside k (omega arith)) ∙ take-append-le m (drop k (take n b)) (drop n b) (omega (arith, front, length-drop k (take n b))))

  octets_inside : (k m : ℕ) → k + 8 * m ≤ n → octets m (drop k (take n b)) ≡ octets m (drop k b)
  octets_inside k m h =
      sym (ap (octets m) (drop_inside k (omega arith)) ∙ octets_front m (drop k (take n b)) (drop n b) (omega (arith, front, length-drop k (take n b))))

  getD_inside : (k : ℕ) → k < n → get_or (take n b) k false ≡ get_or b k false
  getD_inside k h =
      sym (get_or_append_left (take n b) (drop n b) false k (omega (arith, front))) ∙ ap (λ (u : List Bool). get_or u k false) (take-append-drop n b)

  pub picked_inside : (width len : ℕ) → 8 + 8 * width + 9 + 8 * len ≤ n → fields_at width len b ≡ fields_at width len (take n b)
  picked_inside width len h =
      sym (same (ap reverse (octets_inside 8 width (omega arith))) (ap number (inside (8 + 8 * width + 6) 2 (omega arith)))
      (getD_inside (8 + 8 * width + 8) (omega arith)) (octets_inside (8 + 8 * width + 9) len (omega arith)))

  module _ (w width : ℕ) where
    pub short : n < 8 + 8 * width + 9 + w → count_fits w width (take n b) ≡ false
    short h = and_right (leb 3 width && leb width 5) (leb (length_field width (take n b)) 32 && _) (and_right (leb (length_field width (take n b)) 32) _ (ne_eqb (length (take n b)) (8 + 8 * width + 9 + 8 * length_field width (take n b) + w) (λ e. omega (arith, e, front))))

    module _ (len : ℕ) (is : len ≡ number (take 6 (drop (8 + 8 * width) b))) (room : 8 + 8 * width + 6 ≤ n) where
      pub said_inside : len ≡ length_field width (take n b)
      said_inside = is ∙ ap number (sym (inside (8 + 8 * width) 6 room))

      pub long : 32 < len → count_fits w width (take n b) ≡ false
      long h = and_right _ _ (and_left _ _ (lt-leb (length_field width (take n b)) 32 (omega (arith, said_inside))))

      pub miscounted : (n ≡ 8 + 8 * width + 9 + 8 * len + w → ⊥) → count_fits w width (take n b) ≡ false
      miscounted h = and_right (leb 3 width && leb width 5) (leb (length_field width (take n b)) 32 && _) (and_right (leb (length_field width (take n b)) 32) _ (ne_eqb (length (take n b)) (8 + 8 * width + 9 + 8 * length_field width (take n b) + w) (λ e. h (omega (arith, e, front, said_inside)))))

      pub all_counted : 3 ≤ width → width ≤ 5 → len ≤ 32 → n ≡ 8 + 8 * width + 9 + 8 * len + w → count_fits w width (take n b) ≡ true
      all_counted h k l e =
          and_from _ _ (and_from _ _ (le-leb 3 width h) (le-leb width 5 k))
          (and_from _ _ (le-leb (length_field width (take n b)) 32 (omega (arith, said_inside))) (eq-eqb _ _ (omega (arith, e, front, said_inside))))

  pub right_inside :
      (f : List Bool → ℕ) (w width len : ℕ) → len ≡ length_field width (take n b) → n ≡ 8 + 8 * width + 9 + 8 * len + w
      → eqb (f (take (8 * width + 9 + 8 * len) (drop 8 b))) (number (take w (drop (8 + 8 * width + 9 + 8 * len) b))) ≡ check_right w f width (take n b)
  right_inside f w width len e h =
      ap₂ eqb (ap f (sym (inside 8 (8 * width + 9 + 8 * len) (omega arith))))
      (ap number (sym (drop-take (8 + 8 * width + 9 + 8 * len) w b) ∙ ap (λ (m : ℕ). drop (8 + 8 * width + 9 + 8 * len) (take m b)) (sym h)))
      ∙ ap (λ (l : ℕ). eqb (f (take (8 * width + 9 + 8 * l) (drop 8 (take n b)))) (number (drop (8 + 8 * width + 9 + 8 * l) (take n b)))) e

  -- what a reader answers that goes by the bit count first and by the check then
  module _ (f : List Bool → ℕ) (w : ℕ) (below : (s : List Bool) → f s < 2 ^ w) (width size : ℕ) (is : size ≡ w) where
    pub heard_none : ◌≡◌ {A = Option ℕ} None (cond (count_fits size width (take n b)) (Some (length_field width (take n b))) None) → None ≡ reading w f width (take n b)
    heard_none h =
        sym (reads_none f w below width (take n b)
        (and_left (count_fits w width (take n b)) (check_right w f width (take n b))
        (ap (λ (z : ℕ). count_fits z width (take n b)) (sym is) ∙ none_from (count_fits size width (take n b)) (length_field width (take n b)) (sym h))))

    module _ (len : ℕ) (test : Bool) (h : ◌≡◌ {A = Option ℕ} (Some len) (cond (count_fits size width (take n b)) (Some (length_field width (take n b))) None))
        (count : n ≡ 8 + 8 * width + 9 + 8 * len + size)
        (checks : test ≡ eqb (f (take (8 * width + 9 + 8 * len) (drop 8 b))) (number (take w (drop (8 + 8 * width + 9 + 8 * len) b)))) where
      told_len : len ≡ length_field width (take n b)
      told_len = sym (cond_some (count_fits size width (take n b)) (length_field width (take n b)) len (sym h)).1

      told_right : test ≡ check_right w f width (take n b)
      told_right = checks ∙ right_inside f w width len told_len (omega arith)

      pub heard_wrong : test ≡ false → None ≡ reading w f width (take n b)
      heard_wrong t =
          sym (reads_none f w below width (take n b) (and_right (count_fits w width (take n b)) (check_right w f width (take n b)) (sym told_right ∙ t)))

      pub heard_some : test ≡ true → (s : Packet) → s ≡ fields_at width len b → Some s ≡ reading w f width (take n b)
      heard_some t s e =
          let c : count_fits w width (take n b) ≡ true =
          ap (λ (z : ℕ). count_fits z width (take n b)) (sym is)
          ∙ (cond_some (count_fits size width (take n b)) (length_field width (take n b)) len (sym h)).0 in
          ap Some (e ∙ picked_inside width len (omega arith) ∙ ap (λ (l : ℕ). fields_at width l (take n b)) told_len)
          ∙ sym (reads_some f w below width (take n b) c (sym told_right ∙ t))

      pub heard_check : test ≡ true → (s : Packet) → s ≡ fields_at width len b → (v : ℕ) → v ≡ number (take size (drop (8 + 8 * width + 9 + 8 * len) b)) → v ≡ f (covered s)
      heard_check t s e v q =
          let k = 8 + 8 * width + 9 + 8 * len in
          let lp : length s.payload ≡ len = ap (λ (z : Packet). length z.payload) e ∙ length_octets len (drop (8 + 8 * width + 9) b) in
          q ∙ ap number (sym (drop-take k size b) ∙ ap (λ (m : ℕ). drop k (take m b)) (sym count))
          ∙ check_read f w below width (take n b) s k (sym (heard_some t s e)) (omega (arith, lp))
