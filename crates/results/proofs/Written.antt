-- Parts of the texts, as they are written.
use Rattle.std.proofs.Common.{◌≡◌, Option, Some, None, MatchOption, ℕ, zero, suc, ◌-◌, ◌^◌, ◌<◌, Bool, true, false, ◌&&◌, List, [], ◌∷◌, ◌++◌, reverse, length, get_or, codes, refl, sym, ap, ◌∙◌, arith}
use Rattle.std.specs.List.{slice_get}
use Rattle.std.specs.Borrow.{Bor}
use Rattle.std.specs.Option.{option_copied}
use Rattle.std.proofs.lemmas.Option.{slice_get_within, slice_get-get_or, get_or_from_slice_get}
use Rattle.std.specs.Fmt.{digits, decimal, char_count, format_spec, padded_integral}
use Rattle.std.specs.Int.{from_bool}
use Rattle.std.proofs.lemmas.List.{length-reverse, get_or-reverse}
use Rattle.std.specs.Str.{bytes_eq}
use Rattle.std.specs.Bool.{Decides}
use Rattle.std.proofs.lemmas.Bool.Decides.{Decides-below_and}
use Rattle.std.proofs.lemmas.Slice.Eq.{bytes_eq-Decides}
use Rattle.checks.specs.Bits.{word, bits}
use Rattle.results.specs.Rows.{binary, numbered_row}
use Rattle.results.specs.Texts.{no_ack_text}

-- the first bit of a list of bytes, by its first byte
by_byte : (l : List ℕ) (x : ℕ) → 0 < length l → get_or l 0 0 ≡ x → get_or (bits (x ∷ [])) 0 false ≡ get_or (bits l) 0 false
unfolding word bits
by_byte [] x some is = absurd (omega (arith, some))
by_byte (b ∷ l) x some is = ap (λ y. get_or (bits (y ∷ [])) 0 false) (sym is)

no_bit : (l : List ℕ) → length l ≡ 0 → false ≡ get_or (bits (reverse l)) 0 false
unfolding bits
no_bit [] e = refl
no_bit (b ∷ l) e = absurd (omega (arith, e))

-- the first bit of an address, by its last byte
pub first_bit : (low_first : List ℕ) (last : Option (Bor ℕ)) (b : Bool) (Tests : Bor ℕ → Type 0) → option_copied last ≡ slice_get low_first (length low_first - 1)
    → MatchOption last (b ≡ false) Tests → ((x : Bor ℕ) → Tests x → b ≡ get_or (bits (x.now ∷ [])) 0 false) → b ≡ get_or (bits (reverse low_first)) 0 false
first_bit low_first (Some high) b Tests is test meaning =
    let some = slice_get_within low_first (length low_first - 1) high.now (sym is) in
    let turned : get_or (reverse low_first) 0 0 ≡ high.now =
    get_or-reverse low_first 0 0 (omega (arith, some)) ∙ ap (λ i. get_or low_first i 0) (omega arith) ∙ get_or_from_slice_get low_first (length low_first - 1) high.now 0 (sym is) in
    meaning high test ∙ by_byte (reverse low_first) high.now (omega (arith, some, length-reverse low_first)) turned
first_bit low_first None b Tests is test meaning =
    elim (length low_first) as (λ n. length low_first ≡ n → b ≡ get_or (bits (reverse low_first)) 0 false) [
      | zero ↦ λ e. test ∙ no_bit low_first e
      | suc n ↦ λ e. let there = slice_get-get_or low_first (length low_first - 1) 0 (omega (arith, e)) in let z : ◌≡◌ {A = ℕ} 0 1 = cc in absurd (omega arith)
    ] refl

pub no_ack_written : (b : Bool) → codes " " ++ decimal (from_bool b) ≡ no_ack_text b
unfolding digits
no_ack_written true = refl
no_ack_written false = refl

-- ---- what `{:06b}` and `{:02b}` write

abbrev pub low_bits : ℕ → ℕ → List ℕ
low_bits width n = padded_integral (format_spec 32 0 4 width (2 ^ 64 - 1)) false [] (digits 2 false n)

alike : ℕ → ℕ → Bool
alike width n = bytes_eq (low_bits width n) (binary width n)

below : (ℕ → Bool) → ℕ → Bool
below p zero = true
below p (suc n) = p n && below p n

all_alike : (width n : ℕ) → Decides (below (alike width) n) ((k : ℕ) → k < n → low_bits width k ≡ binary width k)
unfolding below alike
all_alike width n = Decides-below_and (alike width) (λ k. low_bits width k ≡ binary width k) (below (alike width)) (λ k. bytes_eq-Decides _ _) refl (λ _. refl) n

six_bits : (n : ℕ) → n < 64 → low_bits 6 n ≡ binary 6 n
unfolding below alike digits char_count padded_integral
six_bits n h = (all_alike 6 64).0 refl n h

two_bits : (n : ℕ) → n < 4 → low_bits 2 n ≡ binary 2 n
unfolding below alike digits char_count padded_integral
two_bits n h = (all_alike 2 4).0 refl n h

abbrev pub length_written : ℕ → List ℕ
length_written n = codes "     length    " ++ (decimal n ++ (codes " (6 bits: " ++ (low_bits 6 n ++ codes ")\n")))

abbrev pub pid_written : ℕ → List ℕ
pid_written n = codes "     PID       " ++ (decimal n ++ (codes " (2 bits: " ++ (low_bits 2 n ++ codes ")\n")))

pub length_row : (n : ℕ) → n < 64 → length_written n ≡ numbered_row (codes "     length    ") n 6
unfolding digits
length_row n h = ap (λ b. codes "     length    " ++ (decimal n ++ (codes " (6 bits: " ++ (b ++ codes ")\n")))) (six_bits n h)

pub pid_row : (n : ℕ) → n < 4 → pid_written n ≡ numbered_row (codes "     PID       ") n 2
unfolding digits
pid_row n h = ap (λ b. codes "     PID       " ++ (decimal n ++ (codes " (2 bits: " ++ (b ++ codes ")\n")))) (two_bits n h)
