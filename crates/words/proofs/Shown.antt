-- Bytes as `{:02X}` writes them.
use Rattle.std.proofs.Common.{◌≡◌, ℕ, ◌+◌, ◌^◌, ◌-◌, ◌<◌, true, false, List, [], ◌∷◌, ◌++◌, length, reverse, get_or, take, sym, ap, ◌∙◌, append_assoc}
use Rattle.std.specs.Fmt.{digits, format_spec, padded_integral}
use Rattle.std.specs.List.{flat_map, push}
use Rattle.std.proofs.lemmas.Fmt.{hex_byte}
use Rattle.std.proofs.lemmas.List.{take_more, append-nil, reverse-append}
use Rattle.std.proofs.lemmas.Grind.{flat_map-append}
use Rattle.words.specs.Numbers.{byte_shown, bytes_shown, digits_shown}

abbrev pub written : ℕ → List ℕ
written b = padded_integral (format_spec 32 0 4 2 (2 ^ 64 - 1)) false [] (digits 16 true b)

pub byte_written : (b : ℕ) → b < 256 → written b ≡ byte_shown b
byte_written b small = hex_byte true b small

more : (f : ℕ → List ℕ) (bs : List ℕ) (i : ℕ) → i < length bs → flat_map f (take i bs) ++ f (get_or bs i 0) ≡ flat_map f (take (i + 1) bs)
more f bs i h =
    ap (λ l. flat_map f (take i bs) ++ l) (sym (append-nil (f (get_or bs i 0))))
    ∙ sym (flat_map-append f (take i bs) (get_or bs i 0 ∷ []))
    ∙ ap (flat_map f) (sym (take_more bs i 0 h))

pub joined_more : (bs : List ℕ) (i : ℕ) → i < length bs → digits_shown (take i bs) ++ byte_shown (get_or bs i 0) ≡ digits_shown (take (i + 1) bs)
joined_more bs i h = more byte_shown bs i h

pub apart_more : (bs : List ℕ) (i : ℕ) → i < length bs → bytes_shown (take i bs) ++ (32 ∷ byte_shown (get_or bs i 0)) ≡ bytes_shown (take (i + 1) bs)
apart_more bs i h = more (λ b. 32 ∷ byte_shown b) bs i h

-- one byte from the back
pub reversed_more : (bs front : List ℕ) (x b : ℕ) (before : List ℕ) → bs ≡ push front x → x ≡ b → before ++ digits_shown (reverse bs) ≡ (before ++ byte_shown b) ++ digits_shown (reverse front)
reversed_more bs front x b before e same =
    ap (λ l. before ++ digits_shown (reverse l)) (e ∙ ap (push front) same)
    ∙ ap (λ l. before ++ digits_shown l) (reverse-append front (b ∷ []))
    ∙ sym (append_assoc before (byte_shown b) (digits_shown (reverse front)))
