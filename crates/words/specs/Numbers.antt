-- How numbers and bytes are written.
use Rattle.std.specs.Prelude.{ℕ, ◌+◌, ◌-◌, ◌*◌, ◌/◌, ◌%◌, ◌^◌, Bool, true, false, cond, ◌&&◌, List, [], ◌∷◌, ◌++◌, length, Some, None, decimal, Option, ◌==◌, nat_le, nat_lt, slice_index}
use Rattle.std.specs.List.{flat_map}
use Rattle.std.specs.Borrow.{Bor}
use Rattle.std.specs.Str.{bytes_eq}

abbrev pub within : ℕ → ℕ → ℕ → Bool
within low high c = cond (nat_le low c) (nat_le c high) false

-- '0' to '9', 'A' to 'F', 'a' to 'f'
abbrev pub hex_digit : ℕ → Option ℕ
hex_digit c = cond (within 48 57 c) (Some (c - 48)) (cond (within 65 70 c) (Some (c - 55)) (cond (within 97 102 c) (Some (c - 87)) None))

abbrev pub paired : Option ℕ → Option ℕ → Option ℕ
paired (Some h) (Some l) = Some (16 * h + l)
paired (Some h) None = None
paired None (Some l) = None
paired None None = None

-- two hexadecimal digits, the high one first
abbrev pub pair_of : ℕ → ℕ → Option ℕ
pair_of a b = paired (hex_digit a) (hex_digit b)

-- a byte: two hexadecimal digits
abbrev pub byte_of : List ℕ → Option ℕ
byte_of w = cond (length w == 2) (pair_of (slice_index w 0) (slice_index w 1)) None

-- the bytes that a word writes together, after those of acc: an even number of hexadecimal digits
abbrev pub together_after : List ℕ → List ℕ → Option (List ℕ)
together_after acc [] = Some acc
together_after acc (a ∷ []) = None
together_after acc (a ∷ b ∷ cs) = elim (pair_of a b) [ Some x ↦ together_after (acc ++ x ∷ []) cs | None ↦ None ]

abbrev pub together_of : List ℕ → Option (List ℕ)
together_of w = together_after [] w

-- the number n with one decimal digit more; none at another character, or from 2^64 on
abbrev pub one_more : ℕ → ℕ → Option ℕ
one_more n c = cond (within 48 57 c) (cond (nat_lt (10 * n + (c - 48)) (2 ^ 64)) (Some (10 * n + (c - 48))) None) None

abbrev pub decimal_after : ℕ → List ℕ → Option ℕ
decimal_after n [] = Some n
decimal_after n (c ∷ cs) = elim (one_more n c) [ Some m ↦ decimal_after m cs | None ↦ None ]

-- a decimal number: at least one digit
abbrev pub decimal_of : List ℕ → Option ℕ
decimal_of w = cond (length w == 0) None (decimal_after 0 w)

-- ---- as results write them

-- the digit in upper case
abbrev pub digit_shown : ℕ → ℕ
digit_shown d = cond (nat_lt d 10) (48 + d) (55 + d)

abbrev pub byte_shown : ℕ → List ℕ
byte_shown b = digit_shown (b / 16) ∷ digit_shown (b % 16) ∷ []

-- a blank and two digits for each byte
abbrev pub bytes_shown : List ℕ → List ℕ
bytes_shown bs = flat_map (λ b. 32 ∷ byte_shown b) bs

-- a table of such texts for the bytes from b on, as a test that computes
abbrev pub all_behind_blanks : List (Bor (List ℕ)) → ℕ → Bool
all_behind_blanks [] b = true
all_behind_blanks (x ∷ xs) b = bytes_eq x.now (32 ∷ byte_shown b) && all_behind_blanks xs (b + 1)

-- two digits for each byte, with no blank
abbrev pub digits_shown : List ℕ → List ℕ
digits_shown bs = flat_map byte_shown bs

-- a number in decimal, with no zero in front
abbrev pub decimal_shown : ℕ → List ℕ
decimal_shown n = decimal n
