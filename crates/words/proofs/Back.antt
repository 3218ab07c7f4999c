-- What is written reads back.
use Rattle.std.proofs.Common.{◌≡◌, ℕ, suc, ◌+◌, ◌/◌, ◌%◌, ◌^◌, ◌<◌, ◌≤◌, Bool, false, cond, eqb, List, [], ◌∷◌, ◌++◌, map, length, get_or, Some, None, Ok, Err, decimal, Option, Result, sym, refl, ap, ◌∙◌, append_assoc, arith, rules}
use Rattle.std.proofs.lemmas.Bool.{ne_eqb}
use Rattle.std.proofs.lemmas.List.{append-nil, length_push}
use Rattle.std.proofs.lemmas.Fmt.{decimal_by_steps}
use Rattle.words.specs.Numbers.{byte_of, together_after, digit_shown, byte_shown, bytes_shown, digits_shown, one_more, decimal_after, decimal_of}
use Rattle.words.specs.Split.{blank, ended, words_after}
use Rattle.words.specs.Bytes.{bytes_after}

abbrev Bytes : List ℕ → Type 0
Bytes bs = (i : ℕ) → get_or bs i 0 < 256

abbrev first : (b : ℕ) (bs : List ℕ) → Bytes (b ∷ bs) → b < 256
first b bs h = h 0

abbrev rest : (b : ℕ) (bs : List ℕ) → Bytes (b ∷ bs) → Bytes bs
rest b bs h = λ i. h (suc i)

pub byte_back : (b : ℕ) → b < 256 → byte_of (byte_shown b) ≡ Some b
byte_back b h = search rules

-- ---- one word for each byte

digit_plain : (d : ℕ) → (eqb (digit_shown d) 35 ≡ false) × (blank (digit_shown d) ≡ false)
digit_plain d = search rules

step : (w : List ℕ) (d : ℕ) (cs : List ℕ) → words_after w (digit_shown d ∷ cs) ≡ words_after (w ++ digit_shown d ∷ []) cs
step w d cs =
    let c = digit_shown d in
    let by : Bool → Bool → List (List ℕ) = λ hash white. cond hash (ended w) (cond white (ended w ++ words_after [] cs) (words_after (w ++ c ∷ []) cs)) in
    ap (λ b. by b (blank c)) (digit_plain d).0 ∙ ap (by false) (digit_plain d).1

words_shown : (bs w : List ℕ) → words_after w (bytes_shown bs) ≡ ended w ++ map byte_shown bs
words_shown [] w = sym (append-nil (ended w))
words_shown (b ∷ bs) w =
    let high = b / 16 in
    let low = b % 16 in
    ap (λ l. ended w ++ l)
    (step [] high (digit_shown low ∷ bytes_shown bs) ∙ step (digit_shown high ∷ []) low (bytes_shown bs) ∙ words_shown bs (byte_shown b))

bytes_back : (bs acc : List ℕ) (at : ℕ) → Bytes bs → bytes_after acc at (map byte_shown bs) ≡ Ok (acc ++ bs)
bytes_back [] acc at h = ap Ok (sym (append-nil acc))
bytes_back (b ∷ bs) acc at h =
    let more : Option ℕ → Result (List ℕ) ℕ = λ o. elim o [ Some x ↦ bytes_after (acc ++ x ∷ []) (at + 1) (map byte_shown bs) | None ↦ Err (at + 1) ] in
    ap more (byte_back b (first b bs h)) ∙ bytes_back bs (acc ++ b ∷ []) (at + 1) (rest b bs h) ∙ ap Ok (append_assoc acc (b ∷ []) bs)

pub apart : (bs : List ℕ) → Bytes bs → bytes_after [] 0 (words_after [] (bytes_shown bs)) ≡ Ok bs
apart bs h = ap (bytes_after [] 0) (words_shown bs []) ∙ bytes_back bs [] 0 h

-- ---- together

together_back : (bs acc : List ℕ) → Bytes bs → together_after acc (digits_shown bs) ≡ Some (acc ++ bs)
together_back [] acc h = ap Some (sym (append-nil acc))
together_back (b ∷ bs) acc h =
    let more : Option ℕ → Option (List ℕ) = λ o. elim o [ Some x ↦ together_after (acc ++ x ∷ []) (digits_shown bs) | None ↦ None ] in
    ap more (byte_back b (first b bs h)) ∙ together_back bs (acc ++ b ∷ []) (rest b bs h) ∙ ap Some (append_assoc acc (b ∷ []) bs)

pub joined : (bs : List ℕ) → Bytes bs → together_after [] (digits_shown bs) ≡ Some bs
joined bs h = together_back bs [] h

-- ---- decimal

abbrev then : Option ℕ → List ℕ → Option ℕ
then o w = elim o [ Some m ↦ decimal_after m w | None ↦ None ]

decimal_push : (n : ℕ) (cs : List ℕ) (c : ℕ) → decimal_after n (cs ++ c ∷ []) ≡ then (decimal_after n cs) (c ∷ [])
decimal_push n [] c = refl
decimal_push n (x ∷ xs) c =
    elim (one_more n x) as (λ o. then o (xs ++ c ∷ []) ≡ then (then o xs) (c ∷ [])) [
      | Some m ↦ decimal_push m xs c
      | None ↦ refl
    ]

-- a number that fits, with its last digit
last_digit : (n : ℕ) → n < 2 ^ 64 → one_more (n / 10) (48 + n % 10) ≡ Some n
last_digit n h = search rules

abbrev Reads : ℕ → List ℕ → Type 0
Reads n ds = n < 2 ^ 64 → (decimal_after 0 ds ≡ Some n) × (0 < length ds)

one_digit : (n : ℕ) → n < 10 → Reads n ((48 + n) ∷ [])
one_digit n l h = (search rules, search rules)

more_digits : (n : ℕ) (ds : List ℕ) → 10 ≤ n → Reads (n / 10) ds → Reads n (ds ++ (48 + n % 10) ∷ [])
more_digits n ds l ih h =
    let front : decimal_after 0 ds ≡ Some (n / 10) = (ih (omega arith)).0 in
    (decimal_push 0 ds (48 + n % 10) ∙ ap (λ o. then o ((48 + n % 10) ∷ [])) front ∙ ap (λ o. then o []) (last_digit n h), omega (arith, length_push ds (48 + n % 10)))

pub decimal_back : (n : ℕ) → n < 2 ^ 64 → decimal_of (decimal n) ≡ Some n
decimal_back n h =
    let both : (decimal_after 0 (decimal n) ≡ Some n) × (0 < length (decimal n)) = decimal_by_steps Reads one_digit more_digits n h h in
    ap (λ b. cond b None (decimal_after 0 (decimal n))) (ne_eqb (length (decimal n)) 0 (λ e. omega (arith, both.1))) ∙ both.0
