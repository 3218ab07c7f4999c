-- The steps that lead from words to a request, forward and back.
use Rattle.std.proofs.Common.{◌≡◌, ℕ, ◌+◌, ◌<◌, ◌≤◌, Bool, true, false, cond, eqb, ltb, List, [], ◌∷◌, ◌++◌, reverse, length, Some, None, Ok, Err, Option, Result, sym, refl, ap, ◌∙◌, subst, append_assoc, append-nil, arith, rules}
use Rattle.std.specs.Str.{bytes_eq}
use Rattle.std.proofs.lemmas.Slice.Eq.{bytes_eq-Decides}
use Rattle.std.proofs.lemmas.Bool.{le-ltb, ltb-false}
use Rattle.std.proofs.lemmas.Option.{cond_some}
use Rattle.words.specs.Numbers.{within, byte_of, decimal_of}
use Rattle.words.specs.Bytes.{bytes_after}
use Rattle.requests.specs.declared.lines.Form.{Form}
use Rattle.requests.specs.declared.lines.Cannot.{Cannot}
use Rattle.requests.specs.declared.lines.Cannot.TheVariants.{Word, TooFew, TooMany}
use Rattle.requests.specs.declared.lines.Wanted.{Wanted}
use Rattle.requests.specs.declared.lines.Wanted.TheVariants as want
use Rattle.requests.specs.Lines.{Request, at_least, at_most, then, or_else, as_address, number_in, bit_of, as_bytes, line_as}
use Rattle.requests.specs.Grammar.{Write, Asks}

-- ---- one step, forward and back

pub never : {A X : Type 0} (e : Cannot) (v : X) → Err e ≡ Ok v → A
never e v h = let z : ◌≡◌ {A = ℕ} 0 1 = cc in absurd (omega arith)

pub ok_same : {X : Type 0} {v w : X} → ◌≡◌ {A = Result X Cannot} (Ok v) (Ok w) → v ≡ w
ok_same h = cc

pub inside : (low high n : ℕ) → low ≤ n → n ≤ high → within low high n ≡ true
inside low high n l h = search rules

pub within_parts : (low high n : ℕ) → within low high n ≡ true → (low ≤ n) × (n ≤ high)
within_parts low high n h = grind arith

pub then_ok : {X Y : Type 0} (x : Result X Cannot) (f : X → Result Y Cannot) (y : Y) → then x f ≡ Ok y → (v : X) × ((x ≡ Ok v) × (f v ≡ Ok y))
then_ok (Ok v) f y h = (v, (refl, h))
then_ok (Err e) f y h = never e y h

-- a test that must fail, and `when` one that must hold: std's cond_some says it of options alone
pub unless : {Y : Type 0} (b : Bool) (e : Cannot) (x : Result Y Cannot) (y : Y) → cond b (Err e) x ≡ Ok y → (b ≡ false) × (x ≡ Ok y)
unless true e x y h = never e y h
unless false e x y h = (refl, h)

-- the number of words
pub enough : (k : ℕ) (ws : List (List ℕ)) → k ≤ length ws → ltb (length ws) k ≡ false
enough k ws h = le-ltb (length ws) k h

pub begun : {X Y : Type 0} (k : ℕ) (form : Form) (ws : List (List ℕ)) (x : Result X Cannot) (f : X → Result Y Cannot) (y : Y) → at_least k form ws (then x f) ≡ Ok y → (v : X) × ((x ≡ Ok v) × (f v ≡ Ok y))
begun k form ws x f y h = then_ok x f y (unless (ltb (length ws) k) (TooFew form) (then x f) y h).1

-- a line of more words than its form has asks for nothing
pub crowded : {Y : Type 0} (least most : ℕ) (form : Form) (ws : List (List ℕ)) (x : Result Y Cannot) (y : Y) → most < length ws → at_least least form ws (at_most most form ws x) ≡ Ok y → ⊥
crowded least most form ws x y more h =
    let few = unless (ltb (length ws) least) (TooFew form) (at_most most form ws x) y h in
    let many = unless (ltb most (length ws)) (TooMany form) x y few.1 in
    omega (arith, ltb-false most (length ws) many.0)

pub when : {Y : Type 0} (b : Bool) (e : Cannot) (v y : Y) → cond b (Ok v) (Err e) ≡ Ok y → (b ≡ true) × (v ≡ y)
when true e v y h = (refl, cc)
when false e v y h = never e y h

pub number_fits : (low high : ℕ) (e : Cannot) (o : Option ℕ) (n : ℕ) → o ≡ Some n → low ≤ n → n ≤ high → number_in low high e o ≡ Ok n
number_fits low high e o n is l h = ap (number_in low high e) is ∙ ap (λ b. cond b (Ok n) (Err e)) (inside low high n l h)

pub number_parts : (low high : ℕ) (e : Cannot) (o : Option ℕ) (n : ℕ) → number_in low high e o ≡ Ok n → (o ≡ Some n) × ((low ≤ n) × (n ≤ high))
number_parts low high e (Some m) n h =
    let p = when (within low high m) e m n h in
    let q = within_parts low high m p.0 in
    (ap Some p.1, (subst (λ k. low ≤ k) p.1 q.0, subst (λ k. k ≤ high) p.1 q.1))
number_parts low high e None n h = never e n h

pub address_fits : (e : Cannot) (o : Option (List ℕ)) (bs : List ℕ) → o ≡ Some bs → 3 ≤ length bs → length bs ≤ 5 → or_else (as_address o) e ≡ Ok (reverse bs)
address_fits e o bs is l h = ap (λ p. or_else (as_address p) e) is ∙ ap (λ b. or_else (cond b (Some (reverse bs)) None) e) (inside 3 5 (length bs) l h)

pub or_else_ok : {X : Type 0} (o : Option X) (e : Cannot) (y : X) → or_else o e ≡ Ok y → o ≡ Some y
or_else_ok (Some x) e y h = ap Some (ok_same h)
or_else_ok None e y h = never e y h

pub address_parts : (e : Cannot) (o : Option (List ℕ)) (a : List ℕ) → or_else (as_address o) e ≡ Ok a → (bs : List ℕ) × ((o ≡ Some bs) × ((3 ≤ length bs) × ((length bs ≤ 5) × (reverse bs ≡ a))))
address_parts e (Some bs) a h =
    let p = cond_some (within 3 5 (length bs)) (reverse bs) a (or_else_ok (as_address (Some bs)) e a h) in
    let q = within_parts 3 5 (length bs) p.0 in
    (bs, (refl, (q.0, (q.1, p.1))))
address_parts e None a h = never e a h

-- 0 or 1
pub bit_fits : (place : ℕ) (wanted : Wanted) (w : List ℕ) (n : ℕ) → decimal_of w ≡ Some n → n ≤ 1 → bit_of place wanted w ≡ Ok (eqb n 1)
bit_fits place wanted w n is high = ap (λ x. then x (λ m. Ok (eqb m 1))) (number_fits 0 1 (Word place wanted) (decimal_of w) n is (omega arith) high)

pub bit_parts : (place : ℕ) (wanted : Wanted) (w : List ℕ) (b : Bool) → bit_of place wanted w ≡ Ok b → (n : ℕ) × ((decimal_of w ≡ Some n) × ((n ≤ 1) × (eqb n 1 ≡ b)))
bit_parts place wanted w b h =
    let s = then_ok (number_in 0 1 (Word place wanted) (decimal_of w)) (λ m. Ok (eqb m 1)) b h in
    let p = number_parts 0 1 (Word place wanted) (decimal_of w) s.0 s.1.0 in
    (s.0, (p.0, (p.1.1, ok_same s.1.1)))

-- ---- bytes

abbrev pub turn : List ℕ → ℕ → List (List ℕ) → Option ℕ → Result (List ℕ) ℕ
turn acc at ws o = elim o [ Some b ↦ bytes_after (acc ++ b ∷ []) (at + 1) ws | None ↦ Err (at + 1) ]

pub bytes_fit : (ws : List (List ℕ)) (bs acc : List ℕ) (at : ℕ) → Write ws bs → as_bytes (bytes_after acc at ws) ≡ Ok (acc ++ bs)
bytes_fit [] [] acc at h = ap Ok (sym (append-nil acc))
bytes_fit [] (b ∷ bs) acc at h = absurd h
bytes_fit (w ∷ ws) [] acc at h = absurd h
bytes_fit (w ∷ ws) (b ∷ bs) acc at h =
    ap (λ o. as_bytes (turn acc at ws o)) h.0 ∙ bytes_fit ws bs (acc ++ b ∷ []) (at + 1) h.1 ∙ ap Ok (append_assoc acc (b ∷ []) bs)

abbrev pub Parts : List (List ℕ) → List ℕ → List ℕ → Type 0
Parts ws acc all = (bs : List ℕ) × ((acc ++ bs ≡ all) × Write ws bs)

pub bytes_by : (o : Option ℕ) (w : List ℕ) (ws : List (List ℕ)) (acc all : List ℕ) (at : ℕ) → byte_of w ≡ o
    → ((b : ℕ) → as_bytes (bytes_after (acc ++ b ∷ []) (at + 1) ws) ≡ Ok all → Parts ws (acc ++ b ∷ []) all)
    → as_bytes (turn acc at ws o) ≡ Ok all → Parts (w ∷ ws) acc all
bytes_by (Some b) w ws acc all at is more h =
    let p = more b h in
    (b ∷ p.0, (sym (append_assoc acc (b ∷ []) p.0) ∙ p.1.0, (is, p.1.1)))
bytes_by None w ws acc all at is more h = never (Word (at + 1) want.Byte) all h

pub bytes_parts : (ws : List (List ℕ)) (acc all : List ℕ) (at : ℕ) → as_bytes (bytes_after acc at ws) ≡ Ok all → Parts ws acc all
bytes_parts [] acc all at h = let same : acc ≡ all = cc in ([], (append-nil acc ∙ same, tt))
bytes_parts (w ∷ ws) acc all at h = bytes_by (byte_of w) w ws acc all at refl (λ b. bytes_parts ws (acc ++ b ∷ []) all (at + 1)) h

-- a line that ends with bytes
pub bytes_last : (ws : List (List ℕ)) (at : ℕ) (g : List ℕ → Request) (q : Request) → then (as_bytes (bytes_after [] at ws)) (λ bs. Ok (g bs)) ≡ Ok q → (bs : List ℕ) × (Write ws bs × (g bs ≡ q))
bytes_last ws at g q h =
    let s = then_ok (as_bytes (bytes_after [] at ws)) (λ bs. Ok (g bs)) q h in
    let p = bytes_parts ws [] s.0 at s.1.0 in
    (p.0, (p.1.1, ap g p.1.0 ∙ ok_same s.1.1))

pub named : (w t : List ℕ) → bytes_eq w t ≡ true → w ≡ t
named w t h = (bytes_eq-Decides w t).0 h

-- ---- what the first word is, or is not

chosen : (b : Bool) (o p : Option Form) (t w : List ℕ) (ws : List (List ℕ)) (q : Request) → bytes_eq w t ≡ b
    → (line_as o (w ∷ ws) ≡ Ok q → Asks (t ∷ ws) q) → (line_as p (w ∷ ws) ≡ Ok q → Asks (w ∷ ws) q)
    → line_as (cond b o p) (w ∷ ws) ≡ Ok q → Asks (w ∷ ws) q
chosen true o p t w ws q is here other h = subst (λ x. Asks (x ∷ ws) q) (sym (named w t is)) (here h)
chosen false o p t w ws q is here other h = other h

pub choose : (o p : Option Form) (t w : List ℕ) (ws : List (List ℕ)) (q : Request)
    → (line_as o (w ∷ ws) ≡ Ok q → Asks (t ∷ ws) q) → (line_as p (w ∷ ws) ≡ Ok q → Asks (w ∷ ws) q)
    → line_as (cond (bytes_eq w t) o p) (w ∷ ws) ≡ Ok q → Asks (w ∷ ws) q
choose o p t w ws q = chosen (bytes_eq w t) o p t w ws q refl
