-- The lines for units under their labels and for profiles: what the words ask for, and what is made of them.
use Rattle.std.proofs.Common.{◌≡◌, ℕ, ◌≤◌, List, [], ◌∷◌, Some, Ok, codes, Result, refl, ap, subst, arith}
use Rattle.words.specs.Numbers.{byte_of, decimal_of}
use Rattle.words.specs.Bytes.{bytes_after}
use Rattle.requests.specs.declared.lines.Form.{Form}
use Rattle.requests.specs.declared.lines.Form.TheVariants as form
use Rattle.requests.specs.declared.lines.Cannot.{Cannot}
use Rattle.requests.specs.declared.lines.Cannot.TheVariants.{Word, TooFew}
use Rattle.requests.specs.declared.lines.Wanted.TheVariants as want
use Rattle.requests.specs.Lines.{UnitRequest, load, hear, Request, field, unit, then, or_else, as_bytes, label_of, bit_count, register_of, plain_line, field_line, load_line, hear_line}
use Rattle.requests.specs.Grammar.{Labels, Write, Asks, fields, loads, hears}
use Rattle.requests.proofs.Steps.{never, ok_same, then_ok, enough, begun, crowded, bytes_last, number_fits, number_parts, bytes_fit, or_else_ok}

-- ---- one word

pub label_fits : (u : List ℕ) (label : ℕ) → Labels u label → label_of u ≡ Ok label
label_fits u label h = number_fits 0 7 (Word 2 want.Label) (decimal_of u) label h.is (omega arith) h.high

label_parts : (u : List ℕ) (label : ℕ) → label_of u ≡ Ok label → Labels u label
label_parts u label h = let p = number_parts 0 7 (Word 2 want.Label) (decimal_of u) label h in record { is = p.0; high = p.1.1 }

-- ---- from the words to the answer

pub fields_complete : (r : List ℕ) (ps : List (List ℕ)) (register : ℕ) (profile : List ℕ) → byte_of r ≡ Some register → Write ps profile → field_line (codes "field" ∷ r ∷ ps) ≡ Ok (field register profile)
fields_complete r ps register profile is are =
    rw (enough 2 (codes "field" ∷ r ∷ ps) (omega arith), ap (λ o. or_else o (Word 2 want.Register)) is, bytes_fit ps profile [] 2 are) refl

pub loads_complete : (u : List ℕ) (ps : List (List ℕ)) (label : ℕ) (profile : List ℕ) → Labels u label → Write ps profile → load_line (codes "load" ∷ u ∷ ps) ≡ Ok (unit label (load profile))
loads_complete u ps label profile is are =
    rw (enough 2 (codes "load" ∷ u ∷ ps) (omega arith), label_fits u label is, bytes_fit ps profile [] 2 are) refl

pub hears_complete : (u n : List ℕ) (bs : List (List ℕ)) (label bits : ℕ) (bytes : List ℕ) → Labels u label → decimal_of n ≡ Some bits → bits ≤ 65535 → Write bs bytes
    → hear_line (codes "hear" ∷ u ∷ n ∷ bs) ≡ Ok (unit label (hear bits bytes))
hears_complete u n bs label bits bytes is n-is n-high are =
    rw (
      enough 3 (codes "hear" ∷ u ∷ n ∷ bs) (omega arith),
      label_fits u label is,
      number_fits 0 65535 (Word 3 want.BitCount) (decimal_of n) bits n-is (omega arith) n-high,
      bytes_fit bs bytes [] 3 are,
    ) refl

-- ---- and back

pub plain_back : (name : List ℕ) (f : Form) (k : UnitRequest) → ((u : List ℕ) (label : ℕ) → Labels u label → Asks (name ∷ u ∷ []) (unit label k))
    → (w : List ℕ) (ws : List (List ℕ)) (q : Request) → plain_line f k (w ∷ ws) ≡ Ok q → Asks (name ∷ ws) q
plain_back name f k make w [] q h = never (TooFew f) q h
plain_back name f k make w (u ∷ []) q h =
    let p = then_ok (label_of u) (λ l. Ok (unit l k)) q h in
    subst (λ x. Asks (name ∷ u ∷ []) x) (ok_same p.1.1) (make u p.0 (label_parts u p.0 p.1.0))
plain_back name f k make w (u ∷ x ∷ ws) q h =
    absurd (crowded 2 2 f (w ∷ u ∷ x ∷ ws) (then (label_of u) (λ l. Ok (unit l k))) q (omega arith) h)

pub field_back : (w : List ℕ) (ws : List (List ℕ)) (q : Request) → field_line (w ∷ ws) ≡ Ok q → Asks (codes "field" ∷ ws) q
field_back w [] q h = never (TooFew form.Field) q h
field_back w (r ∷ ps) q h =
    let s = begun 2 form.Field (w ∷ r ∷ ps) (register_of r) (λ u. then (as_bytes (bytes_after [] 2 ps)) (λ p. Ok (field u p))) q h in
    let p = bytes_last ps 2 (field s.0) q s.1.1 in
    subst (Asks (codes "field" ∷ r ∷ ps)) p.1.1 (fields r ps s.0 p.0 (or_else_ok (byte_of r) (Word 2 want.Register) s.0 s.1.0) p.1.0)

pub load_back : (w : List ℕ) (ws : List (List ℕ)) (q : Request) → load_line (w ∷ ws) ≡ Ok q → Asks (codes "load" ∷ ws) q
load_back w [] q h = never (TooFew form.Load) q h
load_back w (u ∷ ps) q h =
    let s = begun 2 form.Load (w ∷ u ∷ ps) (label_of u) (λ l. then (as_bytes (bytes_after [] 2 ps)) (λ p. Ok (unit l (load p)))) q h in
    let p = bytes_last ps 2 (λ v. unit s.0 (load v)) q s.1.1 in
    subst (Asks (codes "load" ∷ u ∷ ps)) p.1.1 (loads u ps s.0 p.0 (label_parts u s.0 s.1.0) p.1.0)

pub hear_back : (w : List ℕ) (ws : List (List ℕ)) (q : Request) → hear_line (w ∷ ws) ≡ Ok q → Asks (codes "hear" ∷ ws) q
hear_back w [] q h = never (TooFew form.Hear) q h
hear_back w (u ∷ []) q h = never (TooFew form.Hear) q h
hear_back w (u ∷ n ∷ bs) q h =
    let f2 : ℕ → ℕ → Result Request Cannot = λ l v. then (as_bytes (bytes_after [] 3 bs)) (λ s. Ok (unit l (hear v s))) in
    let s1 = begun 3 form.Hear (w ∷ u ∷ n ∷ bs) (label_of u) (λ l. then (bit_count n) (f2 l)) q h in
    let l = s1.0 in
    let s2 = then_ok (bit_count n) (f2 l) q s1.1.1 in
    let v = s2.0 in
    let bits = number_parts 0 65535 (Word 3 want.BitCount) (decimal_of n) v s2.1.0 in
    let b = bytes_last bs 3 (λ s. unit l (hear v s)) q s2.1.1 in
    subst (Asks (codes "hear" ∷ u ∷ n ∷ bs)) b.1.1 (hears u n bs l v b.0 (label_parts u l s1.1.0) bits.0 bits.1.1 b.1.0)
