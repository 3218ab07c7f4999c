-- The lines for the cell: what the words ask for, and what is made of them.
use Rattle.std.proofs.Common.{◌≡◌, ℕ, ◌≤◌, cond, eqb, ltb, List, [], ◌∷◌, length, Some, Ok, Err, codes, Result, refl, ap, subst, arith}
use Rattle.std.proofs.lemmas.Bool.{ltb-false}
use Rattle.words.specs.Numbers.{decimal_of}
use Rattle.requests.specs.declared.lines.Form.TheVariants as form
use Rattle.requests.specs.declared.lines.Cannot.{Cannot}
use Rattle.requests.specs.declared.lines.Cannot.TheVariants.{Word, TooFew, TooMany}
use Rattle.requests.specs.declared.lines.Wanted.TheVariants as want
use Rattle.requests.specs.Lines.{Request, make, carry, then, or_else, at_most, fate_of, start_of, four_digits, pattern_of, make_line, carry_with, carry_line}
use Rattle.requests.specs.Grammar.{Asks, makes, carries, carries_changed}
use Rattle.requests.proofs.Steps.{never, ok_same, then_ok, unless, number_fits, number_parts, or_else_ok}

-- ---- from the words to the answer

fate_fits : (n : List ℕ) (fate : ℕ) → decimal_of n ≡ Some fate → fate ≤ 255 → fate_of n ≡ Ok fate
fate_fits n fate is high = number_fits 0 255 (Word 2 want.Fate) (decimal_of n) fate is (omega arith) high

pub carries_complete : (n : List ℕ) (fate : ℕ) → decimal_of n ≡ Some fate → fate ≤ 255 → carry_line (codes "carry" ∷ n ∷ []) ≡ Ok (carry fate 0 0)
carries_complete n fate is high = rw (fate_fits n fate is high) refl

pub carries_changed_complete : (n s p : List ℕ) (fate start pattern : ℕ) → decimal_of n ≡ Some fate → fate ≤ 255 → decimal_of s ≡ Some start → start ≤ 65535
    → four_digits p ≡ Some pattern → carry_line (codes "carry" ∷ n ∷ s ∷ p ∷ []) ≡ Ok (carry fate start pattern)
carries_changed_complete n s p fate start pattern is high s-is s-high p-is =
    rw (
      fate_fits n fate is high,
      number_fits 0 65535 (Word 3 want.Start) (decimal_of s) start s-is (omega arith) s-high,
      ap (λ o. or_else o (Word 4 want.Pattern)) p-is,
    ) refl

-- ---- and back

pub make_back : (w : List ℕ) (ws : List (List ℕ)) (q : Request) → make_line (w ∷ ws) ≡ Ok q → Asks (codes "make" ∷ ws) q
make_back w [] q h = subst (Asks (codes "make" ∷ [])) (ok_same h) makes
make_back w (x ∷ ws) q h =
    let all = w ∷ x ∷ ws in
    let many = unless (ltb 1 (length all)) (TooMany form.Make) (Ok make) q h in
    absurd (omega (arith, ltb-false 1 (length all) many.0))

pub carry_back : (w : List ℕ) (ws : List (List ℕ)) (q : Request) → carry_line (w ∷ ws) ≡ Ok q → Asks (codes "carry" ∷ ws) q
carry_back w [] q h = never (TooFew form.Carry) q h
carry_back w (n ∷ []) q h =
    let s = then_ok (fate_of n) (λ v. Ok (carry v 0 0)) q h in
    let fate = number_parts 0 255 (Word 2 want.Fate) (decimal_of n) s.0 s.1.0 in
    subst (Asks (codes "carry" ∷ n ∷ [])) (ok_same s.1.1) (carries n s.0 fate.0 fate.1.1)
carry_back w (n ∷ b ∷ []) q h = never (TooFew form.Carry) q h
carry_back w (n ∷ b ∷ p ∷ []) q h =
    let f2 : ℕ → ℕ → Result Request Cannot = λ v m. then (pattern_of p) (λ x. Ok (carry v m x)) in
    let s1 = then_ok (fate_of n) (λ v. then (start_of b) (f2 v)) q h in
    let s2 = then_ok (start_of b) (f2 s1.0) q s1.1.1 in
    let s3 = then_ok (pattern_of p) (λ x. Ok (carry s1.0 s2.0 x)) q s2.1.1 in
    let fate = number_parts 0 255 (Word 2 want.Fate) (decimal_of n) s1.0 s1.1.0 in
    let start = number_parts 0 65535 (Word 3 want.Start) (decimal_of b) s2.0 s2.1.0 in
    subst (Asks (codes "carry" ∷ n ∷ b ∷ p ∷ [])) (ok_same s3.1.1)
    (carries_changed n b p s1.0 s2.0 s3.0 fate.0 fate.1.1 start.0 start.1.1 (or_else_ok (four_digits p) (Word 4 want.Pattern) s3.0 s3.1.0))
carry_back w (n ∷ b ∷ p ∷ x ∷ ws) q h =
    let all = w ∷ n ∷ b ∷ p ∷ x ∷ ws in
    let rest = then (fate_of n) (carry_with all) in
    let few = unless (ltb (length all) 2) (TooFew form.Carry) (cond (eqb (length all) 3) (Err (TooFew form.Carry)) (at_most 4 form.Carry all rest)) q h in
    let three = unless (eqb (length all) 3) (TooFew form.Carry) (at_most 4 form.Carry all rest) q few.1 in
    let many = unless (ltb 4 (length all)) (TooMany form.Carry) rest q three.1 in
    absurd (omega (arith, ltb-false 4 (length all) many.0))
