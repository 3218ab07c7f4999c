-- The program's table says what the table of registers says: one test over all rows, computed.
-- Assumes nothing.
use Rattle.std.proofs.Common.{◌≡◌, ℕ, zero, suc, ◌+◌, ◌<◌, ◌≤◌, Bool, true, false, ◌&&◌, eqb, List, [], ◌∷◌, length, get_or, is_some, Option, Some, None, sym, refl, ap, ◌∙◌, subst, ⊎_elim, le_of_suc-le-suc, not-suc-le-zero, add-zero, add-suc, suc-add, zero-add, arith}
use Rattle.std.specs.Borrow.{Bor}
use Rattle.std.specs.List.{HoldsAt}
use Rattle.std.specs.Option.{MatchOption, IsSomeAnd, ok_or}
use Rattle.std.proofs.lemmas.Bool.{cases_lt, and_parts, eqb-true}
use Rattle.std.proofs.lemmas.Option.{slice_get_past}
use Rattle.registers.specs.declared.row.Row.{Row}
use Rattle.registers.specs.declared.register.Register.{Register}
use Rattle.registers.specs.declared.register.Register.TheVariants.{Config}
use Rattle.registers.specs.Address.{address_of, registers, register_at, StandsAt}
use Rattle.registers.specs.Table.{Entry, entry, table, tested, entry_at}
use Rattle.registers.specs.Rows.{permits, writable, same, equal, below, agrees, agree, Tells}
use Rattle.registers.proofs.Holding.{found}

same_eq : (a b : Bool) → same a b ≡ true → a ≡ b
same_eq true true t = refl
same_eq true false t = sym t
same_eq false true t = t
same_eq false false t = refl

equal_eq : (xs ys : List ℕ) → equal xs ys ≡ true → xs ≡ ys
equal_eq [] [] t = refl
equal_eq [] (y ∷ ys) t = absurd (cc)
equal_eq (x ∷ xs) [] t = absurd (cc)
equal_eq (x ∷ xs) (y ∷ ys) t =
    let parts = and_parts (eqb x y) (equal xs ys) t in
    let h : x ≡ y = eqb-true x y parts.0 in
    let r : xs ≡ ys = equal_eq xs ys parts.1 in cc

-- a test that passes at each number below n passes at v
pub below_at : (n : ℕ) (f : ℕ → Bool) → below n f ≡ true → (v : ℕ) → v < n → f v ≡ true
below_at zero f t v h = absurd (not-suc-le-zero h)
below_at (suc n) f t v h =
    let parts = and_parts (f n) (below n f) t in
    ⊎_elim (λ (l : v < n). below_at n f parts.1 v l)
    (λ (g : n ≤ v). let e : n ≡ v = omega arith in subst (λ (m : ℕ). f m ≡ true) e parts.0) (cases_lt v n)

tells : (k : ℕ) (r : Row) (e : Entry) → agrees k r e ≡ true → Tells k r e
tells k r e t =
    let b : Bool = equal r.name.now e.name in
    let c : Bool = eqb r.size e.size in
    let d : Bool = eqb r.reset e.reset in
    let w : Bool = same (writable r.allowed) (is_some e.takes) in
    let f : ℕ → Bool = λ v. same (permits r.allowed v) (tested e.takes v) in
    let t1 = and_parts (eqb (address_of r.register) k) (b && (c && (d && (w && below 256 f)))) t in
    let t2 = and_parts b (c && (d && (w && below 256 f))) t1.1 in
    let t3 = and_parts c (d && (w && below 256 f)) t2.1 in
    let t4 = and_parts d (w && below 256 f) t3.1 in
    let t5 = and_parts w (below 256 f) t4.1 in
    record {
      register = eqb-true (address_of r.register) k t1.0;
      name = equal_eq r.name.now e.name t2.0;
      size = eqb-true r.size e.size t3.0;
      reset = eqb-true r.reset e.reset t4.0;
      written = same_eq (writable r.allowed) (is_some e.takes) t5.0;
      takes = λ v h. same_eq (permits r.allowed v) (tested e.takes v) (below_at 256 f t5.1 v h);
    }

from :
    (k : ℕ) (rs : List Row) (es : List Entry) (d : Row) (e : Entry) → agree k rs es ≡ true
    → (i : ℕ) → i < length es → Tells (k + i) (get_or rs i d) (get_or es i e)
from k [] [] d e t i h = absurd (not-suc-le-zero h)
from k [] (x ∷ es) d e t i h = absurd (cc)
from k (r ∷ rs) [] d e t i h = absurd (cc)
from k (r ∷ rs) (x ∷ es) d e t zero h =
    subst (λ (m : ℕ). Tells m r x) (sym (add-zero k)) (tells k r x (and_parts (agrees k r x) (agree (suc k) rs es) t).0)
from k (r ∷ rs) (x ∷ es) d e t (suc i) h =
    subst (λ (m : ℕ). Tells m (get_or rs i d) (get_or es i e)) (suc-add k i ∙ sym (add-suc k i))
    (from (suc k) rs es d e (and_parts (agrees k r x) (agree (suc k) rs es) t).1 i (le_of_suc-le-suc h))

-- the row at each address
pub row_tells : (rs : List Row) (d : Row) → agree 0 rs table ≡ true → (n : ℕ) → n < 24 → Tells n (get_or rs n d) (entry_at n)
row_tells rs d t n h =
    subst (λ (m : ℕ). Tells m (get_or rs n d) (entry_at n)) (zero-add n)
    (from 0 rs table d (entry [] 0 0 None) t n h)

-- its register is the one of the list
pub row_register :
    (rs : List Row) (d : Row) → agree 0 rs table ≡ true → (n : ℕ) → n < 24 → Some (get_or rs n d).register ≡ register_at n
row_register rs d t n h =
    sym (found (get_or rs n d).register) ∙ ap register_at (row_tells rs d t n h).register

-- the registers of the list have the addresses from 0 on
pub listed : (n : ℕ) → n < 24 → address_of (get_or registers n Config) ≡ n
listed n h = eqb-true _ n (below_at 24 (λ k. eqb (address_of (get_or registers k Config)) k) refl n h)

-- the register of the row that a lookup gave, where P is what is known of that register
pub looked_up :
    (P : Bor Row → Register → Type 0) (rs : List Row) (n : ℕ) (got : Option (Bor Row)) (found : Option Register) → agree 0 rs table ≡ true → length rs ≡ 24
    → MatchOption got (length rs ≤ n) (λ x. (n < length rs) × HoldsAt (λ y. x.now ≡ y) rs n)
    → MatchOption got (found ≡ None) (λ x. IsSomeAnd found (P x)) → ((x : Bor Row) (r : Register) → P x r → r ≡ x.now.register)
    → StandsAt n (ok_or found (record {}))
looked_up P rs n None found t l g m p =
    let h : 24 ≤ n = omega (arith, g) in
    rw m (record { value = ap (λ (o : Option Register). ok_or o (record {})) (sym (slice_get_past registers n h)); back = h })
looked_up P rs n (Some x) None t l g m p = absurd m
looked_up P rs n (Some x) (Some r) t l g m p =
    let d : Row = x.now in
    let at : x.now ≡ get_or rs n d = g.1 d in
    let e : r ≡ (get_or rs n d).register = p x r m ∙ ap (λ (y : Row). y.register) at in
    let h : n < 24 = omega (arith, g.0) in
    let s : Some r ≡ register_at n = ap (λ (q : Register). Some q) e ∙ row_register rs d t n h in
    record {
      value = ap (λ (o : Option Register). ok_or o (record {})) s;
      back = ap address_of e ∙ (row_tells rs d t n h).register;
    }
