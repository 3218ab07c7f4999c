-- What is collected from words, each of which is read as a byte.
use Rattle.std.proofs.Common.{◌≡◌, ℕ, zero, suc, ◌+◌, ◌<◌, List, [], ◌∷◌, ◌++◌, map, drop, Some, None, Ok, Err, IfOk, IfErr, IsSomeAnd, slice_get, ok_or, Option, Result, Vec, vec_items, vec_len, vec_capacity, length, ◌≤◌, ◌⊎◌, inl, inr, refl, sym, ap, ◌∙◌, subst, arith, Bor, map-id}
use Rattle.std.specs.List.{enumerate_from, FoldsTo}
use Rattle.std.specs.Iterator.{TryCollects}
use Rattle.std.specs.Iterator.Runs.{SomeRun, EndsAtFirstErr}
use Rattle.std.proofs.iter.Yields.{gives_left, gives_Drains}
use Rattle.std.proofs.iter.runs.Made.{took, at-is}
use Rattle.std.proofs.lemmas.Iterator.{YieldsList}
use Rattle.std.specs.declared.alloc.AllocError.{AllocError}
use Rattle.std.proofs.lemmas.List.{drop-map}
use Rattle.std.specs.declared.alloc.Global.{Global}
use Rattle.words.specs.declared.reading.Unread.{Unread}
use Rattle.words.specs.declared.reading.Unread.TheVariants.{NoByte, Memory}
use Rattle.words.specs.Numbers.{byte_of}
use Rattle.words.specs.Split.{texts}
use Rattle.words.specs.Bytes.{bytes_after, bytes_from, ReadsBytes}

abbrev pub placed : ℕ → Option ℕ → Result ℕ Unread
placed at o = ok_or o (NoByte (at + 1))

-- a word with its place, counted from 0
abbrev pub octet : ℕ × Bor (List ℕ) → Result ℕ Unread
octet p = placed p.0 (byte_of p.1.now)

abbrev pub octets : ℕ → List (Bor (List ℕ)) → List (Result ℕ Unread)
octets at ws = map octet (enumerate_from at ws)

pub from_place : (n at : ℕ) (ws : List (Bor (List ℕ))) → drop n (enumerate_from at ws) ≡ enumerate_from (at + n) (drop n ws)
from_place zero at ws = let e : at ≡ at + 0 = omega arith in ap (λ k. enumerate_from k ws) e
from_place (suc n) at [] = refl
from_place (suc n) at (w ∷ ws) = let e : at + 1 + n ≡ at + suc n = omega arith in from_place n (at + 1) ws ∙ ap (λ k. enumerate_from k (drop n ws)) e

abbrev turn : List ℕ → ℕ → List (Bor (List ℕ)) → Option ℕ → Result (List ℕ) ℕ
turn acc at ws o = elim o [ Some b ↦ bytes_after (acc ++ b ∷ []) (at + 1) (texts ws) | None ↦ Err (at + 1) ]

is_byte : (at y : ℕ) (o : Option ℕ) → Ok y ≡ placed at o → o ≡ Some y
is_byte at y (Some b) h = let e : y ≡ b = cc in ap Some (sym e)
is_byte at y None h = let z : ◌≡◌ {A = ℕ} 0 1 = cc in absurd (omega arith)

is_none : (at n : ℕ) (o : Option ℕ) → Err (NoByte n) ≡ placed at o → (o ≡ None) × (at + 1 ≡ n)
is_none at n (Some b) h = let z : ◌≡◌ {A = ℕ} 0 1 = cc in absurd (omega arith)
is_none at n None h = (refl, cc)

-- each word was a byte
pub gathered : (Takes : Vec ℕ Global → List ℕ → Vec ℕ Global → Type 0) → ((v w : Vec ℕ Global) (xs : List ℕ) → Takes v xs w → vec_items w ≡ vec_items v ++ xs)
    → (ws : List (Bor (List ℕ))) (at : ℕ) (v w : Vec ℕ Global)
    → FoldsTo (λ p x q. (y : ℕ) × (Ok y ≡ x) × Takes p (y ∷ []) q) v (octets at ws) w → bytes_after (vec_items v) at (texts ws) ≡ Ok (vec_items w)
gathered Takes adds [] at v w h = ap (λ l. Ok (vec_items l)) h
gathered Takes adds (x ∷ ws) at v w h =
    let y = h.1.0 in
    ap (turn (vec_items v) at ws) (is_byte at y (byte_of x.now) h.1.1)
    ∙ ap (λ l. bytes_after l (at + 1) (texts ws)) (sym (adds v h.0 (y ∷ []) h.1.2))
    ∙ gathered Takes adds ws (at + 1) h.0 w h.2

-- the first word that is no byte
pub first_wrong : (i n : ℕ) (ws : List (Bor (List ℕ))) (at : ℕ) (acc : List ℕ)
    → ((j : ℕ) → j < i → IsSomeAnd (slice_get (octets at ws) j) (λ x. (y : ℕ) × (Ok y ≡ x))) → IsSomeAnd (slice_get (octets at ws) i) (λ x. Err (NoByte n) ≡ x)
    → bytes_after acc at (texts ws) ≡ Err n
first_wrong i n [] at acc good bad = absurd bad
first_wrong zero n (x ∷ ws) at acc good bad =
    let none = is_none at n (byte_of x.now) bad in
    ap (turn acc at ws) none.0 ∙ ap Err none.1
first_wrong (suc i) n (x ∷ ws) at acc good bad =
    let here = good 0 (omega arith) in
    ap (turn acc at ws) (is_byte at here.0 (byte_of x.now) here.1)
    ∙ first_wrong i n ws (at + 1) (acc ++ here.0 ∷ []) (λ j l. good (suc j) (omega (arith, l))) bad

-- what holds of an item holds with more behind it
pub with_more : {X : Type 0} (P : X → Type 0) (xs more : List X) (k : ℕ) → IsSomeAnd (slice_get xs k) P → IsSomeAnd (slice_get (xs ++ more) k) P
with_more P [] more k h = absurd h
with_more P (x ∷ xs) more zero h = h
with_more P (x ∷ xs) more (suc k) h = with_more P xs more k h

module _ {S : Type 0} (steps : S → Option (Result ℕ Unread) → S → Type 0) (s : S) (from : ℕ) (ws : List (Bor (List ℕ)))
    (road : YieldsList steps (λ t. t) s (map octet (drop from (enumerate_from 0 ws)))) where
  abbrev Settles : Result ℕ Unread → Result ℕ Unread → Type 0
  Settles x t = t ≡ x

  abbrev Collects : List ℕ → Vec ℕ Global → Type 0
  Collects xs v = (vec_items v ≡ xs) × (vec_len v ≡ length xs)

  abbrev Extends : Vec ℕ Global → List ℕ → Vec ℕ Global → Type 0
  Extends v xs w = (vec_items w ≡ vec_items v ++ xs) × (vec_len w ≡ vec_len v + length xs) × (vec_capacity v ≤ vec_capacity w)

  abbrev all : List (Result ℕ Unread)
  all = octets from (drop from ws)

  are : map octet (drop from (enumerate_from 0 ws)) ≡ all
  are = let e : 0 + from ≡ from = omega arith in ap (map octet) (from_place from 0 ws ∙ ap (λ k. enumerate_from k (drop from ws)) e)

  left : bytes_from from (drop from (texts ws)) ≡ bytes_after [] from (texts (drop from ws))
  left = ap (bytes_after [] from) (drop-map (λ x. x.now) from ws)

  abbrev Fails : Unread → Type 0
  Fails e = ((full : AllocError) × (e ≡ Memory)) ⊎ SomeRun steps s (λ p. EndsAtFirstErr p Settles e)

  found : (n : ℕ) → Fails (NoByte n) → bytes_from from (drop from (texts ws)) ≡ Err n
  found n (inl h) = let z : ◌≡◌ {A = ℕ} 0 1 = cc in absurd (omega arith)
  found n (inr h) =
      let p = h.0 in
      let items = p.items in
      let gave = gives_left steps (λ t. t) items _ p.from (took p).0 (subst (λ k. YieldsList steps (λ t. t) k (map octet (drop from (enumerate_from 0 ws)))) (sym h.1) road).runs (took p).1 in
      let same : items ++ gave.0 ≡ all = ap (λ l. l ++ gave.0) (sym (map-id items)) ∙ sym gave.1 ∙ are in
      let place : (P : Result ℕ Unread → Type 0) (j : ℕ) → IsSomeAnd (p.at j) P → IsSomeAnd (slice_get all j) P =
      λ P j k. subst (λ l. IsSomeAnd (slice_get l j) P) same (with_more P items gave.0 j (subst (λ o. IsSomeAnd o P) (at-is p j) k)) in
      let end = h.2 in
      left ∙ first_wrong end.0 n (drop from ws) from [] (λ j l. place _ j (end.3 j l)) (place _ end.0 end.2)

  pub read : (r : Result (Vec ℕ Global) Unread) → IfOk r (TryCollects steps Settles Collects Extends s) → IfErr r Fails → ReadsBytes r (bytes_from from (drop from (texts ws)))
  read (Ok v) ran err =
      let same : ran.0 ≡ all = sym (map-id ran.0) ∙ gives_Drains steps (λ t. t) ran.0 _ s road.runs ran.2 ∙ are in
      let turns = subst (λ l. FoldsTo (λ p x q. (y : ℕ) × (Ok y ≡ x) × Extends p (y ∷ []) q) ran.1 l v) same ran.4 in
      left ∙ ap (λ l. bytes_after l from (texts (drop from ws))) (sym ran.3.0) ∙ gathered Extends (λ a b xs h. h.0) (drop from ws) from ran.1 v turns
  read (Err (NoByte n)) ran err = found n err
  read (Err Memory) ran err = tt
