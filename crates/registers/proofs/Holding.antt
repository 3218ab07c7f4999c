-- What a register holds after a write.
-- Assumes nothing.
use Rattle.std.proofs.Common.{◌≡◌, ℕ, zero, suc, ◌<◌, List, [], ◌∷◌, ◌++◌, length, get_or, take, drop, set, replicate, Some, sym, refl, ap, ◌∙◌, arith, rules}
use Rattle.std.proofs.lemmas.List.{get_or-set_same, get_or-set_other}
use Rattle.registers.specs.declared.register.Register.{Register}
use Rattle.registers.specs.declared.held.Value.{Value}
use Rattle.registers.specs.declared.held.Registers.{Registers}
use Rattle.registers.specs.Address.{address_of, register_at}
use Rattle.registers.specs.Table.{size_of}
use Rattle.registers.specs.File.{padded, places, value_of, byte_of, Holds}

pub found : (r : Register) → register_at (address_of r) ≡ Some r
found r = search rules

pub address_bound : (r : Register) → address_of r < 24
address_bound r = search rules

-- two registers at one address are one
pub one_address : (q r : Register) → address_of q ≡ address_of r → q ≡ r
one_address q r e =
    let s : Some q ≡ Some r = sym (found q) ∙ ap register_at e ∙ found r in cc

front : (n : ℕ) (v rest : List ℕ) → length v ≡ n → take n (v ++ rest) ≡ v
front zero [] rest h = refl
front zero (x ∷ v) rest h = absurd (omega (arith, h))
front (suc n) [] rest h = absurd (omega (arith, h))
front (suc n) (x ∷ v) rest h = ap (λ l. x ∷ l) (front n v rest (omega (arith, h)))

pub holds :
    (f : Registers) (r : Register) (v : List ℕ) → length f.held ≡ 24 → length v ≡ size_of r
    → Holds f r v (record { held = set f.held (address_of r) (padded v) })
holds f r v l h =
    let b = address_bound r in
    let p : address_of r < length f.held = omega arith in
    let e = get_or-set_same f.held (address_of r) (padded v) (record { bytes = [] }) p in
    record {
      there = λ _. ap (λ (x : Value). take (size_of r) x.bytes) e ∙ front (size_of r) v (drop (length v) (replicate 5 0)) h;
      elsewhere = λ q n.
          ap (λ (x : Value). take (size_of q) x.bytes)
          (get_or-set_other f.held (address_of r) (address_of q) (padded v) (record { bytes = [] }) (λ s. n (one_address q r s)));
    }

positive : (r : Register) → 0 < size_of r
positive r = search rules

first : (n : ℕ) (xs : List ℕ) → 0 < n → get_or (take n xs) 0 0 ≡ get_or xs 0 0
first zero xs h = absurd (omega (arith, h))
first (suc n) [] h = refl
first (suc n) (x ∷ xs) h = refl

-- the lowest byte is the first of the value
pub lowest : (f : Registers) (r : Register) → get_or (value_of f r) 0 0 ≡ byte_of f r
lowest f r = first (size_of r) (places f r) (positive r)
