-- An entry made of bytes is the one that the definition makes of them.
use Rattle.std.proofs.Common.{◌≡◌, ℕ, suc, ◌≤◌, Bool, true, false, cond, ◌&&◌, eqb, leb, List, [], ◌∷◌, length, Some, None, sym, refl, ap, ◌∙◌, subst, ap₂, arith}
use native.Mathlib.Bridge.{le_prop}
use Rattle.std.proofs.lemmas.Bool.{le-leb}
use Rattle.frames.specs.declared.fields.Payload.{Payload}
use Rattle.frames.specs.Calls.{payload_of}
use Rattle.unit.specs.declared.entry.Data.{Data}
use Rattle.unit.specs.Entries.{one_le, data_of, entry_of}

same : (p q : Payload) (s : 1 ≤ p.len) (t : 1 ≤ q.len) → p ≡ q → ◌≡◌ {A = Data} (record { payload = p; some = s }) (record { payload = q; some = t })
same p q s t e =
    let at : (k : Payload) → 1 ≤ k.len → Data = λ k z. record { payload = k; some = z } in
    subst (λ (k : Payload). (z : 1 ≤ k.len) → at p s ≡ at k z) e (λ z. ap (at p) (le_prop s z)) t

found : (b : Bool) (p q : Payload) → Some p ≡ cond b (Some q) None → (b ≡ true) × (p ≡ q)
found true p q e = (refl, cc)
found false p q e = absurd (let z : ◌≡◌ {A = ℕ} 0 1 = cc in omega arith)

pub made : (bs : List ℕ) (p : Payload) (s : 1 ≤ p.len) → eqb (length bs) 0 ≡ false
    → Some p ≡ cond (leb (length bs) 32) (Some (payload_of bs)) None → Some (record { payload = p; some = s }) ≡ entry_of bs
made [] p s n e = absurd (let z : ◌≡◌ {A = ℕ} 0 1 = cc in omega arith)
made (b ∷ bs) p s n e =
    let h = found (leb (suc (length bs)) 32) p (payload_of (b ∷ bs)) e in
    ap Some (same p (payload_of (b ∷ bs)) s (one_le (length bs)) h.1)
    ∙ sym (ap₂ (λ (x y : Bool). cond (x && y) (Some (data_of (b ∷ bs))) None) (le-leb 1 (suc (length bs)) (omega arith)) h.0)
