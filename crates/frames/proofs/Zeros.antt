-- A payload with zeros behind its bytes.
use Rattle.std.proofs.Common.{◌≡◌, ℕ, ◌≤◌, List, ◌++◌, length, drop, replicate, sym, ap, ◌∙◌, subst}
use native.Mathlib.Nat.{min-eq_left}
use native.Mathlib.Bridge.{le_prop}
use Rattle.std.proofs.lemmas.List.{take_at}
use Rattle.frames.specs.declared.fields.Payload.{Payload}
use Rattle.frames.specs.Calls.{payload_bytes, payload_of}

-- two payloads are one where bytes and length are
same : (held kept : List ℕ) (n m : ℕ) (f : n ≤ 32) (g : m ≤ 32) → held ≡ kept → n ≡ m
    → ◌≡◌ {A = Payload} (record { held = held; len = n; fits = f }) (record { held = kept; len = m; fits = g })
same held kept n m f g e q =
    let at : List ℕ → (k : ℕ) → k ≤ 32 → Payload = λ h k z. record { held = h; len = k; fits = z } in
    ap (λ (h : List ℕ). at h n f) e
    ∙ subst (λ (k : ℕ). (z : k ≤ 32) → at kept n f ≡ at kept k z) q (λ z. ap (at kept n) (le_prop f z)) g

-- bytes written over the front of zeros
pub front_of_zeros : (ys : List ℕ) (n k : ℕ) (f : n ≤ 32) → length ys ≡ n → k ≡ n
    → ◌≡◌ {A = Payload} (record { held = ys ++ drop k (replicate 32 0); len = n; fits = f }) (payload_of ys)
front_of_zeros ys n k f e q =
    let l : length ys ≤ 32 = subst (λ (m : ℕ). m ≤ 32) (sym e) f in
    same _ _ n _ f (payload_of ys).fits (ap (λ (m : ℕ). ys ++ drop m (replicate 32 0)) (q ∙ sym e)) (sym (min-eq_left l ∙ e))

-- it is that of its own bytes
pub zeros_behind : (ys : List ℕ) (n k : ℕ) (f : n ≤ 32) → length ys ≡ n → k ≡ n → (p : Payload)
    → p ≡ record { held = ys ++ drop k (replicate 32 0); len = n; fits = f } → p ≡ payload_of (payload_bytes p)
zeros_behind ys n k f e q p is =
    is ∙ front_of_zeros ys n k f e q
    ∙ ap payload_of (sym (ap payload_bytes is ∙ take_at ys (drop k (replicate 32 0)) n e))
