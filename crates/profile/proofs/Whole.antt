-- What is known of a sound profile.
use Rattle.std.proofs.Common.{◌≡◌, ℕ, ◌+◌, ◌^◌, ◌<◌, ◌≤◌, Bool, true, false, cond, ◌&&◌, eqb, leb, List, length, take, drop, Some, None, Ok, Err, sym, ap, ◌∙◌, arith}
use Rattle.std.proofs.lemmas.Bool.{eqb-true, and_parts}
use Rattle.commands.specs.declared.refusal.Refusal.TheVariants.{Profile}
use Rattle.profile.specs.Profile.{map_of, bit, names, names_only, place, size_at, sound, if_sound, field_of}
use Rattle.profile.proofs.Ones.{within, none_above}

module _ (p : List ℕ) (s : sound p ≡ true) where
  parts : (names_only (map_of p) 32 ≡ true) × (eqb (length p) (place (map_of p) 24) ≡ true)
  parts =
      and_parts (names_only (map_of p) 32) (eqb (length p) (place (map_of p) 24))
      (and_parts (leb 4 (length p)) (names_only (map_of p) 32 && eqb (length p) (place (map_of p) 24)) s).1

  only : names_only (map_of p) 32 ≡ true
  only = parts.0

  long : length p ≡ place (map_of p) 24
  long = eqb-true (length p) (place (map_of p) 24) parts.1

  -- a named field lies within the profile
  pub inside : (r : ℕ) → r < 24 → true ≡ names (map_of p) r → place (map_of p) r + size_at r ≤ length p
  inside r h t = omega (arith, within (map_of p) r (eqb-true (bit (map_of p) r) 1 (sym t)) h, long)

  -- past the last register nothing is named
  pub absent : (r : ℕ) → map_of p < 2 ^ 32 → 24 ≤ r → Ok None ≡ if_sound p (field_of p r)
  absent r m l =
      let none : names (map_of p) r ≡ false = none_above (map_of p) r m only l in
      sym (ap (λ (b : Bool). cond b (Ok (field_of p r)) (Err Profile)) s
      ∙ ap (λ (b : Bool). Ok (cond b (Some (take (size_at r) (drop (place (map_of p) r) p))) None)) none)
