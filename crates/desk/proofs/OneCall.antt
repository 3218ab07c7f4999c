-- A list of one call on a cell.
use Rattle.std.proofs.Common.{◌≡◌, ℕ, Bool, List, [], ◌∷◌, get_or, Some, None, Option, sym, refl, ap, ◌∙◌, arith, rules}
use Rattle.std.specs.Option.{IsSome}
use Rattle.std.specs.Option.{option_map}
use Rattle.cell.specs.declared.parts.Inside.{Inside}
use Rattle.law.specs.Runs.{Call, Outcome, outcome, after, led, outcomes}
use Rattle.delivery.specs.declared.entry.Entry.{Entry}
use Rattle.delivery.specs.declared.entry.Outcome.{Outcome as Written}
use Rattle.delivery.specs.Entries.{outcome_of, written}

module _ (w : ℕ) (f : List Bool → ℕ) where
  pub one_led : (c : Inside) (x : Call) → led w f c (x ∷ []) ≡ after w f c x
  unfolding led
  one_led c x = refl

  pub one_outcome : (c : Inside) (x : Call) → outcomes w f c (x ∷ []) ≡ outcome w f c x ∷ []
  unfolding outcomes
  one_outcome c x = refl

-- what the one entry has
pub first_written : (es : List Entry) (d : Entry) (o : Outcome) → written es ≡ Some o ∷ [] → option_map outcome_of (get_or es 0 d).outcome ≡ Some o
first_written [] d o h = let z : ◌≡◌ {A = ℕ} 0 1 = cc in absurd (omega arith)
first_written (e ∷ es) d o h = cc

pub is_there : (o : Option Written) (x : Outcome) → option_map outcome_of o ≡ Some x → IsSome o
is_there (Some y) x h = search rules
is_there None x h = let z : ◌≡◌ {A = ℕ} 0 1 = cc in absurd (omega arith)

pub is_that : (o : Option Written) (x : Outcome) (y : Written) → option_map outcome_of o ≡ Some x → o ≡ Some y → outcome_of y ≡ x
is_that o x y h is = let e : ◌≡◌ {A = Option Outcome} (Some (outcome_of y)) (Some x) = sym (ap (option_map outcome_of) is) ∙ h in cc
