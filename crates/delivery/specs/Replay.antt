-- What a replay says of the law.
use Rattle.std.specs.Prelude.{◌≡◌, ℕ, Bool, List, ◌++◌, map, Some, Option}
use Rattle.cell.specs.declared.parts.Inside.{Inside}
use Rattle.cell.specs.Making.{NewlyMade, OfBytesInside}
use Rattle.law.specs.Lists.{All}
use Rattle.law.specs.Runs.{Call, Outcome, led, outcomes}
use Rattle.law.specs.Law.{Lawful, history, OfBytes}

-- Calls were made on a cell `before`; they led it to `after` and answered this, and its check has w bits and means f.
--
-- Take any newly made cell, and any calls in the past that led it to `before`. Then past and present calls are one run of that new cell:
-- together they lead it to `after`; what they answer is what the past ones answered, and then this; and the law holds of all that an
-- observer writes down of them.
--
-- Without a past (`before` is the new cell itself) this is the law of these calls. Where calls come in several lists, one after the other,
-- each list's past is all lists before it.
abbrev pub CarriesTheLaw : ℕ → (List Bool → ℕ) → Inside → List Call → Inside → List (Option Outcome) → Type 0
CarriesTheLaw w f before calls after answered =
    (new : Inside) → NewlyMade w new → OfBytesInside new → (past : List Call) → All OfBytes past → before ≡ led w f new past
    → (after ≡ led w f new (past ++ calls))
    × (map Some (outcomes w f new (past ++ calls)) ≡ map Some (outcomes w f new past) ++ answered)
    × Lawful f new (history w f new (past ++ calls))
