-- Calls on a cell, what each answers, and where a list of them leads: all by the definitions that the contracts of the calls cite.
use Rattle.std.specs.Prelude.{ℕ, Bool, List, [], ◌∷◌, take, replicate, Ok, Err, Result}
use Rattle.cell.specs.declared.parts.Inside.{Inside}
use Rattle.cell.specs.declared.refusal.Refusal.{Refusal}
use Rattle.cell.specs.Calls.{command_result, commanded, command_reply, ce_result, leveled, tick_result, ticked, carry_result, carried}

pub data Call : Type 0 where
  -- a host command to a unit, with room for so many bytes of reply
  command : (unit : ℕ) (host : List ℕ) (room : ℕ) → Call
  -- the level of a unit's CE pin
  ce : (unit : ℕ) (level : Bool) → Call
  -- a tick of a unit
  tick : (unit : ℕ) → Call
  -- the fate of the frame on the air, by its number, with the start bit and the pattern
  carry : (fate start pattern : ℕ) → Call

pub data Outcome : Type 0 where
  -- a command that was accepted, with its reply
  replied : List ℕ → Outcome
  -- another call that was accepted
  done : Outcome
  refused : Refusal → Outcome

abbrev pub reply_of : Result ℕ Refusal → List ℕ → Outcome
reply_of (Ok n) buffer = replied (take n buffer)
reply_of (Err e) buffer = refused e

abbrev pub answer_of : Result Unit Refusal → Outcome
answer_of (Ok u) = done
answer_of (Err e) = refused e

-- for a check of w bits that means f
module _ (w : ℕ) (f : List Bool → ℕ) where
  abbrev pub outcome : Inside → Call → Outcome
  outcome c (command u host room) = reply_of (command_result c u host room) (command_reply c u host (replicate room 0))
  outcome c (ce u level) = answer_of (ce_result c u)
  outcome c (tick u) = answer_of (tick_result w f c u)
  outcome c (carry fate start pattern) = answer_of (carry_result w f c fate start pattern)

  abbrev pub after : Inside → Call → Inside
  after c (command u host room) = commanded c u host room
  after c (ce u level) = leveled c u level
  after c (tick u) = ticked w f c u
  after c (carry fate start pattern) = carried w f c fate start pattern

  -- where a list of calls leads
  unfoldable pub led : Inside → List Call → Inside
  led c [] = c
  led c (x ∷ xs) = led (after c x) xs

  -- what they answer, in their order
  unfoldable pub outcomes : Inside → List Call → List Outcome
  outcomes c [] = []
  outcomes c (x ∷ xs) = outcome c x ∷ outcomes (after c x) xs
