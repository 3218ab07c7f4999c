-- The refusals of a unit.
use Rattle.std.specs.Prelude.{ℕ, Bool, cond, List, [], ◌∷◌, Some, None, Ok, Err, Option, Result}
use Rattle.registers.specs.declared.register.Register.{Register}
use Rattle.commands.specs.declared.refusal.Refusal.{Refusal}
use Rattle.commands.specs.declared.refusal.Refusal.TheVariants.{NoCommand, Unknown, NotForUnit, DataLength, NothingReceived, ReplyRoom, ReadOnly, Busy, NotAllowed, QueueFull, Profile, Fault, FrameBytes}

-- the number of each refusal, and the register that it names
abbrev pub numbered : Refusal → ℕ × Option Register
numbered NoCommand = (1, None)
numbered Unknown = (2, None)
numbered NotForUnit = (3, None)
numbered DataLength = (4, None)
numbered NothingReceived = (5, None)
numbered ReplyRoom = (6, None)
numbered ReadOnly = (7, None)
numbered Busy = (8, None)
numbered (NotAllowed r) = (9, Some r)
numbered QueueFull = (10, None)
numbered Profile = (11, None)
numbered (Fault r) = (12, Some r)
numbered FrameBytes = (18, None)

-- of an ordered list of conditions, each with its refusal, the refusal of the first that applies
abbrev pub first_of : List (Bool × Refusal) → Option Refusal
first_of [] = None
first_of ((applies, refusal) ∷ rest) = cond applies (Some refusal) (first_of rest)

-- a refusal, or else the answer
abbrev pub unless : {X : Type 0} → Option Refusal → X → Result X Refusal
unless None x = Ok x
unless (Some refusal) x = Err refusal

-- what is kept after a refusal, and what is made without one
abbrev pub kept_or : {X : Type 0} → Option Refusal → X → X → X
kept_or None before after = after
kept_or (Some refusal) before after = before
