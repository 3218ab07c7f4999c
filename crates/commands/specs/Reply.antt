-- A reply: STATUS, and then the answer.
use Rattle.std.specs.Prelude.{ℕ, ◌+◌, List, [], ◌∷◌, ◌++◌, length, drop, Option, Result, nat_lt}
use Rattle.commands.specs.declared.refusal.Refusal.{Refusal}
use Rattle.commands.specs.declared.refusal.Refusal.TheVariants.{ReplyRoom}
use Rattle.commands.specs.Refusals.{first_of, unless, kept_or}

-- refused where the buffer is shorter than the reply
abbrev pub reply_refusal : List ℕ → List ℕ → Option Refusal
reply_refusal buffer answer = first_of ((nat_lt (length buffer) (1 + length answer), ReplyRoom) ∷ [])

abbrev pub reply_answer : List ℕ → List ℕ → Result ℕ Refusal
reply_answer buffer answer = unless (reply_refusal buffer answer) (1 + length answer)

-- the buffer after the reply: later bytes stay
abbrev pub replied : List ℕ → ℕ → List ℕ → List ℕ
replied buffer status answer =
    kept_or (reply_refusal buffer answer) buffer ((status ∷ answer) ++ drop (1 + length answer) buffer)
