-- What lines do to a boxed unit, and what it answers.
use Rattle.std.specs.Prelude.{ℕ, zero, suc, Bool, cond, List, ◌∷◌, length, take, replicate, is_some, Some, None, Option, ◌==◌}
use Rattle.checks.specs.Bits.{bits}
use Rattle.frames.specs.Packet.{buffer_after}
use Rattle.commands.specs.Decode.{ordered}
use Rattle.unit.specs.declared.state.State.{State}
use Rattle.unit.specs.Commanding.{status, refusal, answer_of}
use Rattle.unit.specs.Ticking.{bits_of, sent, tick_state, tick_refusal}
use Rattle.unit.specs.Hearing.{heard_bits, hear_refusal}
use Rattle.desk.specs.declared.answer.Frame.{Frame}
use Rattle.desk.specs.Answers.{Said, replied, ticked, heard, or_refused}

-- STATUS as before the command, and the answer; or a refusal
abbrev pub boxed_reply : State → ℕ → List ℕ → Said
boxed_reply s room bytes = or_refused (refusal s room (ordered bytes)) (replied (status s ∷ answer_of s (ordered bytes)))

-- the frame of some bits, in a buffer as long as the longest frame
abbrev pub frame_of : List Bool → Frame
frame_of xs = record { bits = length xs; buffer = buffer_after xs (replicate 42 0) }

-- no bits are no frame
abbrev pub frame_from : List Bool → Option Frame
frame_from xs = cond (length xs == 0) None (Some (frame_of xs))

-- ticks in a row: how many, what the last of them sent, and the unit after it
pub record Ticks : Type 0 where
  pub taken : ℕ
  pub sent : Option Frame
  pub state : State

-- one tick, then others
abbrev pub one_more : Ticks → Ticks
one_more t = record { taken = suc t.taken; sent = t.sent; state = t.state }

-- for a check of w bits that means f
module _ (w : ℕ) (f : List Bool → ℕ) where
  -- the frame that a tick sends
  abbrev pub frame_sent : State → Option Frame
  frame_sent s = frame_from (bits_of w f (sent s))

  -- up to n ticks of a unit without a fault; one that sends a frame is the last
  unfoldable pub ticks : ℕ → State → Ticks
  ticks zero s = record { taken = 0; sent = None; state = s }
  ticks (suc n) s =
      cond (is_some (frame_sent s)) (record { taken = 1; sent = frame_sent s; state = tick_state s }) (one_more (ticks n (tick_state s)))

  -- a unit that was boxed with a fault refuses the first tick
  abbrev pub boxed_ticks : ℕ → State → Said
  boxed_ticks n s = or_refused (tick_refusal s 42) (ticked (ticks n s).taken (ticks n s).sent)

  -- what is sent back to the first n bits of some bytes
  abbrev pub boxed_hearing : State → ℕ → List ℕ → Said
  boxed_hearing s n bytes =
      or_refused (hear_refusal s bytes n 42) (heard (frame_from (bits_of w f (heard_bits w f s (take n (bits bytes))).answer)))
