-- The words of the proof: what a newly made cell gives, and what hearing is once a frame is read.
use Rattle.std.proofs.Common.{◌≡◌, ℕ, suc, ◌≤◌, Bool, true, false, cond, eqb, List, [], ◌∷◌, length, Some, None, Option}
use Rattle.std.specs.Option.{option_map}
use Rattle.frames.specs.Packet.{Packet, covered}
use Rattle.registers.specs.declared.pipe.Pipe.{Pipe}
use Rattle.registers.specs.declared.pipe.Pipe.TheVariants.{P0}
use Rattle.registers.specs.Readings.{pipe_address}
use Rattle.bench.specs.Checking.{is_receiver, in_use}
use Rattle.unit.specs.declared.state.State.{State}
use Rattle.unit.specs.Units.{tx_address}
use Rattle.unit.specs.Ticking.{bits_of}
use Rattle.unit.specs.Hearing.{hears, address_width}
use Rattle.unit.specs.Boxing.{boxed}
use Rattle.cell.specs.declared.parts.Inside.{Inside}
use Rattle.cell.specs.Air.{air_of}
use Rattle.cell.specs.Making.{with_config, pipe_for, same_pipe}
use Rattle.cell.specs.Calls.{unit_at, with_places, with_air}

-- what the law needs of a newly made cell
pub record Fits (w : ℕ) (c : Inside) : Type 0 where
  pub receiver : State
  pub there : unit_at c 0 ≡ Some receiver
  pub receives : is_receiver receiver.registers ≡ true
  pub quiet : c.air ≡ None
  pub as_boxed : (u : ℕ) (s : State) → unit_at c u ≡ Some s → s ≡ with_config s.core.config (boxed w s.registers)
  pub sound : (u : ℕ) (s : State) → unit_at c u ≡ Some s → s.fault ≡ None
  pub width : (u : ℕ) (s : State) → unit_at c u ≡ Some s → address_width s ≡ address_width receiver
  pub sends : (k : ℕ) (s : State) → 1 ≤ k → unit_at c k ≡ Some s → is_receiver s.registers ≡ false
  pub pipe : (k : ℕ) (s : State) → 1 ≤ k → unit_at c k ≡ Some s → (q : Pipe) × (pipe_for receiver.registers s.registers ≡ Some q)
  -- no two senders on one pipe
  pub apart : (j k : ℕ) (s t : State) → 1 ≤ j → 1 ≤ k → unit_at c j ≡ Some s → unit_at c k ≡ Some t → (j ≡ k → ⊥)
      → same_pipe (pipe_for receiver.registers s.registers) (pipe_for receiver.registers t.registers) ≡ false
  -- a sender listens on the address that it sends to
  pub own : (k : ℕ) (s : State) → 1 ≤ k → unit_at c k ≡ Some s → in_use s.registers (pipe_address s.registers P0) ≡ tx_address s.registers

-- a unit of the cell as it was made, and the same unit later: its registers stay
abbrev pub Like : Option State → Option State → Type 0
Like None None = Unit {0}
Like None (Some s) = ⊥
Like (Some a) None = ⊥
Like (Some a) (Some s) = (s.registers ≡ a.registers) × (s.fault ≡ None) × (length s.memories.at ≡ 6)

abbrev pub AllLike : Inside → Inside → Type 0
AllLike c d = (u : ℕ) → Like (unit_at c u) (unit_at d u)

-- ---- hearing, by the packet that was read

module _ (w : ℕ) (f : List Bool → ℕ) where
  abbrev pub hears_packet : Packet → State → State
  hears_packet p s = (hears s p (f (covered p))).state

  unfoldable pub each_hears : ℕ → ℕ → Packet → List (Option State) → List (Option State)
  each_hears i from p [] = []
  each_hears i from p (u ∷ us) = cond (eqb i from) u (option_map (hears_packet p) u) ∷ each_hears (suc i) from p us

  abbrev pub answer_to : Option State → ℕ → Packet → List Bool
  answer_to None from p = []
  answer_to (Some s) from p = cond (eqb from 0) [] (bits_of w f (hears s p (f (covered p))).answer)

  -- every unit but the sender hears the packet, and the receiver's answer is then on the air
  abbrev pub hearing : Inside → ℕ → Packet → Inside
  hearing c from p =
      with_air (with_places c (each_hears 0 from p c.places.at)) (air_of 0 (answer_to (unit_at c 0) from p))
