-- How long a sender tries.
use Rattle.std.specs.Prelude.{◌≡◌, ℕ, zero, suc, ◌+◌, ◌*◌, ◌≤◌, Bool, true}
use Rattle.modes.specs.declared.parts.Mode.{Mode}
use Rattle.modes.specs.declared.parts.Mode.TheVariants.{Shutdown, Starting, Standby, IdleTx, Tuning, Rx, Waiting}
use Rattle.modes.specs.declared.parts.Role.TheVariants.{Sender}
use Rattle.modes.specs.declared.parts.Retry.{Retry}
use Rattle.modes.specs.declared.parts.Core.{Core}
use Rattle.modes.specs.Modes.{ticked, tuning_ticks, wait_ticks}

-- some ticks of a sender, with a payload waiting or not
unfoldable pub ticks : ℕ → Retry → Bool → Core → Core
ticks zero retry waiting c = c
ticks (suc n) retry waiting c = ticks n retry waiting (ticked Sender retry waiting c)

-- a sender in a transaction: tuning to send for the first time, or waiting with at most ARC retransmits made
abbrev pub UnderWay : Retry → ℕ → Mode → Type 0
UnderWay retry again Shutdown = ⊥
UnderWay retry again (Starting left) = ⊥
UnderWay retry again Standby = ⊥
UnderWay retry again IdleTx = ⊥
UnderWay retry again (Tuning left) = (1 ≤ left) × (left ≤ tuning_ticks) × (again ≡ 0)
UnderWay retry again Rx = ⊥
UnderWay retry again (Waiting left) = (1 ≤ left) × (left ≤ wait_ticks retry) × (again ≤ retry.count)

-- with nothing heard, MAX_RT stands after at most 13 + (ARC + 1) × 25 × (ARD + 1) ticks of a transaction
abbrev pub GivesUpInTime : Type 0
GivesUpInTime =
    (retry : Retry) (waiting : Bool) (c : Core) → UnderWay retry c.counts.again c.mode
    → (n : ℕ) × (n ≤ tuning_ticks + (retry.count + 1) * wait_ticks retry) × ((ticks n retry waiting c).flags.max_rt ≡ true)
