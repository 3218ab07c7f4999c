-- The registers that show the state of a unit, and its interrupt pin.
use Rattle.std.specs.Prelude.{◌≡◌, ℕ, ◌+◌, ◌*◌, min, Bool, true, false, cond, not, ◌&&◌, ◌||◌, Some, None, Option, ◌==◌}
use Rattle.registers.specs.declared.pipe.Pipe.{Pipe}
use Rattle.registers.specs.declared.register.Register.TheVariants.{Status, ObserveTx, FifoStatus}
use Rattle.registers.specs.Bits.{bit}
use Rattle.registers.specs.Pipes.{index_of}
use Rattle.registers.specs.Table.{reset_of}
use Rattle.commands.specs.declared.flags.Flags.{Flags}

-- the three flags, each with its bit: in STATUS the flag itself, in CONFIG its mask
pub data Flag : Type 0 where
  rx_dr : Flag
  tx_ds : Flag
  max_rt : Flag

abbrev pub place : Flag → ℕ
place rx_dr = 6
place tx_ds = 5
place max_rt = 4

abbrev pub raised : Flags → Flag → Bool
raised f rx_dr = f.rx_dr
raised f tx_ds = f.tx_ds
raised f max_rt = f.max_rt

abbrev pub flags_by : (Flag → Bool) → Flags
flags_by p = record { rx_dr = p rx_dr; tx_ds = p tx_ds; max_rt = p max_rt }

abbrev pub no_flags : Flags
no_flags = flags_by (λ _. false)

-- a 1 written to a flag's bit of STATUS clears it
abbrev pub cleared : Flags → ℕ → Flags
cleared f v = flags_by (λ x. raised f x && not (bit (place x) v))

-- the weight of a bit where it stands
abbrev pub weigh : Bool → ℕ → ℕ
weigh b n = cond b n 0

abbrev pub shown_pipe : Option Pipe → ℕ
shown_pipe None = 7
shown_pipe (Some p) = index_of p

-- 6 RX_DR, 5 TX_DS, 4 MAX_RT, 3 to 1 the pipe of the oldest received payload, 0 TX queue full
abbrev pub status_of : Flags → Option Pipe → Bool → ℕ
status_of f p full = weigh f.rx_dr 64 + weigh f.tx_ds 32 + weigh f.max_rt 16 + 2 * shown_pipe p + weigh full 1

-- PLOS_CNT in bits 7 to 4 and ARC_CNT in bits 3 to 0; each stays at 15
abbrev pub observed : ℕ → ℕ → ℕ
observed lost retries = 16 * min lost 15 + min retries 15

-- 5 TX full, 4 TX empty, 1 RX full, 0 RX empty
abbrev pub fifo_of : ℕ → ℕ → ℕ
fifo_of tx rx = weigh (tx == 3) 32 + weigh (tx == 0) 16 + weigh (rx == 3) 2 + weigh (rx == 0) 1

abbrev pub irq_of : Flags → ℕ → Bool
irq_of f config =
    (f.rx_dr && not (bit 6 config)) || ((f.tx_ds && not (bit 5 config)) || (f.max_rt && not (bit 4 config)))

-- the pin is low exactly when some flag stands whose mask bit is clear
pub record LowWhen (f : Flags) (config : ℕ) (low : Bool) : Type 0 where
  pub only : low ≡ true → (x : Flag) × (raised f x ≡ true) × (bit (place x) config ≡ false)
  pub whenever : (x : Flag) → raised f x ≡ true → bit (place x) config ≡ false → low ≡ true

-- a unit at rest shows the reset values of these registers
abbrev pub Rests : Flags → Type 0
Rests f =
    (status_of f None false ≡ reset_of Status) × (observed 0 0 ≡ reset_of ObserveTx) × (fifo_of 0 0 ≡ reset_of FifoStatus)
