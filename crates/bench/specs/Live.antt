-- What the registers of a unit read.
use Rattle.std.specs.Prelude.{ℕ, false, cond, List, [], ◌∷◌, None, ◌==◌}
use Rattle.registers.specs.declared.register.Register.{Register}
use Rattle.registers.specs.declared.held.Registers.{Registers}
use Rattle.registers.specs.Address.{address_of}
use Rattle.registers.specs.File.{value_of}
use Rattle.commands.specs.Status.{no_flags, status_of, observed, fifo_of}
use Rattle.bench.specs.declared.live.Live.{Live}

-- with no flag, nothing lost and empty queues
abbrev pub at_rest : Live
at_rest = record { status = status_of no_flags None false; observe_tx = observed 0 0; fifo_status = fifo_of 0 0 }

-- what a register reads: STATUS, OBSERVE_TX and FIFO_STATUS are live, 09 reads 00, and each other what it holds
abbrev pub shown : Live → Registers → Register → List ℕ
shown l f r =
    cond (address_of r == 0x07) (l.status ∷ [])
    (cond (address_of r == 0x08) (l.observe_tx ∷ [])
    (cond (address_of r == 0x09) (0x00 ∷ [])
    (cond (address_of r == 0x17) (l.fifo_status ∷ []) (value_of f r))))
