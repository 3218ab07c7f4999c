-- What the registers' bits and bytes say.
use Rattle.std.specs.Prelude.{ℕ, ◌+◌, cond, List, ◌∷◌, drop}
use Rattle.registers.specs.declared.held.Registers.{Registers}
use Rattle.registers.specs.declared.pipe.Pipe.{Pipe}
use Rattle.registers.specs.declared.pipe.Pipe.TheVariants.{P0, P1, P2, P3, P4, P5}
use Rattle.registers.specs.declared.pipe.Rate.{Rate}
use Rattle.registers.specs.declared.pipe.Rate.TheVariants.{Kbps250, Mbps1, Mbps2}
use Rattle.registers.specs.declared.register.Register.{Register}
use Rattle.registers.specs.declared.register.Register.TheVariants.{RxAddrP0, RxAddrP1, RxAddrP2, RxAddrP3, RxAddrP4, RxAddrP5}
use Rattle.registers.specs.Bits.{bit}
use Rattle.registers.specs.File.{value_of, byte_of}
use Rattle.registers.specs.Table.{within}

-- SETUP_AW holds the address width less 2; a value that it does not take reads as the widest
abbrev pub width_of : ℕ → ℕ
width_of v = cond (within 1 3 v) (v + 2) 5

-- bit 5 is for 250 kbps, bit 3 for 2 Mbps, neither for 1 Mbps
abbrev pub rate_of : ℕ → Rate
rate_of v = cond (bit 5 v) Kbps250 (cond (bit 3 v) Mbps2 Mbps1)

-- a pipe's own low byte under the upper bytes of pipe 1
abbrev pub under : Registers → Register → List ℕ
under f own = byte_of f own ∷ drop 1 (value_of f RxAddrP1)

abbrev pub pipe_address : Registers → Pipe → List ℕ
pipe_address f P0 = value_of f RxAddrP0
pipe_address f P1 = value_of f RxAddrP1
pipe_address f P2 = under f RxAddrP2
pipe_address f P3 = under f RxAddrP3
pipe_address f P4 = under f RxAddrP4
pipe_address f P5 = under f RxAddrP5
