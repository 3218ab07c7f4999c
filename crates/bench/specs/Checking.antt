-- The check call: what is wrong with a unit's registers before it is boxed.
use Rattle.std.specs.Prelude.{◌≡◌, ℕ, ◌<◌, Bool, true, false, cond, not, ◌&&◌, ◌||◌, List, [], ◌∷◌, take, Some, None, Ok, Err, Option, Result, ◌==◌}
use Rattle.std.specs.List.{list_any}
use Rattle.std.specs.Str.{bytes_eq}
use Rattle.registers.specs.declared.pipe.Pipe.{Pipe}
use Rattle.registers.specs.declared.pipe.Pipe.TheVariants.{P0, P1, P2, P3, P4, P5}
use Rattle.registers.specs.declared.register.Register.{Register}
use Rattle.registers.specs.declared.register.Register.TheVariants.{Config, EnAa, EnRxaddr, SetupAw, SetupRetr, RfCh, RfSetup, Status, ObserveTx, Reserved, RxAddrP0, RxAddrP1, RxAddrP2, RxAddrP3, RxAddrP4, RxAddrP5, TxAddr, RxPwP0, RxPwP1, RxPwP2, RxPwP3, RxPwP4, RxPwP5, FifoStatus}
use Rattle.registers.specs.declared.held.Registers.{Registers}
use Rattle.registers.specs.Address.{address_of, registers}
use Rattle.registers.specs.Bits.{bit}
use Rattle.registers.specs.File.{value_of, byte_of}
use Rattle.registers.specs.Pipes.{index_of, pipes, width_register}
use Rattle.registers.specs.Readings.{width_of, pipe_address}
use Rattle.commands.specs.declared.refusal.Refusal.{Refusal}
use Rattle.commands.specs.declared.refusal.Refusal.TheVariants.{Fault}

-- ---- what the registers say

abbrev pub config_bit : Registers → ℕ → Bool
config_bit f k = bit k (byte_of f Config)

abbrev pub is_receiver : Registers → Bool
is_receiver f = config_bit f 0

abbrev pub enabled : Registers → Pipe → Bool
enabled f p = bit (index_of p) (byte_of f EnRxaddr)

abbrev pub acknowledged : Registers → Pipe → Bool
acknowledged f p = bit (index_of p) (byte_of f EnAa)

-- the address in use: as many low bytes as SETUP_AW gives
abbrev pub in_use : Registers → List ℕ → List ℕ
in_use f address = take (width_of (byte_of f SetupAw)) address

abbrev pub some_pipe : List Pipe → (Pipe → Bool) → Bool
some_pipe ps holds = list_any holds ps

abbrev pub lower : Pipe → List Pipe
lower P0 = []
lower P1 = P0 ∷ []
lower P2 = P0 ∷ (P1 ∷ [])
lower P3 = P0 ∷ (P1 ∷ (P2 ∷ []))
lower P4 = P0 ∷ (P1 ∷ (P2 ∷ (P3 ∷ [])))
lower P5 = P0 ∷ (P1 ∷ (P2 ∷ (P3 ∷ (P4 ∷ []))))

-- ---- the faults

-- EN_CRC clear, PWR_UP set, or CRCO unlike the width of the check
abbrev pub config_fault : ℕ → Registers → Bool
config_fault width f = not (config_bit f 3) || (config_bit f 1 || cond (width == 16) (not (config_bit f 2)) (config_bit f 2))

-- an enabled pipe without its EN_AA bit; of a sender pipe 0 alone counts
abbrev pub unanswered : Registers → Pipe → Bool
unanswered f p = enabled f p && not (acknowledged f p)

abbrev pub en_aa_fault : Registers → Bool
en_aa_fault f = cond (is_receiver f) (some_pipe pipes (unanswered f)) (unanswered f P0)

-- no pipe is enabled; of a sender pipe 0 is not
abbrev pub en_rxaddr_fault : Registers → Bool
en_rxaddr_fault f = not (cond (is_receiver f) (some_pipe pipes (enabled f)) (enabled f P0))

-- an enabled pipe of a receiver with the address in use of a lower enabled pipe
abbrev pub same_address : Registers → Pipe → Pipe → Bool
same_address f p q = enabled f q && bytes_eq (in_use f (pipe_address f p)) (in_use f (pipe_address f q))

abbrev pub address_fault : Registers → Pipe → Bool
address_fault f p = is_receiver f && (enabled f p && some_pipe (lower p) (same_address f p))

-- a sender's TX_ADDR unlike its RX_ADDR_P0 over the width in use
abbrev pub tx_addr_fault : Registers → Bool
tx_addr_fault f = not (is_receiver f) && not (bytes_eq (in_use f (value_of f TxAddr)) (in_use f (value_of f RxAddrP0)))

-- an enabled pipe of a receiver that takes payloads of no length
abbrev pub width_fault : Registers → Pipe → Bool
width_fault f p = is_receiver f && (enabled f p && byte_of f (width_register p) == 0)

-- whether a register has a fault
abbrev pub faulty : ℕ → Registers → Register → Bool
faulty width f Config = config_fault width f
faulty width f EnAa = en_aa_fault f
faulty width f EnRxaddr = en_rxaddr_fault f
faulty width f SetupAw = false
faulty width f SetupRetr = false
faulty width f RfCh = false
faulty width f RfSetup = false
faulty width f Status = false
faulty width f ObserveTx = false
faulty width f Reserved = false
faulty width f RxAddrP0 = false
faulty width f RxAddrP1 = address_fault f P1
faulty width f RxAddrP2 = address_fault f P2
faulty width f RxAddrP3 = address_fault f P3
faulty width f RxAddrP4 = address_fault f P4
faulty width f RxAddrP5 = address_fault f P5
faulty width f TxAddr = tx_addr_fault f
faulty width f RxPwP0 = width_fault f P0
faulty width f RxPwP1 = width_fault f P1
faulty width f RxPwP2 = width_fault f P2
faulty width f RxPwP3 = width_fault f P3
faulty width f RxPwP4 = width_fault f P4
faulty width f RxPwP5 = width_fault f P5
faulty width f FifoStatus = false

-- ---- the call

-- the first of some registers that has a fault
unfoldable pub first_faulty : (Register → Bool) → List Register → Option Register
first_faulty bad [] = None
first_faulty bad (r ∷ rs) = cond (bad r) (Some r) (first_faulty bad rs)

-- the lowest register with a fault
abbrev pub fault_of : ℕ → Registers → Option Register
fault_of width f = first_faulty (faulty width f) registers

abbrev pub check_answer : Option Register → Result Unit Refusal
check_answer None = Ok tt
check_answer (Some r) = Err (Fault r)

-- the same in the subject's words: the register named has a fault, and none below it has; if none is named, none has
abbrev pub LowestFault : ℕ → Registers → Option Register → Type 0
LowestFault width f None = (q : Register) → faulty width f q ≡ false
LowestFault width f (Some r) =
    (faulty width f r ≡ true) × ((q : Register) → address_of q < address_of r → faulty width f q ≡ false)
