-- Each register and its address.
use Rattle.std.specs.Prelude.{◌≡◌, ℕ, ◌≤◌, List, [], ◌∷◌, Option, Result, MatchResult}
use Rattle.std.specs.List.{slice_get}
use Rattle.std.specs.Option.{ok_or}
use Rattle.registers.specs.declared.register.Register.{Register}
use Rattle.registers.specs.declared.register.NoSuchRegister.{NoSuchRegister}
use Rattle.registers.specs.declared.register.Register.TheVariants.{Config, EnAa, EnRxaddr, SetupAw, SetupRetr, RfCh, RfSetup, Status, ObserveTx, Reserved, RxAddrP0, RxAddrP1, RxAddrP2, RxAddrP3, RxAddrP4, RxAddrP5, TxAddr, RxPwP0, RxPwP1, RxPwP2, RxPwP3, RxPwP4, RxPwP5, FifoStatus}

abbrev pub address_of : Register → ℕ
address_of Config = 0x00
address_of EnAa = 0x01
address_of EnRxaddr = 0x02
address_of SetupAw = 0x03
address_of SetupRetr = 0x04
address_of RfCh = 0x05
address_of RfSetup = 0x06
address_of Status = 0x07
address_of ObserveTx = 0x08
address_of Reserved = 0x09
address_of RxAddrP0 = 0x0A
address_of RxAddrP1 = 0x0B
address_of RxAddrP2 = 0x0C
address_of RxAddrP3 = 0x0D
address_of RxAddrP4 = 0x0E
address_of RxAddrP5 = 0x0F
address_of TxAddr = 0x10
address_of RxPwP0 = 0x11
address_of RxPwP1 = 0x12
address_of RxPwP2 = 0x13
address_of RxPwP3 = 0x14
address_of RxPwP4 = 0x15
address_of RxPwP5 = 0x16
address_of FifoStatus = 0x17

-- the registers in the order of their addresses
abbrev pub registers : List Register
registers = Config ∷ EnAa ∷ EnRxaddr ∷ SetupAw ∷ SetupRetr ∷ RfCh ∷ RfSetup ∷ Status ∷ ObserveTx ∷ Reserved ∷ RxAddrP0 ∷ RxAddrP1 ∷ RxAddrP2 ∷ RxAddrP3 ∷ RxAddrP4 ∷ RxAddrP5 ∷ TxAddr ∷ RxPwP0 ∷ RxPwP1 ∷ RxPwP2 ∷ RxPwP3 ∷ RxPwP4 ∷ RxPwP5 ∷ FifoStatus ∷ []

abbrev pub register_at : ℕ → Option Register
register_at n = slice_get registers n

-- the answer is the register at the address; there is none from 24 up
pub record StandsAt (address : ℕ) (answer : Result Register NoSuchRegister) : Type 0 where
  pub value : answer ≡ ok_or (register_at address) (record {})
  pub back : MatchResult answer (λ q. address_of q ≡ address) (λ _. 24 ≤ address)
