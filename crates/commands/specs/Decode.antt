-- The host's commands: the first byte decides, and the rest are data.
use Rattle.std.specs.Prelude.{ℕ, ◌-◌, Bool, cond, ◌&&◌, List, [], ◌∷◌, length, Some, None, Ok, Err, Option, Result, ◌==◌, nat_le, nat_lt}
use Rattle.registers.specs.declared.register.Register.{Register}
use Rattle.registers.specs.Address.{register_at}
use Rattle.registers.specs.Table.{size_of}
use Rattle.commands.specs.declared.command.Command.{Command}
use Rattle.commands.specs.declared.command.Command.TheVariants.{ReadRegister, WriteRegister, WritePayload, ReadPayload, FlushTx, FlushRx, Nop}
use Rattle.commands.specs.declared.refusal.Refusal.{Refusal}
use Rattle.commands.specs.declared.refusal.Refusal.TheVariants.{NoCommand, Unknown}

-- a command as the host wrote it: its kind and its data bytes
pub data Order : Type 0 where
  read_register : Register → List ℕ → Order
  write_register : Register → List ℕ → Order
  write_payload : List ℕ → Order
  read_payload : List ℕ → Order
  flush_tx : List ℕ → Order
  flush_rx : List ℕ → Order
  nop : List ℕ → Order

-- there is a register at the address, or the command is unknown
abbrev pub known : Option Register → (Register → Order) → Result Order Refusal
known None f = Err Unknown
known (Some r) f = Ok (f r)

-- the command that a first byte and its data are
abbrev pub order_of : ℕ → List ℕ → Result Order Refusal
order_of b d =
    cond (nat_lt b 0x20) (known (register_at b) (λ r. read_register r d))
    (cond (nat_lt b 0x40) (known (register_at (b - 0x20)) (λ r. write_register r d))
    (cond (b == 0x61) (Ok (read_payload d))
    (cond (b == 0xA0) (Ok (write_payload d))
    (cond (b == 0xE1) (Ok (flush_tx d))
    (cond (b == 0xE2) (Ok (flush_rx d))
    (cond (b == 0xFF) (Ok (nop d)) (Err Unknown)))))))

-- all of the host's bytes; shut, so that who calls the decoder goes by its answer
unfoldable pub ordered : List ℕ → Result Order Refusal
ordered [] = Err NoCommand
ordered (first ∷ rest) = order_of first rest

-- what a command of the program says
abbrev pub order : Command → Order
order (ReadRegister r d) = read_register r d.now
order (WriteRegister r d) = write_register r d.now
order (WritePayload d) = write_payload d.now
order (ReadPayload d) = read_payload d.now
order (FlushTx d) = flush_tx d.now
order (FlushRx d) = flush_rx d.now
order (Nop d) = nop d.now

abbrev pub told : Result Command Refusal → Result Order Refusal
told (Ok c) = Ok (order c)
told (Err e) = Err e

-- a write takes as many bytes as the register holds, a payload has 1 to 32, and the others take none
abbrev pub fits : Order → Bool
fits (read_register r d) = length d == 0
fits (write_register r d) = length d == size_of r
fits (write_payload d) = nat_le 1 (length d) && nat_le (length d) 32
fits (read_payload d) = length d == 0
fits (flush_tx d) = length d == 0
fits (flush_rx d) = length d == 0
fits (nop d) = length d == 0
