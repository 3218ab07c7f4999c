-- The pipes, their numbers and their registers.
use Rattle.std.specs.Prelude.{◌≡◌, ℕ, ◌≤◌, List, [], ◌∷◌, Option, Result, MatchResult}
use Rattle.std.specs.List.{slice_get}
use Rattle.std.specs.Option.{ok_or}
use Rattle.registers.specs.declared.pipe.Pipe.{Pipe}
use Rattle.registers.specs.declared.pipe.NoSuchPipe.{NoSuchPipe}
use Rattle.registers.specs.declared.pipe.Pipe.TheVariants.{P0, P1, P2, P3, P4, P5}
use Rattle.registers.specs.declared.register.Register.{Register}
use Rattle.registers.specs.declared.register.Register.TheVariants.{RxAddrP0, RxAddrP1, RxAddrP2, RxAddrP3, RxAddrP4, RxAddrP5, RxPwP0, RxPwP1, RxPwP2, RxPwP3, RxPwP4, RxPwP5}

abbrev pub index_of : Pipe → ℕ
index_of P0 = 0
index_of P1 = 1
index_of P2 = 2
index_of P3 = 3
index_of P4 = 4
index_of P5 = 5

-- the pipes in the order of their numbers
abbrev pub pipes : List Pipe
pipes = P0 ∷ (P1 ∷ (P2 ∷ (P3 ∷ (P4 ∷ (P5 ∷ [])))))

abbrev pub pipe_at : ℕ → Option Pipe
pipe_at n = slice_get pipes n

-- the answer is the pipe of the number; there is none from 6 up
pub record HasNumber (number : ℕ) (answer : Result Pipe NoSuchPipe) : Type 0 where
  pub value : answer ≡ ok_or (pipe_at number) (record {})
  pub back : MatchResult answer (λ p. index_of p ≡ number) (λ _. 6 ≤ number)

abbrev pub address_register : Pipe → Register
address_register P0 = RxAddrP0
address_register P1 = RxAddrP1
address_register P2 = RxAddrP2
address_register P3 = RxAddrP3
address_register P4 = RxAddrP4
address_register P5 = RxAddrP5

abbrev pub width_register : Pipe → Register
width_register P0 = RxPwP0
width_register P1 = RxPwP1
width_register P2 = RxPwP2
width_register P3 = RxPwP3
width_register P4 = RxPwP4
width_register P5 = RxPwP5
