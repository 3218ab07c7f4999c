-- A unit that does not listen drops whatever reaches it.
use Rattle.std.proofs.Common.{◌≡◌, ℕ, Bool, true, false, cond, List, Some, None, Option, refl}
use Rattle.frames.specs.Packet.{Packet, covered, reading}
use Rattle.bench.specs.Checking.{is_receiver}
use Rattle.modes.specs.Modes.{is_waiting, is_rx}
use Rattle.unit.specs.declared.state.State.{State}
use Rattle.unit.specs.Hearing.{Outcome, dropped, heard_by_receiver, heard_by_sender, listens, heard_packet, heard_bits, address_width}

by_tests : (b rx waiting : Bool) (x y z : Outcome) → cond b rx waiting ≡ false → cond b (cond rx x z) (cond waiting y z) ≡ z
by_tests true false waiting x y z h = refl
by_tests false rx false x y z h = refl
by_tests true true waiting x y z h = cc
by_tests false rx true x y z h = cc

of_a_packet : (f : List Bool → ℕ) (s : State) (o : Option Packet) → listens s ≡ false → heard_packet f s o ≡ dropped s
of_a_packet f s None h = refl
of_a_packet f s (Some p) h =
    by_tests (is_receiver s.registers) (is_rx s.core.mode) (is_waiting s.core.mode) (heard_by_receiver s p (f (covered p))) (heard_by_sender s p) (dropped s) h

pub deaf : (w : ℕ) (f : List Bool → ℕ) (s : State) (xs : List Bool) → listens s ≡ false → heard_bits w f s xs ≡ dropped s
deaf w f s xs h = of_a_packet f s (reading w f (address_width s) xs) h
