use Rattle.std.proofs.Common.{◌≡◌, false, drop}
use Rattle.registers.specs.declared.register.Register.{Register}
use Rattle.profile.specs.Reading.{bytes_of}
use Rattle.bench.specs.Loading.{field, refuses, fields_written}
use Rattle.bench.proofs.Loads.{held_after}
use Rattle.bench.proofs.unit.Bench.write_fields.Given as goal

-- what is left to write makes of the file what all of it makes of the file at the start
abbrev pub invariant-loop-register : goal.invariant-loop-register
invariant-loop-register l =
    (fields_written l.register-items (bytes_of l.profile) l.initial.self.registers ≡ fields_written (drop l.register-index l.register-items) (bytes_of l.profile) l.self.registers)
    × (((q : Register) → refuses q (field (bytes_of l.profile) q) ≡ false) → (q : Register)
    → held_after (bytes_of l.profile) (drop l.register-index l.register-items) l.self.registers q ≡ held_after (bytes_of l.profile) l.register-items l.initial.self.registers q)
