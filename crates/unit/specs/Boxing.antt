-- A unit as it leaves the bench.
use Rattle.std.specs.Prelude.{ℕ, false, replicate, None}
use Rattle.queue.specs.declared.queue.Queue.TheVariants.{Empty}
use Rattle.frames.specs.declared.fields.Pid.TheVariants.{Zero}
use Rattle.registers.specs.declared.register.Register.TheVariants.{Config}
use Rattle.registers.specs.declared.held.Registers.{Registers}
use Rattle.registers.specs.File.{byte_of}
use Rattle.commands.specs.Status.{no_flags}
use Rattle.bench.specs.Checking.{fault_of}
use Rattle.unit.specs.declared.memory.Memories.{Memories}
use Rattle.modes.specs.declared.parts.Mode.TheVariants.{Shutdown}
use Rattle.unit.specs.declared.state.State.{State}

abbrev pub no_memories : Memories
no_memories = record { at = replicate 6 None }

-- CE low and Shutdown, no flag, nothing counted, queues and memories empty; it remembers the fault that the check call finds
abbrev pub boxed : ℕ → Registers → State
boxed width f = record {
  registers = f;
  fault = fault_of width f;
  core = record { ce = false; mode = Shutdown; config = byte_of f Config; flags = no_flags; counts = record { again = 0; lost = 0 } };
  pid = Zero;
  tx = Empty;
  rx = Empty;
  memories = no_memories;
}
