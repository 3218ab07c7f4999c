-- What a refusal says in words.
use Rattle.std.specs.Prelude.{ℕ, List, [], Some, None, codes, Option}
use Rattle.registers.specs.declared.register.Register.{Register}
use Rattle.registers.specs.Table.{name_of}
use Rattle.commands.specs.declared.refusal.Refusal.{Refusal}
use Rattle.commands.specs.declared.refusal.Refusal.TheVariants.{NoCommand, Unknown, NotForUnit, DataLength, NothingReceived, ReplyRoom, ReadOnly, Busy, NotAllowed, QueueFull, Profile, Fault, FrameBytes}

-- why a call is refused; behind it may stand the name of a register
abbrev pub reason : Refusal → List ℕ
reason NoCommand = codes "no command byte"
reason Unknown = codes "no such command or register"
reason NotForUnit = codes "not for a bench unit, or not for its role"
reason DataLength = codes "a wrong number of data bytes"
reason NothingReceived = codes "the RX queue is empty"
reason ReplyRoom = codes "the reply buffer is too short"
reason ReadOnly = codes "read only, or fixed by boxing"
reason Busy = codes "not in Tuning, Waiting or RX"
reason (NotAllowed r) = codes "the value is not allowed for "
reason QueueFull = codes "the TX queue is full"
reason Profile = codes "the profile's map or length is wrong"
reason (Fault r) = codes "the check finds a fault in "
reason FrameBytes = codes "bits beyond the frame's bytes"

abbrev pub register_name : Option Register → List ℕ
register_name (Some r) = name_of r
register_name None = []
