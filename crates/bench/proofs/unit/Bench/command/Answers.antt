use Rattle.std.proofs.Common.{◌≡◌, List, ℕ, Ok, Result, ap, sym, ◌∙◌, rules}
use Rattle.registers.specs.declared.register.Register.{Register}
use Rattle.registers.specs.declared.held.Registers.{Registers}
use Rattle.commands.specs.declared.command.Command.{Command}
use Rattle.commands.specs.declared.refusal.Refusal.{Refusal}
use Rattle.commands.specs.Decode.{order, ordered, told, write_register}
use Rattle.bench.specs.Commands.{reply_after}
use Rattle.bench.proofs.unit.Bench.command.Goals as goal

-- what is replied to a command is replied to the bytes that were decoded to it
carried :
    (f : Registers) (b after bytes : List ℕ) (decoded : Result Command Refusal) (c : Command) (r : Register) (d : List ℕ) → after ≡ reply_after f b (Ok (write_register r d))
    → told decoded ≡ ordered bytes → decoded ≡ Ok c → order c ≡ write_register r d → after ≡ reply_after f b (ordered bytes)
carried f b after bytes decoded c r d h t o w = h ∙ ap (reply_after f b) (ap Ok (sym w) ∙ sym (ap told o) ∙ t)

pub returns-in-WriteRegister-clause-reply : goal.returns-in-WriteRegister-clause-reply
returns-in-WriteRegister-clause-reply c =
    carried c.args.self.now.registers c.args.buffer.now c.write.new.buffer c.args.bytes.now c.decode.result c.in_ok-command.command _ _ c.write.ensures.reply
    c.decode.ensures c.in_ok-command.was (search rules)
