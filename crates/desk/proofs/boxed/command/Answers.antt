use Rattle.std.proofs.Common.{rules}
use Rattle.commands.specs.Decode.{ordered}
use Rattle.unit.specs.Commanding.{refusal}
use Rattle.desk.proofs.Replies.{reply_read}
use Rattle.desk.proofs.boxed.command.Goals as goal

pub returns-clause-answer : goal.returns-clause-answer
returns-clause-answer g c =
    reply_read (λ room. refusal c.args.unit.now.state room (ordered c.args.bytes.now)) _ c.args.room _ _ _ _ _ _ _ (search rules) c.in_ok-length.ensures.answer c.command.ensures.buffer
