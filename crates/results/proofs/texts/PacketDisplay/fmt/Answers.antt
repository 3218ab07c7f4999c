use Rattle.std.proofs.Common.{◌++◌, codes, reverse, ap, ◌∙◌}
use Rattle.std.proofs.Output.{has_written_of_eq}
use Rattle.std.specs.Fmt.{decimal}
use Rattle.words.specs.Numbers.{bytes_shown, digits_shown}
use Rattle.results.proofs.Written.{no_ack_written}
use Rattle.results.proofs.texts.PacketDisplay.fmt.Goals as goal

pub returns-clause-writes : goal.returns-clause-writes
returns-clause-writes g c = λ plain ok.
    let fields = c.args.self.now.0.now in
    let turned = ap (λ l. digits_shown (reverse l)) c.bytes.ensures in
    let pid = ap decimal c.number-pid.ensures.value in
    let no_ack = ap (λ n. codes " " ++ decimal n) c.from-no_ack.ensures ∙ no_ack_written fields.no_ack in
    let payload = ap bytes_shown c.bytes-2.ensures.value in
    has_written_of_eq _ _ _ _ _ (λ i. codes "ok " ++ (turned i ++ (codes " " ++ (pid i ++ (no_ack i ++ payload i))))) (c.write.ensures.writes plain ok)
