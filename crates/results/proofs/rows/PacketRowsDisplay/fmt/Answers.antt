use Rattle.std.proofs.Common.{ℕ, false, List, ◌++◌, reverse, length, get_or, codes, rules, refl, sym, ap, ◌∙◌, arith}
use Rattle.std.proofs.Output.{has_written_append, has_written_of_eq}
use Rattle.std.specs.Fmt.{HasWritten, decimal}
use Rattle.std.proofs.lemmas.List.{length-reverse}
use Rattle.checks.specs.Bits.{bits}
use Rattle.words.specs.Numbers.{digits_shown}
use Rattle.frames.specs.Calls.{address_bytes}
use Rattle.results.specs.Rows.{preamble_row, numbered_row, payload_row, check_row, spare_row}
use Rattle.results.proofs.Written.{length_written, pid_written, length_row, pid_row}
use Rattle.results.proofs.rows.PacketRowsDisplay.fmt.Goals as goal

pub returns-clause-writes : goal.returns-clause-writes
returns-clause-writes g c = λ plain ok.
    let took = g.W.Write.write_str_gives in
    let n = length c.bytes-payload.result.now in
    let w1 = c.in_ok-write_str.ensures.writes plain refl in
    let w2 = c.in_ok-writeln.ensures.writes w1.plain refl in
    let w3 : HasWritten took c.writeln.new.self (length_written n) c.writeln-2.new.self = search rules in
    let w4 : HasWritten took c.writeln-2.new.self (pid_written c.number-pid.result) c.writeln-3.new.self = search rules in
    let w5 = c.in_ok-write_str-2.ensures.writes w4.plain refl in
    let w6 = c.in_ok-writeln-4.ensures.writes w5.plain refl in
    let w7 = c.writeln-5.ensures.writes w6.plain ok in
    let address = address_bytes c.args.self.now.heard.now.fields.address in
    let row : List ℕ → ℕ → List ℕ = λ l k.
    codes "     address   " ++ (digits_shown (reverse l) ++ (codes " (" ++ (decimal k ++ codes " bytes, high byte first)\n"))) in
    let e1 = c.preamble.ensures ∙ ap preamble_row (c.begins_with_one.ensures ∙ ap (λ l. get_or (bits (reverse l)) 0 false) c.bytes-address.ensures) in
    let e2 = ap (λ l. row l (length l)) c.bytes-address.ensures ∙ ap (row address) (sym (length-reverse address)) in
    let e3 = length_row n (omega (arith, c.bytes-payload.ensures.short)) ∙ ap (λ l. numbered_row (codes "     length    ") (length l) 6) c.bytes-payload.ensures.value in
    let e4 = pid_row c.number-pid.result c.number-pid.ensures.below ∙ ap (λ k. numbered_row (codes "     PID       ") k 2) c.number-pid.ensures.value in
    let e6 = ap payload_row c.bytes-payload.ensures.value in
    let heard = c.args.self.now.heard.now in
    has_written_of_eq _ _ _ _ _ (λ i. e1 i ++ (e2 i ++ (e3 i ++ (e4 i ++ (c.no_ack.ensures i ++ (e6 i ++ (check_row c.args.self.now.kind heard.check ++ spare_row)))))))
    (has_written_append _ _ _ _ _ _ w1
    (has_written_append _ _ _ _ _ _ w2
    (has_written_append _ _ _ _ _ _ w3 (has_written_append _ _ _ _ _ _ w4 (has_written_append _ _ _ _ _ _ w5 (has_written_append _ _ _ _ _ _ w6 w7))))))
