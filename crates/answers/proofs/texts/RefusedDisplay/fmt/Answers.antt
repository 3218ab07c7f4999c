use Rattle.std.proofs.Common.{rules, arith, ℕ, List, [], ◌∷◌, ◌++◌, codes, decimal, ap, ◌∙◌}
use Rattle.std.proofs.Output.{has_written_of_eq}
use Rattle.std.specs.Fmt.{HasWritten}
use Rattle.commands.specs.Refusals.{numbered}
use Rattle.commands.specs.Texts.{reason, register_name}
use Rattle.words.specs.Numbers.{bytes_shown}
use Rattle.words.proofs.Shown.{written, byte_written}
use Rattle.answers.specs.Texts.{register_digits}
use Rattle.answers.proofs.texts.RefusedDisplay.fmt.Goals as goal

pub returns-in-Some-clause-writes : goal.returns-in-Some-clause-writes
returns-in-Some-clause-writes g c = λ plain ok.
    let e = c.args.self.now.0 in
    let a = c.address-address.result in
    let by : ℕ → List ℕ → List ℕ = λ n digits.
    codes "refused " ++ (decimal n ++ (digits ++ (codes " (" ++ (reason e ++ (register_name (numbered e).1 ++ codes ")"))))) in
    let w : HasWritten g.W.Write.write_str_gives c.args.f.now (by c.number-number.result (32 ∷ written a)) c.write.new.self = search rules in
    let digits = ap (λ d. 32 ∷ d) (byte_written a (omega (arith, c.address-address.ensures.bound))) ∙ ap (λ x. bytes_shown (x ∷ [])) c.address-address.ensures.value ∙ ap register_digits c.in-Some.ensures in
    has_written_of_eq _ _ _ _ _ (ap (λ n. by n (32 ∷ written a)) c.number-number.ensures ∙ ap (by (numbered e).0) digits) w
