use Rattle.std.proofs.Common.{◌≡◌, ◌+◌, ◌∷◌, ◌<◌, length, ap, ◌∙◌, arith}
use Rattle.words.specs.Numbers.{byte_shown}
use Rattle.words.proofs.Texts.{behind_blank_at}
use Rattle.words.proofs.writing.text_at.Goals as goal

pub returns : goal.returns
returns c =
    let e : 0 + c.from.result ≡ c.args.b = omega (arith, c.from.ensures) in
    let within : c.from.result < length c.args.texts.now = omega (arith, c.from.ensures, c.told-texts) in
    behind_blank_at c.args.texts.now 0 c.from.result _ c.requires within ∙ ap (λ n. 32 ∷ byte_shown n) e
