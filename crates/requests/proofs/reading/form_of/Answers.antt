use Rattle.std.proofs.Common.{◌≡◌, codes, sym, ap, rules}
use Rattle.std.proofs.lemmas.Slice.Eq.{text_from_reads}
use Rattle.requests.specs.Lines.{form_named}
use Rattle.requests.proofs.reading.form_of.Goals as goal

pub returns-in-command : goal.returns-in-command
returns-in-command c =
    let same : c.args.word.now ≡ codes "command" = text_from_reads _ _ (search rules) (search rules) in
    sym (ap form_named same)
