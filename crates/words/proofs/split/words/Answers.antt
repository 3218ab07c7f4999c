use Rattle.std.proofs.Common.{◌++◌, length, sym, ap, ◌∙◌}
use Rattle.std.proofs.lemmas.Bool.{eqb-true}
use Rattle.std.proofs.lemmas.List.{append-nil, nil_from_length}
use Rattle.words.specs.Split.{texts, words_of}
use Rattle.words.proofs.Grammar.{cut}
use Rattle.words.proofs.split.words.Goals as goal

pub returns-clause-cut : goal.returns-clause-cut
returns-clause-cut c =
    let out = texts c.loop-left.out.items in
    let left = c.loop-left.left.now in
    let none = nil_from_length left (eqb-true (length left) 0 (sym c.is_empty.ensures ∙ c.loop-left-test.false)) in
    cut c.args.line.now out (sym (append-nil out) ∙ ap (λ l. out ++ l) (sym (ap words_of none)) ∙ c.loop-left.invariant)
