use Rattle.std.proofs.Common.{rules, tests, ◌∙◌}
use Rattle.std.proofs.lemmas.Iterator.{YieldsList-from_slice}
use Rattle.std.proofs.lemmas.Iterator.Search.{position_from_yields_List}
use Rattle.words.proofs.Cuts.{unblank, found, passed}
use Rattle.words.proofs.split.behind_blanks.Goals as goal

pub returns-clause-same : goal.returns-clause-same
returns-clause-same c =
    let line = c.args.line.now in
    let start = found unblank line _ (position_from_yields_List unblank _ _ _ c.position.ensures.ran (YieldsList-from_slice line (cc)) (λ x b q k. search (rules, tests))) in
    passed line c.unwrap_or-start.result (c.unwrap_or-start.ensures ∙ start)
