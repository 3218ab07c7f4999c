use Rattle.std.proofs.Common.{rules, tests, sym, ◌∙◌}
use Rattle.std.proofs.lemmas.Iterator.{YieldsList-from_slice}
use Rattle.std.proofs.lemmas.Iterator.Search.{position_from_yields_List}
use Rattle.words.proofs.Cuts.{unplain, Ends, all_plain, at_hash, at_blank}
use Rattle.words.proofs.split.parted.Goals.{After-position}
use Rattle.words.proofs.split.parted.Goals as goal

ends : (c : After-position) → Ends c.args.line.now c.position.result
ends c =
    position_from_yields_List unplain _ _ _ c.position.ensures.ran (YieldsList-from_slice c.args.line.now (cc)) (λ x b q k. search (rules, tests))

pub returns-in-Some-clause-words : goal.returns-in-Some-clause-words
returns-in-Some-clause-words c =
    at_hash c.args.line.now c.in-Some.end (sym (ends (goal.at.returns-in-Some-clause-words c).After-position) ∙ c.in-Some.is) c.if-line-end-eq35.true

pub returns-in-Some-2-clause-words : goal.returns-in-Some-2-clause-words
returns-in-Some-2-clause-words c =
    at_blank c.args.line.now c.in-Some.end (sym (ends (goal.at.returns-in-Some-2-clause-words c).After-position) ∙ c.in-Some.is) c.if-line-end-eq35.false

pub returns-in-None-clause-words : goal.returns-in-None-clause-words
returns-in-None-clause-words c = all_plain c.args.line.now (sym (ends (goal.at.returns-in-None-clause-words c).After-position) ∙ c.in-None.is)
