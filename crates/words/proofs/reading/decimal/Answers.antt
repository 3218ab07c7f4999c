use Rattle.std.proofs.Common.{rules, tests}
use Rattle.std.proofs.lemmas.Iterator.{YieldsList-from_slice}
use Rattle.words.proofs.Decimals.{decimal_from}
use Rattle.words.proofs.reading.decimal.Goals as goal

pub returns : goal.returns
returns c =
    let now = decimal_from _ _ _ (λ n x v q call. search (rules, tests)) c.args.word.now _ _ 0 _ (YieldsList-from_slice c.args.word.now (cc)).runs c.try_fold.ensures.ran in
    search (rules, now)
