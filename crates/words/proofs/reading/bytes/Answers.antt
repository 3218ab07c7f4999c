use Rattle.std.proofs.Common.{rules, tests}
use Rattle.std.proofs.lemmas.Iterator.{YieldsList-from_slice, YieldsList-from_map}
use Rattle.std.proofs.lemmas.Iterator.Adapters.{YieldsList-from_skip}
use Rattle.std.proofs.lemmas.Iterator.Consumers.{YieldsList-from_enumerate, YieldsList-at}
use Rattle.words.proofs.Octets.{octet, read}
use Rattle.words.proofs.reading.bytes.Goals as goal

pub returns : goal.returns
returns c =
    read _ c.map.result c.args.from c.args.words.now
    (YieldsList-from_map _ octet (YieldsList-at c.map.ensures.source (YieldsList-from_skip c.args.from (YieldsList-from_enumerate (YieldsList-from_slice c.args.words.now (cc)) (cc)) (cc))) c.map.ensures.closure (λ x r q k. search (rules, tests)))
    c.try_collect.result c.try_collect.ensures.ran c.try_collect.ensures.err
