use Rattle.std.proofs.Common.{◌∙◌, not, is_some, Option, rules, tests}
use Rattle.std.proofs.lemmas.Iterator.{YieldsList-from_slice}
use Rattle.std.proofs.lemmas.Iterator.Search.{all_from_yields_List}
use Rattle.unit.specs.declared.memory.Memory.{Memory}
use Rattle.cell.proofs.Offered.{nothing_there}
use Rattle.cell.proofs.making.has_no_memory.Goals as goal

pub returns : goal.returns
returns c =
    let ms = c.args.memories.now.at in
    all_from_yields_List (λ (o : Option Memory). not (is_some o)) _ _ _ c.all.ensures.ran (YieldsList-from_slice ms cc) (λ x b q k. search (rules, tests))
    ∙ nothing_there ms
