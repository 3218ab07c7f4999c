use Rattle.words.specs.Split.{texts}
use Rattle.requests.proofs.Grammar.{settled}
use Rattle.requests.proofs.reading.parse.Goals as goal

pub returns : goal.returns
returns c = record { value = c.words_line.ensures; settled = settled (texts c.args.words.now) c.words_line.result c.words_line.ensures }
