use Rattle.frames.proofs.Patterns.{pattern_shows}
use Rattle.law.proofs.Stands.{every_run}
use Rattle.law.proofs.laws.every_run_is_lawful.Goals as goal

pub returns : goal.returns
returns g c =
    let k = g.met.C.Check in
    every_run g.C.Check.W g.C.Check.meaning k.below (pattern_shows g.C.Check.meaning g.C.Check.W k.wide k.below k.burst)
