use Rattle.std.proofs.Common.{take, Some, None, ap, ◌∙◌}
use Rattle.checks.specs.Bits.{bits}
use Rattle.frames.specs.Calls.{width_of, packet_of}
use Rattle.frames.proofs.Parse.{exactly}
use Rattle.frames.proofs.reading.read.Goals as goal

pub returns-in_default-clause-exact : goal.returns-in_default-clause-exact
returns-in_default-clause-exact g c =
    exactly g.C.Check.meaning g.C.Check.W g.met.C.Check.below (width_of c.args.wide) (take c.args.count (bits c.args.frame.now)) None
    c.in_default.ensures.value

pub returns-clause-exact : goal.returns-clause-exact
returns-clause-exact g c =
    exactly g.C.Check.meaning g.C.Check.W g.met.C.Check.below (width_of c.args.wide) (take c.args.count (bits c.args.frame.now))
    (Some (packet_of c.fields_at.result)) (ap Some c.fields_at.ensures.value ∙ c.in-Some.ensures.value)
