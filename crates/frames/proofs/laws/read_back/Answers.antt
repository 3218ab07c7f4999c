use Rattle.frames.specs.Calls.{packet_of, width_of}
use Rattle.frames.proofs.Back.{echoes}
use Rattle.frames.proofs.laws.read_back.Goals as goal

pub returns : goal.returns
returns g c =
    let p = c.in_ok-count.ensures.packed in
    echoes g.C.Check.meaning g.C.Check.W g.met.C.Check.below (width_of c.args.fields.now.address.wide) (packet_of c.args.fields.now)
    c.args.frame.now c.pack.new.frame c.in_ok-count.count c.read.result c.pack.ensures.sound p.0 p.1 p.2 c.read.ensures.value
