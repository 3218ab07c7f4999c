use Rattle.std.proofs.Common.{◌-◌, ◌%◌, refl, arith}
use Rattle.checks.specs.Bits.{bits}
use Rattle.checks.specs.Places.{length_bits}
use Rattle.frames.specs.Octets.{number_after}
use Rattle.frames.proofs.Words.{get_twice, get_thrice}
use Rattle.frames.proofs.bits.get_bits.Goals as goal

pub returns-then-count-eq0-clause-value : goal.returns-then-count-eq0-clause-value
unfolding number_after
returns-then-count-eq0-clause-value c = rw c.if-count-eq0.true refl

pub returns-then-rest-le8-clause-value : goal.returns-then-rest-le8-clause-value
returns-then-rest-le8-clause-value c =
    let room = 8 - c.args.at % 8 in
    let f = c.get_within-first in
    let s = c.get_within-then-rest-le8 in
    (get_twice (bits c.args.buf.now) c.args.at room (c.args.count - room) c.args.count f.result s.result
    (omega arith) (omega arith) (omega (arith, length_bits c.args.buf.now)) f.ensures.value s.ensures.value f.ensures.below s.ensures.below).0

pub returns-then-rest-le8-clause-below : goal.returns-then-rest-le8-clause-below
returns-then-rest-le8-clause-below c =
    let room = 8 - c.args.at % 8 in
    let f = c.get_within-first in
    let s = c.get_within-then-rest-le8 in
    (get_twice (bits c.args.buf.now) c.args.at room (c.args.count - room) c.args.count f.result s.result
    (omega arith) (omega arith) (omega (arith, length_bits c.args.buf.now)) f.ensures.value s.ensures.value f.ensures.below s.ensures.below).1

pub returns-clause-value : goal.returns-clause-value
returns-clause-value c =
    let room = 8 - c.args.at % 8 in
    let f = c.get_within-first in
    let s = c.get_within-2 in
    let t = c.get_within-3 in
    (get_thrice (bits c.args.buf.now) c.args.at room (c.args.count - room) c.args.count f.result s.result t.result
    (omega arith) (omega arith) (omega arith) (omega (arith, length_bits c.args.buf.now))
    f.ensures.value s.ensures.value t.ensures.value f.ensures.below s.ensures.below t.ensures.below).0

pub returns-clause-below : goal.returns-clause-below
returns-clause-below c =
    let room = 8 - c.args.at % 8 in
    let f = c.get_within-first in
    let s = c.get_within-2 in
    let t = c.get_within-3 in
    (get_thrice (bits c.args.buf.now) c.args.at room (c.args.count - room) c.args.count f.result s.result t.result
    (omega arith) (omega arith) (omega arith) (omega (arith, length_bits c.args.buf.now))
    f.ensures.value s.ensures.value t.ensures.value f.ensures.below s.ensures.below t.ensures.below).1
