use Rattle.std.proofs.Common.{◌≡◌, [], ◌<◌, length, rules, arith}
use Rattle.std.proofs.lemmas.Result.{err_from_is_err_and}
use Rattle.words.specs.Split.{words_of}
use Rattle.script.specs.Console.{printed}
use Rattle.script.proofs.Lines.{Leaves-none, Leaves-more, AreLines-of_end, AreFirstLines-of_left, Takes-none, Takes-more, Cuts-at, SameTally-at}
use Rattle.script.proofs.feeding.feed_lines.Goals as goal

pub loop-init : goal.loop-init
loop-init g c = ([], Leaves-none _, Takes-none _ _)

pub loop-preserved : goal.loop-preserved
loop-preserved g c =
    let (ls, leaves, took) = c.loop.invariant in
    let line = c.read_until.new.buf.items in
    let some : 0 < length line = omega (arith, c.in-Ok.ensures.ok, c.in-Ok.field-0-test, c.read_until.new.buf.ok.0) in (
      _,
      Leaves-more _ _ _ ls c.clear.new.self.items line leaves (search rules) some c.in-Ok.ensures.bytes c.in-Ok.ensures.rest,
      Takes-more ls line c.as_bytes.result.now _ _ _ _ _ _ took (search rules) (search rules) (search rules),
    )

pub returns-in-Ok-eq0 : goal.returns-in-Ok-eq0
returns-in-Ok-eq0 g c =
    let (ls, leaves, took) = c.loop.invariant in
    record { all = (ls, AreLines-of_end _ _ _ leaves (search rules), took); stopped = tt }

pub returns-in-Err-clause-stopped : goal.returns-in-Err-clause-stopped
returns-in-Err-clause-stopped g c =
    let (ls, leaves, took) = c.loop.invariant in
    (ls, AreFirstLines-of_left _ _ _ leaves, took)

pub returns-in_err-print-clause-stopped : goal.returns-in_err-print-clause-stopped
returns-in_err-print-clause-stopped g c =
    let (ls, leaves, took) = c.loop.invariant in
    let p = err_from_is_err_and c.from_residual.result c.from_residual.ensures.1 in
    rw (p.1, p.2) (ls, AreFirstLines-of_left _ _ _ leaves, took.1, SameTally-at c.print.new.self c.loop.console _ c.in_err-print.ensures.tally took.0)

pub returns-in-Err-write_text-clause-stopped : goal.returns-in-Err-write_text-clause-stopped
returns-in-Err-write_text-clause-stopped g c =
    let (ls, leaves, took) = c.loop.invariant in
    let line = c.read_until.new.buf.items in
    let some : 0 < length line = omega (arith, c.in-Ok.ensures.ok, c.in-Ok.field-0-test, c.read_until.new.buf.ok.0) in
    let text = c.as_bytes.result.now in
    let says : text ≡ printed c.loop.console (words_of line) = search rules in
    let (front, rest, split, grown) = c.in-Err-write_text.ensures.err in (
      ls,
      line,
      AreFirstLines-of_left _ _ _ (Leaves-more _ _ _ ls c.clear.new.self.items line leaves (search rules) some c.in-Ok.ensures.bytes c.in-Ok.ensures.rest),
      Cuts-at ls line text front rest _ _ _ _ _ _ took (search rules) says split grown,
    )

pub returns-clause-stopped : goal.returns-clause-stopped
returns-clause-stopped g c =
    let (ls, leaves, took) = c.loop.invariant in
    (ls, AreFirstLines-of_left _ _ _ leaves, took)
