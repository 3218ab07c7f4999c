use Rattle.std.proofs.Common.{◌≡◌, ◌<◌, length, get_or, take, map, Some, ◌∙◌, sym, ap, refl, arith}
use Rattle.std.proofs.lemmas.List.{length-map, take_all}
use Rattle.std.specs.Option.{option_map}
use Rattle.law.specs.Runs.{outcome, outcomes, after, led}
use Rattle.law.specs.Law.{OfBytes}
use Rattle.delivery.specs.Entries.{call_of, outcome_of, calls_of, written}
use Rattle.delivery.proofs.Runs.{carries, led_once, bytes_once, same_calls, call_at, answered_once}
use Rattle.delivery.proofs.replaying.replay.Goals as goal

pub loop-entry-init : goal.loop-entry-init
unfolding led outcomes
loop-entry-init g c = record { calls = refl; answered = refl; state = refl; bytes = tt }

pub loop-entry-preserved : goal.loop-entry-preserved
loop-entry-preserved g c =
    let w = g.C.Check.W in
    let f = g.C.Check.meaning in
    let c0 = c.args.cell.now.inside in
    let xs = calls_of c.args.entries.now in
    let es = c.loop-entry.entries in
    let i = c.loop-entry.entry-index in
    let e = c.entry-item.result in
    let x = call_of (get_or es i e).call in
    let inv = c.loop-entry.invariant in
    let l : i < length es = omega (arith, c.loop-entry-test.true, c.loop-entry.auto.entries) in
    let m : i < length xs = rw length-map c.loop-entry-test.true in
    let at : get_or xs i x ≡ x = rw (← inv.calls) (call_at es i e x l) in
    let kept : call_of c.replay.new.self.call ≡ x = c.replay.ensures.call in
    let answers : option_map outcome_of c.replay.new.self.outcome ≡ Some (outcome w f c.loop-entry.cell.inside x) = c.replay.ensures.outcome in
    let leads : c.replay.new.cell.inside ≡ after w f c.loop-entry.cell.inside x = c.replay.ensures.state in
    let b : OfBytes x = c.replay.ensures.bytes in
    record {
      calls = same_calls es i e c.replay.new.self kept ∙ inv.calls;
      answered = answered_once w f c0 xs es i x c.replay.new.self l m at inv.answered (answers ∙ ap (λ d. Some (outcome w f d x)) inv.state);
      state = leads ∙ (ap (λ d. after w f d x) inv.state ∙ sym (led_once w f c0 xs i x m at));
      bytes = bytes_once xs i x m at inv.bytes b;
    }

pub returns : goal.returns
returns g c =
    let w = g.C.Check.W in
    let f = g.C.Check.meaning in
    let c0 = c.args.cell.now.inside in
    let xs = calls_of c.args.entries.now in
    let es = c.loop-entry.entries in
    let i = c.loop-entry.entry-index in
    let inv = c.loop-entry.invariant in
    let all : take i xs ≡ xs = take_all i xs (rw length-map c.loop-entry-test.false) in
    let each : take i (written es) ≡ written es = take_all i (written es) (rw (length-map, c.loop-entry.auto.entries) c.loop-entry-test.false) in
    let answered : written es ≡ map Some (outcomes w f c0 xs) = sym each ∙ (inv.answered ∙ ap (λ ys. map Some (outcomes w f c0 ys)) all) in
    let state = inv.state ∙ ap (λ ys. led w f c0 ys) all in
    let bytes = rw all at inv.bytes in
    record {
      calls = inv.calls;
      outcomes = answered;
      state = state;
      bytes = bytes;
      law = carries w f c.every_run_is_lawful.ensures c0 xs _ _ bytes state answered;
    }
