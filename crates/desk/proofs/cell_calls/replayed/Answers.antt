use Rattle.std.proofs.Common.{◌≡◌, Some, [], ◌∷◌, map, ap, ◌∙◌}
use Rattle.law.specs.Runs.{outcome, after}
use Rattle.delivery.specs.Entries.{call_of, written}
use Rattle.desk.proofs.OneCall.{one_led, one_outcome, first_written, is_there, is_that}
use Rattle.desk.proofs.cell_calls.replayed.Goals as goal

pub unwrap-requires : goal.unwrap-requires
unwrap-requires g c =
    let w = g.C.Check.W in
    let f = g.C.Check.meaning in
    let c0 = c.args.cell.now.inside in
    let x = call_of c.new.result.call in
    let one : written c.replay.new.entries ≡ Some (outcome w f c0 x) ∷ [] = c.replay.ensures.outcomes ∙ ap (map Some) (one_outcome w f c0 x) in
    is_there _ _ (first_written c.replay.new.entries c.index-entries-0.result (outcome w f c0 x) one)

pub returns-clause-state : goal.returns-clause-state
returns-clause-state g c =
    let w = g.C.Check.W in
    let f = g.C.Check.meaning in
    let c0 = c.args.cell.now.inside in
    c.replay.ensures.state ∙ one_led w f c0 (call_of c.new.result.call) ∙ ap (λ e. after w f c0 (call_of e.call)) c.new.ensures

pub returns-clause-outcome : goal.returns-clause-outcome
returns-clause-outcome g c =
    let w = g.C.Check.W in
    let f = g.C.Check.meaning in
    let c0 = c.args.cell.now.inside in
    let x = call_of c.new.result.call in
    let one : written c.replay.new.entries ≡ Some (outcome w f c0 x) ∷ [] = c.replay.ensures.outcomes ∙ ap (map Some) (one_outcome w f c0 x) in
    let there = first_written c.replay.new.entries c.index-entries-0.result (outcome w f c0 x) one in
    is_that _ _ _ there c.unwrap.ensures ∙ ap (λ e. outcome w f c0 (call_of e.call)) c.new.ensures
