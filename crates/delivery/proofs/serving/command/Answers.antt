use Rattle.std.proofs.Common.{◌≡◌, ◌∙◌, ◌≤◌, ℕ, List, length, take, replicate, ap, arith}
use Rattle.std.proofs.lemmas.List.{length-replicate, take-replicate}
use Rattle.delivery.proofs.Room.{within, in_front}
use Rattle.delivery.proofs.serving.command.Goals as goal

pub invariant_of-result : goal.invariant_of-result
invariant_of-result g c =
    let few : c.from.result ≤ 255 = omega (arith, c.from.ensures, c.ranges.room.fits) in
    let before : List ℕ = take c.from.result (replicate 255 0) in
    let l : length before ≡ c.from.result = ap length (take-replicate c.from.result 255 0 few) ∙ length-replicate c.from.result 0 in
    let fits : c.in-Ok.len ≤ length before = within c.args.cell.now.inside c.args.unit c.args.host.now (length before) c.in-Ok.len c.in-Ok.ensures.answer in
    record { fits = omega (arith, few, l, fits) }

pub returns-in-Ok-clause-outcome : goal.returns-in-Ok-clause-outcome
returns-in-Ok-clause-outcome g c =
    let few : c.from.result ≤ 255 = omega (arith, c.from.ensures, c.ranges.room.fits) in
    let zeros : take c.from.result (replicate 255 0) ≡ replicate c.args.room 0 =
    take-replicate c.from.result 255 0 few ∙ ap (λ (k : ℕ). replicate k 0) c.from.ensures in
    in_front c.args.cell.now.inside c.args.unit c.args.host.now c.args.room c.in-Ok.len (take c.from.result (replicate 255 0)) c.command.new.reply _
    zeros (ap length zeros ∙ length-replicate c.args.room 0) c.in-Ok.ensures.answer c.in-Ok.ensures.reply c.command.auto.reply
