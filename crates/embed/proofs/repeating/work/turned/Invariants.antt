use Rattle.std.proofs.Common.{◌≡◌}
use Rattle.std.specs.Fn.{iterate}
use Rattle.embed.proofs.repeating.work.turned.Given as goal

abbrev pub invariant-loop : goal.invariant-loop
invariant-loop g l = l.work ≡ iterate g.W.Work.step l.counter l.initial.work
