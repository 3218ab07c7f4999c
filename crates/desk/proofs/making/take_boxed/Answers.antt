use Rattle.std.proofs.Common.{◌≡◌, suc, ◌+◌, ◌++◌, ◌∷◌, [], set, Some, None, sym, subst, arith}
use Rattle.desk.specs.declared.slot.AnyUnit.TheVariants.{Bench}
use Rattle.desk.specs.Making.{without_boxed}
use Rattle.desk.proofs.BoxedFirst.{Taking, in_slot, one_taken, bench_stays, gap_stays}
use Rattle.desk.proofs.making.take_boxed.Goals as goal

pub loop-i-preserved : goal.loop-i-preserved
loop-i-preserved g c =
    let xs = c.args.slots.now in
    let i = c.loop-i.i in
    let u = c.in-Some-Boxed.unit in
    let boxed : c.index-slots-i.result ≡ in_slot u = cc (c.in-Some-Boxed.ensures.value, c.in-Some-Boxed.field-0-is) in
    let one = one_taken xs i c.loop-i.units.items c.loop-i.slots c.index-slots-i.result u c.loop-i.invariant (omega (arith, c.loop-i.auto.slots)) (sym c.index-slots-i.is) boxed in
    let next : suc i ≡ i + 1 = omega arith in
    let emptied = subst (λ x. Taking xs (suc i) (c.loop-i.units.items ++ (u ∷ [])) (set c.loop-i.slots i x)) (sym c.take.ensures.after) one in
    let joined = subst (λ us. Taking xs (suc i) us (set c.loop-i.slots i c.take.new.self)) (sym c.in_ok-push-in-Some-Boxed.ensures.items) emptied in
    subst (λ k. Taking xs k c.push.new.self.items (set c.loop-i.slots i c.take.new.self)) next joined

pub returns-in-Some-Bench-clause-left : goal.returns-in-Some-Bench-clause-left
returns-in-Some-Bench-clause-left g c =
    let b = c.in-Some-Bench.unit in
    let bench : c.index-slots-i.result ≡ Some (Bench b) = cc (c.in-Some-Bench.ensures.value, c.in-Some-Bench.field-0-is) in
    let stays = bench_stays c.args.slots.now c.loop-i.i c.loop-i.units.items c.loop-i.slots c.index-slots-i.result b c.loop-i.invariant (omega (arith, c.loop-i.auto.slots)) (sym c.index-slots-i.is) bench in
    subst (λ x. set (set c.loop-i.slots c.loop-i.i x) c.loop-i.i (Some (Bench b)) ≡ without_boxed c.args.slots.now) (sym c.take.ensures.after) stays

pub returns-in-None-clause-left : goal.returns-in-None-clause-left
returns-in-None-clause-left g c =
    let none : c.index-slots-i.result ≡ None = cc c.in-None.ensures.value in
    let stays = gap_stays c.args.slots.now c.loop-i.i c.loop-i.units.items c.loop-i.slots c.index-slots-i.result c.loop-i.invariant (omega (arith, c.loop-i.auto.slots)) (sym c.index-slots-i.is) none in
    subst (λ x. set c.loop-i.slots c.loop-i.i x ≡ without_boxed c.args.slots.now) (sym c.take.ensures.after) stays
