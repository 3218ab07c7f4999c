use Rattle.std.proofs.Common.{◌≡◌, ◌+◌, ℕ, suc, get_or, ap, ◌<◌, length, Some, None, [], ◌∷◌, ◌++◌, drop, replicate, sym, ◌∙◌, rules, arith}
use Rattle.std.proofs.lemmas.List.{length-map, length-append, length-replicate, get_or-map, take_all}
use Rattle.cell.specs.Making.{places_of, states, OfBytesState}
use Rattle.cell.proofs.Offered.{empty_at_first, nobody, popped_one, placed_one, there, all_there}
use Rattle.cell.proofs.making.places_of.Goals as goal

pub loop-unit-init : goal.loop-unit-init
loop-unit-init g c =
    let us = c.args.units.items in
    let n : length (states us) ≡ length us = length-map us (λ u. u.state) in
    record {
      left = sym (take_all (length us) us (omega arith));
      placed = rw (← n) (empty_at_first (states us) (rw n c.requires));
      bytes = λ u s e. absurd (nobody u s e);
    }

pub loop-unit-preserved : goal.loop-unit-preserved
loop-unit-preserved g c =
    let us = c.args.units.items in
    let new = c.pop.new.self.items in
    let u = c.in-Some.unit in
    let inv = c.loop-unit.invariant in
    let split : c.loop-unit.units.items ≡ new ++ (u ∷ []) = c.in-Some.ensures.items in
    let n : c.len.result ≡ length new = search rules in
    let one = popped_one us new u (rw split at inv.left) in
    let there_is : get_or (places_of (states us)) (length new) None ≡ Some u.state =
    there (states us) _ (length new) u.state (rw length-map one.2) ∙ ap Some (get_or-map (λ v. v.state) us (length new) u u.state one.2 ∙ ap (λ v. v.state) one.1) in
    let l : length c.loop-unit.units.items ≡ suc (length new) = ap length split ∙ (length-append new (u ∷ []) ∙ omega arith) in
    let ps = places_of (states us) in
    let room : length new < length ps = rw (length-append, length-map, length-map) (omega (arith, one.2)) in
    let at : c.loop-unit.at ≡ replicate (suc (length new)) None ++ drop (suc (length new)) ps = inv.placed ∙ ap (λ (k : ℕ). replicate k None ++ drop k ps) l in
    let wide : length c.loop-unit.at ≡ suc (length new) + length (drop (suc (length new)) ps) =
    ap length at ∙ (length-append (replicate (suc (length new)) None) (drop (suc (length new)) ps)
    ∙ ap (λ (k : ℕ). k + length (drop (suc (length new)) ps)) (length-replicate (suc (length new)) None)) in
    record {
      left = one.0;
      placed = rw (n, at) (placed_one None (Some u.state) ps (length new) there_is room);
      bytes = rw n (all_there OfBytesState c.loop-unit.at (length new) u.state (omega (arith, wide)) c.known.ensures inv.bytes);
    }
