use Rattle.std.proofs.Common.{◌%◌, ◌^◌, ◌<◌, ◌≤◌, sym, arith, pow_pos}
use lib.Count.{ones, ones-le}
use Rattle.std.proofs.lemmas.Nat.{one_shl, and_mask, mod_below}
use Rattle.profile.proofs.Ones.{count}
use Rattle.profile.proofs.map.Map.count_below.Goals as goal

pub returns : goal.returns
returns c =
    let m = c.args.self.0 in
    let r = c.args.address in
    let small : r < 32 = omega arith in
    let n : ones (m % 2 ^ r) ≤ r = ones-le r (m % 2 ^ r) (mod_below m (2 ^ r) (pow_pos r)) in
    let few : ones (m % 2 ^ r) ≤ 24 = omega arith in
    record { value = rw (one_shl r 32 small, and_mask m r) (sym (count m r)); few = rw (one_shl r 32 small, and_mask m r) few }
