use Rattle.std.proofs.Common.{◌^◌, ◌<◌, arith}
use Rattle.profile.specs.Profile.{map_of}
use Rattle.profile.proofs.Whole.{absent}
use Rattle.profile.proofs.fields.field.Goals as goal

pub returns-in_default : goal.returns-in_default
returns-in_default c =
    let fits = c.type_inv.profile in
    let m : map_of c.args.profile.now < 2 ^ 32 = omega (arith, fits 0, fits 1, fits 2, fits 3) in
    absent c.args.profile.now c.in_ok-profile.ensures.1 c.args.register m c.in_default.ensures.back
