use Rattle.std.proofs.Common.{◌≡◌, ℕ, true, ap, ◌∙◌, rules}
use Rattle.registers.specs.Address.{address_of}
use Rattle.registers.proofs.Holding.{address_bound}
use Rattle.profile.specs.Profile.{map_of, names}
use Rattle.profile.proofs.Whole.{inside}
use Rattle.profile.proofs.reading.Profile.field.Goals as goal

pub slice_bounds-result-end : goal.slice_bounds-result-end
slice_bounds-result-end c =
    let p = c.args.self.now in
    let r = address_of c.args.register in
    let t : true ≡ names (map_of p.bytes.now) r = c.if-names.ensures ∙ ap (λ (m : ℕ). names m r) p.first in
    let h = inside p.bytes.now p.sound r (address_bound c.args.register) t in
    search rules
