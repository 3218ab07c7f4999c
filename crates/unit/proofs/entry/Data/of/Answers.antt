use Rattle.std.proofs.Common.{◌≡◌, ℕ, ◌≤◌, List, false, eqb, length, Some, None, sym, ap, ◌∙◌, rules}
use Rattle.std.proofs.lemmas.Bool.{le-leb, cond-true}
use Rattle.frames.specs.Calls.{payload_bytes, payload_of}
use Rattle.unit.proofs.Made.{made}
use Rattle.unit.proofs.entry.Data.of.Goals as goal

pub returns : goal.returns
returns c =
    let bs : List ℕ = payload_bytes c.args.payload in
    let n : eqb (length bs) 0 ≡ false = search rules in
    let few : length bs ≤ 32 = search rules in
    made bs c.args.payload _ n (ap Some c.requires ∙ sym (cond-true _ (Some (payload_of bs)) None (le-leb (length bs) 32 few)))
