use Rattle.std.proofs.Common.{◌≡◌, ℕ, ◌+◌, List, ◌∷◌, length, get_or, drop, sym, ap, ◌∙◌, add-one, arith}
use Rattle.std.proofs.Math.Seq.{drop-cons}
use Rattle.std.proofs.lemmas.List.{drop_all}
use Rattle.registers.specs.declared.register.Register.{Register}
use Rattle.registers.specs.declared.register.Register.TheVariants.{Config}
use Rattle.registers.specs.declared.held.Registers.{Registers}
use Rattle.profile.specs.Reading.{bytes_of}
use Rattle.bench.specs.Loading.{fields_written}
use Rattle.bench.proofs.Loads.{held_after, filled, all_filled}
use Rattle.bench.proofs.unit.Bench.write_fields.Goals as goal

pub loop-register-preserved : goal.loop-register-preserved
loop-register-preserved c =
    let p = bytes_of c.args.profile.now in
    let all = c.all-register-items.result in
    let i = c.loop-register.register-index in
    let f = c.loop-register.self.registers in
    let r = get_or all i Config in
    let rest = drop (i + 1) all in
    let l : length all ≡ 24 = ap length c.all-register-items.ensures in
    let next : drop i all ≡ r ∷ rest = drop-cons all i Config (omega (arith, l)) ∙ ap (λ (n : ℕ). r ∷ drop n all) (sym (add-one i)) in (
      c.loop-register.invariant.0 ∙ ap (λ (rs : List Register). fields_written rs p f) next
          ∙ ap (λ (g : Registers). fields_written rest p g) (sym c.write_field.ensures.after),
      λ n q.
          filled p f c.write_field.new.self.registers r rest c.write_field.ensures.law (n r) q ∙ ap (λ (rs : List Register). held_after p rs f q) (sym next)
          ∙ c.loop-register.invariant.1 n q,
    )

pub returns-clause-law : goal.returns-clause-law
returns-clause-law c =
    let all = c.all-register-items.result in
    let l : length all ≡ 24 = ap length c.all-register-items.ensures in
    λ n q.
    all_filled (bytes_of c.args.profile.now) c.args.self.now.registers c.loop-register.self.registers (drop c.loop-register.register-index all) all
    (drop_all c.loop-register.register-index all (omega (arith, l))) c.all-register-items.ensures q (c.loop-register.invariant.1 n q)
