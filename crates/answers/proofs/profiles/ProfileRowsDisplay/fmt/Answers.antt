use Rattle.std.proofs.Common.{rules, ◌≡◌, ◌+◌, ◌++◌, None, take, length, refl, sym, ap, subst, ◌<◌, ◌∙◌, arith}
use Rattle.std.proofs.Output.{has_written_append, has_written_of_eq}
use Rattle.std.specs.Fmt.{HasWritten}
use Rattle.std.proofs.lemmas.List.{append-nil}
use Rattle.answers.specs.Profiles.{rows_of}
use Rattle.answers.proofs.Rows.{row_more, row_is}
use Rattle.answers.proofs.profiles.ProfileRowsDisplay.fmt.Goals as goal
use Rattle.answers.proofs.profiles.ProfileRowsDisplay.fmt.Goals.{in-Some+in_ok-write_row, in_default-field}

pub loop-register-preserved : goal.loop-register-preserved
loop-register-preserved g c = λ plain.
    let p = c.args.self.now.0.now in
    let i = c.loop-register.register-index in
    let took = g.W.Write.write_str_gives in
    let within = subst (λ rs. i < length rs) (sym c.all-register-items.ensures) c.loop-register-test.true in
    let so_far = c.loop-register.invariant plain in
    elim c.match-field.branch [
      | in-Some+in_ok-write_row w ↦
          let row = w.in_ok-write_row.ensures so_far.plain refl in
          let is = row_is _ p _ _ c.in-Ok.ensures.0 c.in-Ok.ensures.1 w.in-Some.ensures in
          subst (λ f. HasWritten took c.args.f.now (rows_of p (take (i + 1) c.all-register-items.result)) f) (sym w.f-is)
          (has_written_of_eq _ _ _ _ _ (row_more p c.all-register-items.result i _ within)
          (has_written_append _ _ _ _ _ _ so_far (has_written_of_eq _ _ _ _ _ is row)))
      | in_default-field w ↦
          let done = rows_of p (take i c.all-register-items.result) in
          let is = row_is _ p _ None c.in-Ok.ensures.0 c.in-Ok.ensures.1 w.in_default-field.ensures in
          subst (λ f. HasWritten took c.args.f.now (rows_of p (take (i + 1) c.all-register-items.result)) f) (sym w.f-is)
          (has_written_of_eq _ _ _ _ _ (sym (append-nil done) ∙ ap (λ l. done ++ l) is ∙ row_more p c.all-register-items.result i _ within) so_far)
    ]

pub returns-clause-writes : goal.returns-clause-writes
returns-clause-writes g c = λ plain ok.
    let p = c.args.self.now.0.now in
    let all : c.loop-register.register-index ≡ 24 = omega arith in
    has_written_of_eq _ _ _ _ _ (ap (λ n. rows_of p (take n c.all-register-items.result)) all ∙ ap (λ rs. rows_of p (take 24 rs)) c.all-register-items.ensures)
    (c.loop-register.invariant plain)
