use Rattle.std.proofs.Common.{◌≡◌, ℕ, ◌-◌, List, [], ◌++◌, rules, length, drop_of_length-le, take, drop, sym, ap, ◌∙◌, subst, append_assoc, append-nil, take-append-drop}
use Rattle.std.proofs.lemmas.List.{take_rest}
use Rattle.std.specs.Io.KnownBytes.{Appends}
use Rattle.std.proofs.KnownBytes.{Appends-nil, Appends-trans, Appends-kept}
use Rattle.script.proofs.feeding.write_text.Goals as goal
use Rattle.script.proofs.feeding.write_text.Goals.{in-Ok, in-Err+else-ne}

moves_front : (all done rest : List ℕ) (n : ℕ) → all ≡ done ++ rest → all ≡ (done ++ take n rest) ++ take (length rest - n) (drop n rest)
moves_front all done rest n e =
    e ∙ ap (λ l. done ++ l) (sym (take-append-drop n rest)) ∙ sym (append_assoc done (take n rest) (drop n rest)) ∙ ap (λ l. (done ++ take n rest) ++ l) (sym (take_rest rest n))

pub loop-init : goal.loop-init
loop-init g c = ([], search rules, Appends-nil _)

pub loop-preserved : goal.loop-preserved
loop-preserved g c =
    let (front, split, grown) = c.loop.invariant in
    let rest = c.loop.rest.now in
    elim c.match-write.branch [
      | in-Ok w ↦
          let done = front ++ take w.in-Ok.n rest in
          (done, moves_front _ front rest w.in-Ok.n split ∙ ap (λ r. done ++ r.now) (sym w.rest-is), Appends-trans _ _ _ _ _ grown w.in-Ok.ensures.bytes)
      | in-Err+else-ne w ↦ (front, split ∙ ap (λ r. front ++ r.now) (sym w.rest-is), Appends-kept _ _ _ _ grown w.in-Err.ensures.bytes)
    ]

pub returns-then-is_empty : goal.returns-then-is_empty
returns-then-is_empty g c =
    let (front, split, grown) = c.loop.invariant in
    let none : c.loop.rest.now ≡ [] = drop_of_length-le c.loop.rest.now {i = 0} (search rules) in
    record { ok = subst (Appends _ _) (sym (split ∙ ap (λ l. front ++ l) none ∙ append-nil front)) grown; err = tt }
