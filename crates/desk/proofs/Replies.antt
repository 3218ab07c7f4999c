-- A reply at the front of a buffer.
use Rattle.std.proofs.Common.{◌≡◌, ℕ, ◌+◌, List, ◌∷◌, ◌++◌, length, take, Some, None, Ok, Option, refl, ap, ◌∙◌, arith}
use Rattle.std.proofs.lemmas.List.{append_assoc}
use Rattle.std.proofs.Math.Seq.{take-append_seam}
use Rattle.commands.specs.declared.refusal.Refusal.{Refusal}
use Rattle.commands.specs.Refusals.{unless, kept_or}
use Rattle.desk.specs.Answers.{replied, or_refused}

-- what was answered, of a call that some refusal may stop
pub ok_unless : {X : Type 0} (x : Option Refusal) (v y : X) → Ok v ≡ unless x y → (x ≡ None) × (v ≡ y)
ok_unless None v y h = (refl, cc)
ok_unless (Some e) v y h = let z : ◌≡◌ {A = ℕ} 0 1 = cc in absurd (omega arith)

front : (n : ℕ) (head rest : List ℕ) → n ≡ length head → take n (head ++ rest) ≡ head
front n head rest h = ap (λ k. take k (head ++ rest)) h ∙ take-append_seam head rest

read_by : (x : Option Refusal) (n first : ℕ) (answer rest before after tail : List ℕ) → Ok n ≡ unless x (1 + length answer)
    → after ≡ kept_or x before ((first ∷ answer) ++ rest) → replied (take n (after ++ tail)) ≡ or_refused x (replied (first ∷ answer))
read_by None n first answer rest before after tail h is =
    ap (λ b. replied (take n (b ++ tail))) is
    ∙ ap (λ b. replied (take n b)) (append_assoc (first ∷ answer) rest tail)
    ∙ ap replied (front n (first ∷ answer) (rest ++ tail) ((ok_unless None n (1 + length answer) h).1 ∙ omega arith))
read_by (Some e) n first answer rest before after tail h is = let z : ◌≡◌ {A = ℕ} 0 1 = cc in absurd (omega arith)

-- as many bytes as the reply has, of a buffer that begins with it; the call was given so much room of the buffer
pub reply_read : (refusal : ℕ → Option Refusal) (given room n first : ℕ) (answer rest before after tail : List ℕ) → given ≡ room
    → Ok n ≡ unless (refusal given) (1 + length answer) → after ≡ kept_or (refusal given) before ((first ∷ answer) ++ rest)
    → replied (take n (after ++ tail)) ≡ or_refused (refusal room) (replied (first ∷ answer))
reply_read refusal given room n first answer rest before after tail same h is =
    read_by (refusal given) n first answer rest before after tail h is ∙ ap (λ r. or_refused (refusal r) (replied (first ∷ answer))) same
