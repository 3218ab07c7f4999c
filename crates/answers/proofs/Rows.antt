-- The lines of a profile, one after another.
use Rattle.std.proofs.Common.{◌≡◌, ℕ, ◌+◌, ◌<◌, true, cond, List, [], ◌++◌, length, get_or, take, Ok, Err, Option, sym, ap, ◌∙◌}
use Rattle.std.specs.List.{flat_map}
use Rattle.std.proofs.lemmas.List.{take_more, flat_map_more}
use Rattle.registers.specs.declared.register.Register.{Register}
use Rattle.registers.specs.Address.{address_of}
use Rattle.commands.specs.declared.refusal.Refusal.TheVariants.{Profile}
use Rattle.profile.specs.Profile.{sound, field_of}
use Rattle.answers.specs.Profiles.{row_by, row_of, rows_of}

-- one line more
pub row_more : (p : List ℕ) (rs : List Register) (i : ℕ) (d : Register) → i < length rs → rows_of p (take i rs) ++ row_of p (get_or rs i d) ≡ rows_of p (take (i + 1) rs)
row_more p rs i d h = flat_map_more (row_of p) [] (take i rs) (get_or rs i d) ∙ ap (flat_map (row_of p)) (sym (take_more rs i d h))

-- what the bytes of a sound profile have for a register
pub row_is : (q p : List ℕ) (r : Register) (part : Option (List ℕ)) → q ≡ p → sound p ≡ true → part ≡ field_of q (address_of r) → row_by r (Ok part) ≡ row_of p r
row_is q p r part same is e =
    ap (λ x. row_by r (Ok x)) (e ∙ ap (λ l. field_of l (address_of r)) same)
    ∙ sym (ap (λ b. row_by r (cond b (Ok (field_of p (address_of r))) (Err Profile))) is)
