use Rattle.std.proofs.Common.{◌≡◌, ℕ, List, [], ◌∷◌, ◌++◌, length, drop, codes, refl, ap, ◌∙◌}
use Rattle.std.proofs.Output.{has_written_append, has_written_of_eq}
use Rattle.words.specs.Numbers.{bytes_shown}
use Rattle.registers.specs.Address.{address_of}
use Rattle.registers.specs.Table.{name_of}
use Rattle.answers.specs.Profiles.{blanks, register_row}
use Rattle.answers.proofs.profiles.write_row.Goals as goal

pub returns : goal.returns
returns g c = λ plain ok.
    let bytes = c.args.bytes.now in
    let r = c.args.register in
    let w1 = c.in_ok-write_str.ensures.writes plain refl in
    let w2 = c.in_ok-fmt.ensures.writes w1.plain refl in
    let w3 = c.in_ok-write_str-2.ensures.writes w2.plain refl in
    let w4 = c.in_ok-write_str-3.ensures.writes w3.plain refl in
    let w5 = c.in_ok-write_str-4.ensures.writes w4.plain refl in
    let w6 = c.in_ok-fmt-2.ensures.writes w5.plain refl in
    let w7 = c.write_str-5.ensures.writes w6.plain ok in
    let row : ℕ → List ℕ → List ℕ → List ℕ = λ a name rest.
    codes "    " ++ (bytes_shown (a ∷ []) ++ (codes " " ++ (name ++ (rest ++ (bytes_shown bytes ++ codes "\n"))))) in
    let named = c.name-name.ensures in
    let column = c.rest_of_column.ensures ∙ ap (λ n. drop (length n) blanks) named in
    let same : row c.address.result c.name-name.result.now c.rest_of_column.result.now ≡ register_row r bytes =
    ap (λ a. row a c.name-name.result.now c.rest_of_column.result.now) c.address.ensures.value
    ∙ ap (λ n. row (address_of r) n c.rest_of_column.result.now) named
    ∙ ap (row (address_of r) (name_of r)) column in
    has_written_of_eq _ _ _ _ _ same
    (has_written_append _ _ _ _ _ _ w1
    (has_written_append _ _ _ _ _ _ w2
    (has_written_append _ _ _ _ _ _ w3 (has_written_append _ _ _ _ _ _ w4 (has_written_append _ _ _ _ _ _ w5 (has_written_append _ _ _ _ _ _ w6 w7))))))
