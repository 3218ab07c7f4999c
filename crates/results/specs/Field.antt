-- The bytes of a field, apart from the profile.
use Rattle.std.specs.Prelude.{ℕ, List, take}
use Rattle.results.specs.declared.field.FieldBytes.{FieldBytes}

abbrev pub field_bytes : FieldBytes → List ℕ
field_bytes f = take f.len f.held
