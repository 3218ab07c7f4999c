-- A profile that was read.
use Rattle.std.specs.Prelude.{◌≡◌, ℕ, true, false, List, Result, MatchResult}
use Rattle.commands.specs.declared.refusal.Refusal.{Refusal}
use Rattle.commands.specs.declared.refusal.Refusal.TheVariants as refused
use Rattle.profile.specs.declared.reading.Profile.{Profile}
use Rattle.profile.specs.Profile.{sound}

-- the bytes that it was read from
abbrev pub bytes_of : Profile → List ℕ
bytes_of p = p.bytes.now

-- sound bytes give the profile that they are, and no others give one
abbrev pub Reads : List ℕ → Result Profile Refusal → Type 0
Reads bytes answer =
    MatchResult answer (λ p. (bytes_of p ≡ bytes) × (sound bytes ≡ true)) (λ e. (e ≡ refused.Profile) × (sound bytes ≡ false))
