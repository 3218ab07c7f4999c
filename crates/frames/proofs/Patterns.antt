-- The damage law by patterns of 16 bits.
use Rattle.std.proofs.Common.{◌≡◌, ℕ, ◌-◌, ◌/◌, ◌%◌, ◌^◌, ◌<◌, Bool, ◌⊎◌, List, sym, subst, inl, inr, arith}
use Rattle.checks.specs.Bits.{word}
use Rattle.checks.specs.Burst.{Burst}
use Rattle.checks.specs.Places.{length_word}
use Rattle.frames.specs.Packet.{frame_bits}
use Rattle.frames.specs.Damage.{UnharmedOrDropped, PatternShows}
use Rattle.frames.proofs.Spoil.{damage_shows}
use Rattle.frames.proofs.Turn.{top_half}

module _ (f : List Bool → ℕ) (w : ℕ) (wide : (w ≡ 8) ⊎ (w ≡ 16)) (below : (s : List Bool) → f s < 2 ^ w) (law : Burst w f) where
  pub pattern_shows : PatternShows w f
  pattern_shows width s start p ok e =
      elim wide [
        | inl q ↦
            subst (UnharmedOrDropped w f width s) (sym (top_half (frame_bits w f s) start p (subst (λ (z : ℕ). p % 2 ^ (16 - z) ≡ 0) q e)))
            (damage_shows w f below law width s start (word 8 (p / 256)) ok (omega (arith, length_word 8 (p / 256), q)))
        | inr q ↦ damage_shows w f below law width s start (word 16 p) ok (omega (arith, length_word 16 p, q))
      ]
