-- A packed frame is read back.
use Rattle.std.proofs.Common.{◌≡◌, ℕ, ◌^◌, ◌<◌, ◌≤◌, Bool, List, length, take, Some, Ok, Err, Option, Result, ap, ◌∙◌, ap₂, arith}
use Rattle.checks.specs.Bits.{bits}
use Rattle.frames.specs.declared.fields.Heard.{Heard}
use Rattle.frames.specs.declared.fields.Refusal.{Refusal}
use Rattle.frames.specs.Packet.{Packet, Valid, frame_bits, buffer_after, reading}
use Rattle.frames.specs.Calls.{Reads, ReadsBack}
use Rattle.frames.proofs.Lay.{laid_front, length_laid}
use Rattle.frames.proofs.Parse.{after_preamble, reads_all}

pub reads_back : (f : List Bool → ℕ) (w : ℕ) → ((s : List Bool) → f s < 2 ^ w) → (width : ℕ) (s : Packet) → Valid width s
    → reading w f width (frame_bits w f s) ≡ Some s
reads_back f w below width s ok = reads_all f w below width (frame_bits w f s) s ok (after_preamble w f s)

pub echoes :
    (f : List Bool → ℕ) (w : ℕ) → ((s : List Bool) → f s < 2 ^ w) → (width : ℕ) (s : Packet) (before after : List ℕ) (n : ℕ) (r : Result (Option Heard) Refusal)
    → Valid width s → 42 ≤ length before → n ≡ length (frame_bits w f s) → after ≡ buffer_after (frame_bits w f s) before
    → Reads w f width after n r → ReadsBack s (length before) r
echoes f w below width s before after n (Ok r) ok room e q h = (
  room,
  h.1 ∙ ap (reading w f width) (ap₂ (λ (m : ℕ) (xs : List ℕ). take m (bits xs)) e q ∙ laid_front (frame_bits w f s) before)
      ∙ reads_back f w below width s ok,
)
echoes f w below width s before after n (Err r) ok room e q h =
    absurd (omega (arith, h.1, e, ap length q, length_laid (frame_bits w f s) before))
