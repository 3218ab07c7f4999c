-- The calls' contracts.
use Rattle.std.specs.Prelude.{◌≡◌, ℕ, ◌*◌, ◌<◌, ◌≤◌, min, Bool, List, ◌++◌, length, take, drop, replicate, Some, None, Ok, Err, Option, Result, MatchResult, codes}
use Rattle.std.proofs.Math.Nat.{min-le_right}
use Rattle.checks.specs.Bits.{bits}
use Rattle.frames.specs.declared.fields.Address.{Address}
use Rattle.frames.specs.declared.fields.AddressWidth.{AddressWidth}
use Rattle.frames.specs.declared.fields.AddressWidth.TheVariants as width
use Rattle.frames.specs.declared.fields.Pid.{Pid}
use Rattle.frames.specs.declared.fields.Pid.TheVariants as pid
use Rattle.frames.specs.declared.fields.OutOfRange.{OutOfRange}
use Rattle.frames.specs.declared.fields.Payload.{Payload}
use Rattle.frames.specs.declared.fields.Fields.{Fields}
use Rattle.frames.specs.declared.fields.Heard.{Heard}
use Rattle.frames.specs.declared.fields.Refusal.{Refusal}
use Rattle.frames.specs.declared.fields.Refusal.TheVariants.{FrameBytes}
use Rattle.frames.specs.Packet.{Packet, Valid, covered, frame_bits, buffer_after, reading}

-- ---- what the types mean

abbrev pub width_of : AddressWidth → ℕ
width_of width.Three = 3
width_of width.Four = 4
width_of width.Five = 5

abbrev pub pid_number : Pid → ℕ
pid_number pid.Zero = 0
pid_number pid.One = 1
pid_number pid.Two = 2
pid_number pid.Three = 3

abbrev pub next_pid : Pid → Pid
next_pid pid.Zero = pid.One
next_pid pid.One = pid.Two
next_pid pid.Two = pid.Three
next_pid pid.Three = pid.Zero

-- low byte first
abbrev pub address_bytes : Address → List ℕ
address_bytes a = take (width_of a.wide) a.held

abbrev pub payload_bytes : Payload → List ℕ
payload_bytes p = take p.len p.held

-- the payload of some bytes, 0 behind them; of more than 32 it keeps the first 32
abbrev pub payload_of : List ℕ → Payload
payload_of bs = record { held = bs ++ drop (length bs) (replicate 32 0); len = min (length bs) 32; fits = min-le_right (length bs) 32 }

abbrev pub packet_of : Fields → Packet
packet_of f = record {
  address = address_bytes f.address;
  pid = pid_number f.pid;
  no_ack = f.no_ack;
  payload = payload_bytes f.payload;
}

-- the number under which a refusal is reported
abbrev pub refusal_number : Refusal → ℕ
refusal_number FrameBytes = 18

-- what is said of a refusal
abbrev pub refusal_reason : Refusal → List ℕ
refusal_reason FrameBytes = codes "bits beyond the frame's bytes"

-- ---- conversions

-- the width of so many bytes: there are 3, 4 or 5
abbrev pub WidthOrNone : ℕ → Result AddressWidth OutOfRange → Type 0
WidthOrNone bytes r = MatchResult r (λ w. width_of w ≡ bytes) (λ _. 3 ≤ bytes → bytes ≤ 5 → ⊥)

-- the packet identity of a number below 4
abbrev pub PidOrNone : ℕ → Result Pid OutOfRange → Type 0
PidOrNone number r = MatchResult r (λ p. pid_number p ≡ number) (λ _. 4 ≤ number)

-- ---- packing

-- With room for the longest frame the answer is the frame's bit count, the buffer begins with the frame, and its later bytes stay;
-- else the call is refused and the buffer is as before.
abbrev pub Packed : ℕ → (List Bool → ℕ) → Packet → List ℕ → Result ℕ Refusal → List ℕ → Type 0
Packed w f s before (Ok n) after =
    (42 ≤ length before) × (n ≡ length (frame_bits w f s)) × (after ≡ buffer_after (frame_bits w f s) before)
Packed w f s before (Err e) after = (refusal_number e ≡ 18) × (length before < 42) × (after ≡ before)

-- ---- reading

abbrev pub heard_packet : Option Heard → Option Packet
heard_packet None = None
heard_packet (Some h) = Some (packet_of h.fields)

-- the check that was heard is that of the packet, and the payload is 0 behind its bytes
abbrev pub Checked : (List Bool → ℕ) → Option Heard → Type 0
Checked f None = Unit {0}
Checked f (Some h) = (h.check ≡ f (covered (packet_of h.fields))) × (h.fields.payload ≡ payload_of (payload_bytes h.fields.payload))

abbrev pub Reads : ℕ → (List Bool → ℕ) → ℕ → List ℕ → ℕ → Result (Option Heard) Refusal → Type 0
Reads w f width frame n (Ok r) = (n ≤ 8 * length frame) × (heard_packet r ≡ reading w f width (take n (bits frame))) × Checked f r
Reads w f width frame n (Err e) = (refusal_number e ≡ 18) × (8 * length frame < n)

-- s is read exactly if, preamble aside, its frame has these bits
abbrev pub Exactly : ℕ → (List Bool → ℕ) → ℕ → List Bool → Option Packet → Type 0
Exactly w f width xs r =
    (s : Packet) → (r ≡ Some s → Valid width s × (drop 8 xs ≡ drop 8 (frame_bits w f s)))
    × (Valid width s → drop 8 xs ≡ drop 8 (frame_bits w f s) → r ≡ Some s)

abbrev pub Exact : ℕ → (List Bool → ℕ) → ℕ → List ℕ → ℕ → Result (Option Heard) Refusal → Type 0
Exact w f width frame n (Ok r) = Exactly w f width (take n (bits frame)) (heard_packet r)
Exact w f width frame n (Err e) = Unit {0}

-- with room for a frame the packet comes back
abbrev pub ReadsBack : Packet → ℕ → Result (Option Heard) Refusal → Type 0
ReadsBack s room (Ok r) = (42 ≤ room) × (heard_packet r ≡ Some s)
ReadsBack s room (Err e) = (refusal_number e ≡ 18) × (room < 42)
