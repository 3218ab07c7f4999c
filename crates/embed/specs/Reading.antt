-- What a reading answers to C.
use Rattle.std.specs.Prelude.{ℕ, ◌*◌, Bool, false, ◌&&◌, List, ◌++◌, length, take, drop, replicate, if◌then◌else◌, Some, None, Option, ◌==◌, nat_le}
use Rattle.checks.specs.Bits.{bits}
use Rattle.checks.specs.Crc.{crc8, crc16}
use Rattle.frames.specs.Packet.{Packet, covered, reading}
use Rattle.embed.specs.declared.reading.PacketRead.{PacketRead}
use Rattle.embed.specs.declared.reading.Outcome.{Outcome}
use Rattle.embed.specs.declared.reading.Outcome.TheVariants as said

abbrev pub outcome_number : Outcome → ℕ
outcome_number said.Nothing = 0
outcome_number said.Packet = 1
outcome_number said.Refused = 18
outcome_number said.NoCall = 255

-- nothing was read yet
abbrev pub no_packet : PacketRead
no_packet = record { check = 0; pid = 0; no_ack = false; length = 0; address = replicate 5 0; payload = replicate 32 0 }

-- a packet and its check, as C has them
abbrev pub shown : ℕ → Packet → PacketRead
shown check p = record {
  check = check;
  pid = p.pid;
  no_ack = p.no_ack;
  length = length p.payload;
  address = p.address ++ drop (length p.address) (replicate 5 0);
  payload = p.payload ++ drop (length p.payload) (replicate 32 0);
}

-- ---- what is said of so many bits of those that are there, by what they read as

abbrev pub found : Option Packet → Outcome
found None = said.Nothing
found (Some p) = said.Packet

abbrev pub outcome_of : ℕ → ℕ → Option Packet → Outcome
outcome_of there n r = if nat_le n there then found r else said.Refused

-- with the check's meaning f
abbrev pub written : (List Bool → ℕ) → PacketRead → Option Packet → PacketRead
written f before None = before
written f before (Some p) = shown (f (covered p)) p

abbrev pub after : (List Bool → ℕ) → PacketRead → ℕ → ℕ → Option Packet → PacketRead
after f before there n r = if nat_le n there then written f before r else before

-- ---- by kind and width

abbrev pub is_width : ℕ → Bool
is_width width = nat_le 3 width && nat_le width 5

abbrev pub outcome : ℕ → ℕ → List ℕ → ℕ → Outcome
outcome kind width bytes n =
    if is_width width
    then (if kind == 8 then outcome_of (8 * length bytes) n (reading 8 crc8 width (take n (bits bytes)))
    else (if kind == 16 then outcome_of (8 * length bytes) n (reading 16 crc16 width (take n (bits bytes))) else said.NoCall))
    else said.NoCall

abbrev pub packet_after : PacketRead → ℕ → ℕ → List ℕ → ℕ → PacketRead
packet_after before kind width bytes n =
    if is_width width
    then (if kind == 8 then after crc8 before (8 * length bytes) n (reading 8 crc8 width (take n (bits bytes)))
    else (if kind == 16 then after crc16 before (8 * length bytes) n (reading 16 crc16 width (take n (bits bytes))) else before))
    else before
