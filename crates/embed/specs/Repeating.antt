-- One turn of each loop that measures, and what is there before the first.
use Rattle.std.specs.Prelude.{ℕ, ◌+◌, ◌%◌, Bool, false, List, length, take, replicate, slice_index, slice_set}
use Rattle.checks.specs.Bits.{bits}
use Rattle.checks.specs.Crc.{crc8, crc16}
use Rattle.frames.specs.Packet.{buffer_after}
use Rattle.embed.specs.Packing.{packet_given, packed}
use Rattle.embed.specs.Reading.{no_packet, packet_after}
use Rattle.embed.specs.declared.repeating.checks_again.Checking8.{Checking8}
use Rattle.embed.specs.declared.repeating.checks_again.Checking16.{Checking16}
use Rattle.embed.specs.declared.repeating.frames_again.Packing.{Packing}
use Rattle.embed.specs.declared.repeating.frames_again.Reading.{Reading}

-- ---- checks

abbrev pub before_checks8 : Checking8
before_checks8 = record { bytes = replicate 42 0x5A; check = 0 }

abbrev pub checked8 : Checking8 → Checking8
checked8 s = let check = crc8 (take 321 (bits s.bytes)) in record { bytes = slice_set s.bytes 0 check; check = check }

abbrev pub before_checks16 : Checking16
before_checks16 = record { bytes = replicate 42 0x5A; check = 0 }

abbrev pub checked16 : Checking16 → Checking16
checked16 s = let check = crc16 (take 321 (bits s.bytes)) in record { bytes = slice_set s.bytes 0 (check % 256); check = check }

-- ---- frames

abbrev pub frame_again : ℕ → List ℕ → List ℕ → List Bool
frame_again kind payload frame = packed kind (packet_given (replicate 5 0xE7) 1 false payload) (length frame)

abbrev pub before_packing : ℕ → Packing
before_packing kind = record { kind = kind; payload = replicate 32 0x5A; frame = replicate 42 0 }

abbrev pub packed_again : Packing → Packing
packed_again s =
    let frame = buffer_after (frame_again s.kind s.payload s.frame) s.frame in
    record { kind = s.kind; payload = slice_set s.payload 0 (slice_index frame 39); frame = frame }

abbrev pub before_reading : ℕ → Reading
before_reading kind =
    let frame = frame_again kind (replicate 32 0x5A) (replicate 42 0) in
    record { kind = kind; bits = length frame; frame = buffer_after frame (replicate 42 0); packet = no_packet }

abbrev pub read_again : Reading → Reading
read_again s =
    let packet = packet_after s.packet s.kind 5 s.frame s.bits in
    record {
      kind = s.kind;
      bits = s.bits;
      frame = slice_set s.frame 0 ((slice_index s.frame 0 + slice_index packet.payload 31) % 256);
      packet = packet;
    }
