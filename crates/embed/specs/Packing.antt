-- What a packing writes for C.
use Rattle.std.specs.Prelude.{ℕ, Bool, ◌&&◌, List, [], length, if◌then◌else◌, ◌==◌, nat_le, nat_lt}
use Rattle.checks.specs.Crc.{crc8, crc16}
use Rattle.frames.specs.Packet.{Packet, frame_bits}

-- the address is low byte first
abbrev pub packet_given : List ℕ → ℕ → Bool → List ℕ → Packet
packet_given address pid no_ack payload = record { address = address; pid = pid; no_ack = no_ack; payload = payload }

-- a frame can carry it
abbrev pub carried : Packet → Bool
carried p = (nat_le 3 (length p.address) && nat_le (length p.address) 5) && (nat_lt p.pid 4 && nat_le (length p.payload) 32)

-- the bits of the frame with the check of that width; none where nothing is packed
abbrev pub packed : ℕ → Packet → ℕ → List Bool
packed kind p room =
    if carried p && nat_le 42 room
    then (if kind == 8 then frame_bits 8 crc8 p else (if kind == 16 then frame_bits 16 crc16 p else []))
    else []
