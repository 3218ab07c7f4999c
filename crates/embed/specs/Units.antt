-- One turn of each loop over a unit alone, and the unit before the first.
use Rattle.std.specs.Prelude.{ℕ, ◌+◌, ◌-◌, ◌^◌, min, Bool, true, false, List, [], ◌∷◌, length, replicate, if◌then◌else◌, Result}
use Rattle.std.specs.Fn.{iterate}
use Rattle.std.specs.Result.{result_unwrap_or}
use Rattle.checks.specs.Crc.{crc16}
use Rattle.frames.specs.Packet.{buffer_after}
use Rattle.registers.specs.File.{at_reset}
use Rattle.commands.specs.Decode.{ordered}
use Rattle.commands.specs.Status.{irq_of}
use Rattle.bench.specs.Loading.{load_after}
use Rattle.unit.specs.Boxing.{boxed}
use Rattle.unit.specs.Commanding.{command_after, command_buffer}
use Rattle.unit.specs.Ticking.{tick_answer, tick_after, tick_buffer, ce_after}
use Rattle.unit.specs.Hearing.{hear_answer, hear_after, hear_buffer}
use Rattle.embed.specs.Packing.{packet_given, packed}
use Rattle.embed.specs.declared.repeating.units_again.Ticking.{Ticking}
use Rattle.embed.specs.declared.repeating.units_again.Hearing.{Hearing}
use Rattle.embed.specs.declared.repeating.units_again.Knowing.{Knowing}

-- the bits that were answered, on top of a sum, as far as 64 bits go
abbrev pub added : {E : Type 0} → ℕ → Result ℕ E → ℕ
added sum answer = min (sum + result_unwrap_or answer 0) (2 ^ 64 - 1)

-- ---- ticks

-- a host command, its reply written into the buffer
abbrev pub commanded : List ℕ → Ticking → Ticking
commanded host s = record {
  state = command_after s.state (length s.buffer) (ordered host);
  buffer = command_buffer s.state s.buffer (ordered host);
  sum = s.sum;
}

abbrev pub ticked : Ticking → Ticking
ticked s = record {
  state = tick_after s.state (length s.buffer);
  buffer = tick_buffer 16 crc16 s.state s.buffer;
  sum = added s.sum (tick_answer 16 crc16 s.state (length s.buffer));
}

abbrev pub pin_low : Ticking → Bool
pin_low s = irq_of s.state.core.flags s.state.core.config

abbrev pub ticked_again : Ticking → Ticking
ticked_again s = if pin_low (ticked s) then commanded (0x27 ∷ 0x10 ∷ []) (ticked s) else ticked s

-- a unit of a profile, boxed for the check of 16 bits, with that level of CE
abbrev pub boxed_with : List ℕ → Bool → Ticking
boxed_with profile high = record { state = ce_after high (boxed 16 (load_after profile at_reset)); buffer = replicate 42 0; sum = 0 }

-- and some ticks after that byte was written into CONFIG
unfoldable pub unit_up : List ℕ → ℕ → Bool → ℕ → Ticking
unit_up profile config high ticks = iterate ticked_again ticks (commanded (0x20 ∷ config ∷ []) (boxed_with profile high))

abbrev pub sender : Bool → Ticking
sender high = unit_up (0x00 ∷ 0x00 ∷ 0x00 ∷ 0x11 ∷ 0x0C ∷ 0xFF ∷ []) 0x0E high 213

abbrev pub receiver : Ticking
receiver = unit_up (0x00 ∷ 0x02 ∷ 0x00 ∷ 0x05 ∷ 0x0D ∷ 0x01 ∷ 0x20 ∷ []) 0x0F true 213

abbrev pub sender_writing : Ticking
sender_writing = commanded (0xA0 ∷ 0x5A ∷ []) (sender true)

-- ---- hearing

abbrev pub frame_of : ℕ → List ℕ
frame_of pid = buffer_after (packed 16 (packet_given (replicate 5 0xE7) pid false (replicate 32 0x5A)) 42) (replicate 42 0)

abbrev pub before_knowing : Knowing
before_knowing = record { state = receiver.state; frame = frame_of 1; buffer = receiver.buffer; sum = receiver.sum }

abbrev pub known_again : Knowing → Knowing
known_again s = record {
  state = hear_after 16 crc16 s.state s.frame 329 (length s.buffer);
  frame = s.frame;
  buffer = hear_buffer 16 crc16 s.state s.frame 329 s.buffer;
  sum = added s.sum (hear_answer 16 crc16 s.state s.frame 329 (length s.buffer));
}

abbrev pub before_hearing : Hearing
before_hearing = record { state = receiver.state; frame = frame_of 0; other = frame_of 1; buffer = receiver.buffer; sum = receiver.sum }

abbrev pub heard_again : Hearing → Hearing
heard_again s =
    let state = hear_after 16 crc16 s.state s.frame 329 (length s.buffer) in
    let buffer = hear_buffer 16 crc16 s.state s.frame 329 s.buffer in
    record {
      state = command_after state (length buffer) (ordered (0xE2 ∷ []));
      frame = s.other;
      other = s.frame;
      buffer = command_buffer state buffer (ordered (0xE2 ∷ []));
      sum = added s.sum (hear_answer 16 crc16 s.state s.frame 329 (length s.buffer));
    }
