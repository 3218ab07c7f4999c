-- One turn of each loop over a cell.
use Rattle.std.specs.Prelude.{ℕ, zero, suc, ◌+◌, ◌-◌, ◌%◌, is_some, if◌then◌else◌, ◌==◌, true, replicate, List, [], ◌∷◌, length, slice_index, slice_set}
use Rattle.std.specs.Fn.{iterate}
use Rattle.checks.specs.Crc.{crc16}
use Rattle.cell.specs.declared.parts.Inside.{Inside}
use Rattle.registers.specs.File.{at_reset}
use Rattle.bench.specs.Loading.{load_after}
use Rattle.unit.specs.declared.state.State.{State}
use Rattle.unit.specs.Boxing.{boxed}
use Rattle.cell.specs.Making.{made}
use Rattle.cell.specs.Calls.{leveled, commanded, command_result, command_reply, ticked, carried}
use Rattle.embed.specs.declared.repeating.cells_again.Exchanging.{Exchanging}
use Rattle.embed.specs.declared.repeating.cells_again.Round.{Round}
use Rattle.embed.specs.Units.{added}

-- so many ticks of a unit
unfoldable pub ticks_of : ℕ → ℕ → Inside → Inside
ticks_of unit n c = iterate (λ x. ticked 16 crc16 x unit) n c

-- the senders from 1 on, so many, one after the other
unfoldable pub each : {A : Type 0} → (ℕ → A → A) → ℕ → A → A
each f zero r = r
each f (suc n) r = f (1 + n) (each f n r)

-- ---- a cell

unfoldable pub boxed_of : List ℕ → State
boxed_of profile = boxed 16 (load_after profile at_reset)

abbrev pub receiver_of_six : State
receiver_of_six = boxed_of (0x00 ∷ 0x7E ∷ 0x00 ∷ 0x05 ∷ 0x0D ∷ 0x3F ∷ replicate 6 0x20)

abbrev pub sender_to : ℕ → ℕ → State
sender_to low high =
    boxed_of (0x00 ∷ 0x01 ∷ 0x04 ∷ 0x11 ∷ 0x0C ∷ 0x2F ∷ low ∷ high ∷ high ∷ high ∷ high ∷ low ∷ high ∷ high ∷ high ∷ high ∷ [])

abbrev pub units_of_six : List State
units_of_six =
    receiver_of_six ∷ sender_to 0xE7 0xE7 ∷ sender_to 0xC2 0xC2 ∷ sender_to 0xC3 0xC2 ∷ sender_to 0xC4 0xC2 ∷ sender_to 0xC5 0xC2
    ∷ sender_to 0xC6 0xC2 ∷ []

unfoldable pub powered_up : ℕ → ℕ → ℕ → Inside → Inside
powered_up unit config ticks c = ticks_of unit ticks (commanded (leveled c unit true) unit (0x20 ∷ config ∷ []) 33)

abbrev pub sender_up : ℕ → ℕ → Inside → Inside
sender_up ticks unit c = powered_up unit 0x0E ticks c

unfoldable pub cell_of_six : Inside
cell_of_six = each (sender_up 213) 6 (powered_up 0 0x0F 213 (made units_of_six))

abbrev pub exchanges_in : Inside → Exchanging
exchanges_in c = record { cell = record { inside = c; kind = record {} }; host = 0xA0 ∷ replicate 32 0x5A; reply = replicate 33 0; sum = 0 }

abbrev pub before_exchanges : Exchanging
before_exchanges = exchanges_in cell_of_six

abbrev pub round_in : Inside → ℕ → Round
round_in c every = record {
  cell = record { inside = c; kind = record {} };
  every = every;
  left = 0;
  host = 0xA0 ∷ replicate 32 0x5A;
  reply = replicate 33 0;
  sum = 0;
}

abbrev pub before_round : ℕ → Round
before_round every = round_in cell_of_six every

-- ---- exchanges

abbrev pub exchanged_again : Exchanging → Exchanging
exchanged_again s =
    let sent = ticks_of 1 14 (commanded s.cell.inside 1 s.host (length s.reply)) in
    let replied = command_reply s.cell.inside 1 s.host s.reply in
    let answered = carried 16 crc16 (carried 16 crc16 sent 1 0 0) 1 0 0 in
    record {
      cell = record { inside = commanded answered 0 (0x61 ∷ []) (length replied); kind = record {} };
      host = slice_set s.host 1 ((slice_index s.host 1 + 1) % 256);
      reply = command_reply answered 0 (0x61 ∷ []) replied;
      sum = added s.sum (command_result answered 0 (0x61 ∷ []) (length replied));
    }

-- ---- a round

abbrev pub in_cell : Inside → Round → Round
in_cell c r = record { cell = record { inside = c; kind = record {} }; every = r.every; left = r.left; host = r.host; reply = r.reply; sum = r.sum }

abbrev pub writing : ℕ → Round → Round
writing unit r = record {
  cell = record { inside = commanded r.cell.inside unit r.host (length r.reply); kind = record {} };
  every = r.every;
  left = r.left;
  host = r.host;
  reply = command_reply r.cell.inside unit r.host r.reply;
  sum = r.sum;
}

-- the frame on the air is heard, then its answer, and the receiver's oldest payload is read
abbrev pub delivering : Round → Round
delivering r =
    let answered = carried 16 crc16 (carried 16 crc16 r.cell.inside 1 0 0) 1 0 0 in
    record {
      cell = record { inside = commanded answered 0 (0x61 ∷ []) (length r.reply); kind = record {} };
      every = r.every;
      left = r.left;
      host = r.host;
      reply = command_reply answered 0 (0x61 ∷ []) r.reply;
      sum = added r.sum (command_result answered 0 (0x61 ∷ []) (length r.reply));
    }

abbrev pub ticking : ℕ → Round → Round
ticking unit r =
    let c = ticked 16 crc16 r.cell.inside unit in
    if is_some c.air then delivering (in_cell c r) else in_cell c r

abbrev pub left_at : ℕ → Round → Round
left_at n r = record { cell = r.cell; every = r.every; left = n; host = r.host; reply = r.reply; sum = r.sum }

abbrev pub written_if_due : Round → Round
written_if_due r = if r.left == 0 then (let written = each writing 6 r in left_at (written.every - 1) written) else left_at (r.left - 1) r

abbrev pub round_again : Round → Round
round_again r = each ticking 6 (written_if_due r)
