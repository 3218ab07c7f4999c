-- The texts of results.
use Rattle.std.specs.Prelude.{ℕ, Bool, true, false, List, ◌++◌, reverse, codes}
use Rattle.words.specs.Numbers.{bytes_shown, digits_shown, decimal_shown}
use Rattle.frames.specs.Packet.{Packet}
use Rattle.requests.specs.declared.lines.Form.{Form}
use Rattle.requests.specs.declared.lines.Form.TheVariants as form
use Rattle.requests.specs.declared.lines.Cannot.{Cannot}
use Rattle.requests.specs.declared.lines.Cannot.TheVariants.{Word, TooFew, TooMany, PayloadLength, Unit as Unable, CellIsMade, NoCell}
use Rattle.requests.specs.declared.lines.Wanted.{Wanted}
use Rattle.requests.specs.declared.lines.Wanted.TheVariants as want
use Rattle.results.specs.Outcomes.{Outcome, done, frame, heard, nothing, refused, looked_up, absent, said}
use Rattle.desk.specs.declared.answer.Frame.{Frame}
use Rattle.answers.specs.Texts.{frame_text, said_text, lack_text}

abbrev pub no_ack_text : Bool → List ℕ
no_ack_text true = codes " 1"
no_ack_text false = codes " 0"

-- the address high byte first, packet identity, no-acknowledgement, payload
abbrev pub packet_text : Packet → List ℕ
packet_text p =
    codes "ok " ++ (digits_shown (reverse p.address) ++ (codes " " ++ (decimal_shown p.pid ++ (no_ack_text p.no_ack ++ bytes_shown p.payload))))

abbrev pub refusal_text : ℕ → List ℕ
refusal_text n = codes "refused " ++ (decimal_shown n ++ codes " (bits beyond the frame's bytes)")

abbrev pub field_text : List ℕ → List ℕ
field_text bytes = codes "ok" ++ bytes_shown bytes

abbrev pub packed_text : Frame → List ℕ
packed_text x = codes "ok " ++ frame_text x

abbrev pub result_text : Outcome → List ℕ
result_text done = codes "ok"
result_text (frame x) = packed_text x
result_text (heard p) = packet_text p
result_text nothing = codes "ok nothing"
result_text (refused n) = refusal_text n
result_text (looked_up bytes) = field_text bytes
result_text absent = codes "ok absent"
result_text (said s) = said_text s

-- ---- why a line cannot be carried out

abbrev pub usage_text : Form → List ℕ
usage_text form.Kind = codes "kind K"
usage_text form.Pack = codes "pack ADDRESS PID NOACK BYTES"
usage_text form.Read = codes "read WIDTH BITS BYTES"
usage_text form.Bench = codes "bench U"
usage_text form.Load = codes "load U BYTES"
usage_text form.Field = codes "field RR BYTES"
usage_text form.Check = codes "check U"
usage_text form.Box = codes "box U"
usage_text form.Command = codes "command U BYTES or command U /R BYTES"
usage_text form.Ce = codes "ce U 0 or ce U 1"
usage_text form.Irq = codes "irq U"
usage_text form.Tick = codes "tick U or tick U N"
usage_text form.Hear = codes "hear U BITS BYTES"
usage_text form.Make = codes "make"
usage_text form.Carry = codes "carry F or carry F START PATTERN"

abbrev pub wanted_text : Wanted → List ℕ
wanted_text want.Form = codes "a line begins with kind, pack, read, bench, load, field, check, box, command, ce, irq, tick, hear, make or carry"
wanted_text want.Kind = codes "a kind is crc8 or crc16"
wanted_text want.Address = codes "an address is 3 to 5 bytes, 6, 8 or 10 hexadecimal digits together"
wanted_text want.Pid = codes "a PID is 0 to 3"
wanted_text want.NoAck = codes "NOACK is 0 or 1"
wanted_text want.Width = codes "an address is 3 to 5 bytes wide"
wanted_text want.BitCount = codes "a bit count is 0 to 65535"
wanted_text want.Byte = codes "a byte is two hexadecimal digits"
wanted_text want.Label = codes "a unit is 0 to 7"
wanted_text want.Unit = codes "the number of a unit is 0 to 255"
wanted_text want.Register = codes "a register is two hexadecimal digits"
wanted_text want.Room = codes "a reply buffer is /0 to /255"
wanted_text want.Level = codes "a level is 0 or 1"
wanted_text want.Times = codes "a count of ticks is 1 to 65535"
wanted_text want.Fate = codes "a fate is 0 to 255"
wanted_text want.Start = codes "a start bit is 0 to 65535"
wanted_text want.Pattern = codes "a pattern is four hexadecimal digits"

abbrev pub word_text : ℕ → Wanted → List ℕ
word_text word wanted = codes "word " ++ (decimal_shown word ++ (codes ": " ++ wanted_text wanted))

abbrev pub why_text : Cannot → List ℕ
why_text (Word word wanted) = word_text word wanted
why_text (TooFew form) = codes "too few words: " ++ usage_text form
why_text (TooMany form) = codes "too many words: " ++ usage_text form
why_text PayloadLength = codes "over 32 payload bytes"
why_text (Unable u lack) = lack_text u lack
why_text CellIsMade = codes "there is a cell already; a line kind ends it"
why_text NoCell = codes "there is no cell; a line make makes it"

abbrev pub cannot_text : Cannot → List ℕ
cannot_text cannot = codes "cannot (" ++ (why_text cannot ++ codes ")")
