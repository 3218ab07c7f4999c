-- What a line of the script asks for.
use Rattle.std.specs.Prelude.{◌≡◌, ℕ, ◌+◌, ◌*◌, Bool, cond, List, [], reverse, length, drop, Some, None, Ok, Err, vec_items, codes, Option, Result, ◌==◌, nat_lt, slice_index, slice_index_or}
use Rattle.std.specs.Str.{bytes_eq}
use Rattle.words.specs.Numbers.{within, pair_of, byte_of, together_of, decimal_of}
use Rattle.words.specs.Bytes.{bytes_from}
use Rattle.frames.specs.Packet.{Packet}
use Rattle.frames.specs.Calls.{width_of, packet_of}
use Rattle.requests.specs.declared.lines.Kind.{Kind}
use Rattle.requests.specs.declared.lines.Kind.TheVariants.{Crc8, Crc16}
use Rattle.requests.specs.declared.lines.Form.{Form}
use Rattle.requests.specs.declared.lines.Form.TheVariants as form
use Rattle.requests.specs.declared.label.Label.{Label}
use Rattle.requests.specs.declared.times.Times.{Times}
use Rattle.requests.specs.declared.lines.Line.{Line}
use Rattle.requests.specs.declared.lines.Line.TheVariants as line
use Rattle.requests.specs.declared.lines.UnitLine.{UnitLine}
use Rattle.requests.specs.declared.lines.UnitLine.TheVariants as unit_line
use Rattle.requests.specs.declared.lines.UnitCall.{UnitCall}
use Rattle.requests.specs.declared.lines.UnitCall.TheVariants as unit_call
use Rattle.requests.specs.declared.lines.Cannot.{Cannot}
use Rattle.requests.specs.declared.lines.Cannot.TheVariants.{Word, TooFew, TooMany, PayloadLength}
use Rattle.requests.specs.declared.lines.Wanted.{Wanted}
use Rattle.requests.specs.declared.lines.Wanted.TheVariants as want
use Rattle.requests.specs.declared.lines.Stop.{Stop}
use Rattle.requests.specs.declared.lines.Stop.TheVariants.{Cannot as Unable, Memory}

-- ---- what lines ask for

-- what is asked of the unit under a label
pub data UnitRequest : Type 0 where
  -- a new bench unit in its place
  bench : UnitRequest
  load : List ℕ → UnitRequest
  check : UnitRequest
  box : UnitRequest
  -- the first bits of these bytes, to be heard
  hear : (bits : ℕ) → List ℕ → UnitRequest

-- what is asked of the unit of a number
pub data Call : Type 0 where
  -- a host command, with a reply buffer of so many bytes
  command : (room : ℕ) → List ℕ → Call
  ce : (high : Bool) → Call
  irq : Call
  -- ticks, up to so many
  tick : (times : ℕ) → Call

pub data Request : Type 0 where
  -- the check of what follows
  kind : Kind → Request
  -- a frame that carries this packet
  pack : Packet → Request
  -- what the first bits of these bytes say to a reader of addresses of that width
  read : (width bits : ℕ) → List ℕ → Request
  -- what a profile has for the register at an address
  field : (register : ℕ) → List ℕ → Request
  unit : (label : ℕ) → UnitRequest → Request
  call : (unit : ℕ) → Call → Request
  -- a cell of the boxed units
  make : Request
  -- a fate for the frame on the air
  carry : (fate start pattern : ℕ) → Request

abbrev pub asked_of : UnitLine → UnitRequest
asked_of unit_line.Bench = bench
asked_of (unit_line.Load p) = load (vec_items p)
asked_of unit_line.Check = check
asked_of unit_line.Box = box
asked_of (unit_line.Hear n bs) = hear n (vec_items bs)

abbrev pub count_of : Times → ℕ
count_of t = t.count

abbrev pub called : UnitCall → Call
called (unit_call.Command room bs) = command room (vec_items bs)
called (unit_call.Ce high) = ce high
called unit_call.Irq = irq
called (unit_call.Tick times) = tick (count_of times)

abbrev pub place_of : Label → ℕ
place_of l = l.place

abbrev pub asked : Line → Request
asked (line.Kind k) = kind k
asked (line.Pack f) = pack (packet_of f)
asked (line.Read w n bs) = read (width_of w) n (vec_items bs)
asked (line.Field r p) = field r (vec_items p)
asked (line.Unit l u) = unit (place_of l) (asked_of u)
asked (line.Call u c) = call u (called c)
asked line.Make = make
asked (line.Carry fate start pattern) = carry fate start pattern

-- r is what x says
abbrev pub Means : {X Y : Type 0} → (X → Y) → Result X Cannot → Result Y Cannot → Type 0
Means f (Ok v) x = x ≡ Ok (f v)
Means f (Err e) x = x ≡ Err e

-- r is what x says, unless there was no memory
abbrev pub Gives : {X Y : Type 0} → (X → Y) → Result X Stop → Result Y Cannot → Type 0
Gives f (Ok v) x = x ≡ Ok (f v)
Gives f (Err (Unable e)) x = x ≡ Err e
Gives f (Err Memory) x = Unit {0}

-- what x gives, then what f makes of it
abbrev pub then : {X Y : Type 0} → Result X Cannot → (X → Result Y Cannot) → Result Y Cannot
then (Ok v) f = f v
then (Err e) f = Err e

-- what is there, else that reason
abbrev pub or_else : {X : Type 0} → Option X → Cannot → Result X Cannot
or_else (Some v) e = Ok v
or_else None e = Err e

-- what post has for a number, unless there is none
abbrev pub Makes : {X : Type 0} → (ℕ → Option X → Type 0) → Cannot → Option ℕ → Result X Cannot → Type 0
Makes post e None r = r ≡ Err e
Makes {X} post e (Some n) r = (made : Option X) × post n made × (r ≡ or_else made e)

-- ---- one word

abbrev pub unit_form_named : List ℕ → Option Form
unit_form_named w =
    cond (bytes_eq w (codes "bench")) (Some form.Bench) (
    cond (bytes_eq w (codes "load")) (Some form.Load) (
    cond (bytes_eq w (codes "field")) (Some form.Field) (
    cond (bytes_eq w (codes "check")) (Some form.Check) (
    cond (bytes_eq w (codes "box")) (Some form.Box) (
    cond (bytes_eq w (codes "command")) (Some form.Command) (
    cond (bytes_eq w (codes "ce")) (Some form.Ce) (
    cond (bytes_eq w (codes "irq")) (Some form.Irq) (
    cond (bytes_eq w (codes "tick")) (Some form.Tick) (
    cond (bytes_eq w (codes "hear")) (Some form.Hear) (
    cond (bytes_eq w (codes "make")) (Some form.Make) (
    cond (bytes_eq w (codes "carry")) (Some form.Carry) None)))))))))))

abbrev pub form_named : List ℕ → Option Form
form_named w =
    cond (bytes_eq w (codes "kind")) (Some form.Kind) (
    cond (bytes_eq w (codes "pack")) (Some form.Pack) (
    cond (bytes_eq w (codes "read")) (Some form.Read) (unit_form_named w)))

abbrev pub kind_named : List ℕ → Result Kind Cannot
kind_named w = cond (bytes_eq w (codes "crc8")) (Ok Crc8) (cond (bytes_eq w (codes "crc16")) (Ok Crc16) (Err (Word 2 want.Kind)))

-- 3 to 5 bytes written together, high byte first; kept low byte first
abbrev pub as_address : Option (List ℕ) → Option (List ℕ)
as_address (Some bs) = cond (within 3 5 (length bs)) (Some (reverse bs)) None
as_address None = None

abbrev pub address_of : List ℕ → Option (List ℕ)
address_of w = as_address (together_of w)

-- a decimal number from low to high
abbrev pub number_in : ℕ → ℕ → Cannot → Option ℕ → Result ℕ Cannot
number_in low high e (Some n) = cond (within low high n) (Ok n) (Err e)
number_in low high e None = Err e

abbrev pub pid_of : List ℕ → Result ℕ Cannot
pid_of w = number_in 0 3 (Word 3 want.Pid) (decimal_of w)

-- 0 or 1
abbrev pub bit_of : ℕ → Wanted → List ℕ → Result Bool Cannot
bit_of place wanted w = then (number_in 0 1 (Word place wanted) (decimal_of w)) (λ n. Ok (n == 1))

abbrev pub no_ack_of : List ℕ → Result Bool Cannot
no_ack_of w = bit_of 4 want.NoAck w

abbrev pub width_number : List ℕ → Result ℕ Cannot
width_number w = number_in 3 5 (Word 2 want.Width) (decimal_of w)

abbrev pub bit_count : List ℕ → Result ℕ Cannot
bit_count w = number_in 0 65535 (Word 3 want.BitCount) (decimal_of w)

abbrev pub label_of : List ℕ → Result ℕ Cannot
label_of w = number_in 0 7 (Word 2 want.Label) (decimal_of w)

abbrev pub unit_of : List ℕ → Result ℕ Cannot
unit_of w = number_in 0 255 (Word 2 want.Unit) (decimal_of w)

abbrev pub level_of : List ℕ → Result Bool Cannot
level_of w = bit_of 3 want.Level w

abbrev pub times_of : List ℕ → Result ℕ Cannot
times_of w = number_in 1 65535 (Word 3 want.Times) (decimal_of w)

abbrev pub fate_of : List ℕ → Result ℕ Cannot
fate_of w = number_in 0 255 (Word 2 want.Fate) (decimal_of w)

abbrev pub start_of : List ℕ → Result ℕ Cannot
start_of w = number_in 0 65535 (Word 3 want.Start) (decimal_of w)

abbrev pub joined : Option ℕ → Option ℕ → Option ℕ
joined None l = None
joined (Some h) None = None
joined (Some h) (Some l) = Some (256 * h + l)

-- four hexadecimal digits, the high one first
abbrev pub four_digits : List ℕ → Option ℕ
four_digits w = cond (length w == 4) (joined (pair_of (slice_index w 0) (slice_index w 1)) (pair_of (slice_index w 2) (slice_index w 3))) None

abbrev pub pattern_of : List ℕ → Result ℕ Cannot
pattern_of w = or_else (four_digits w) (Word 4 want.Pattern)

abbrev pub register_of : List ℕ → Result ℕ Cannot
register_of w = or_else (byte_of w) (Word 2 want.Register)

abbrev pub room_number : List ℕ → Result ℕ Cannot
room_number w = number_in 0 255 (Word 3 want.Room) (decimal_of w)

abbrev pub room_behind : ℕ → List ℕ → Result (Option ℕ) Cannot
room_behind first digits = cond (first == 47) (then (room_number digits) (λ n. Ok (Some n))) (Ok None)

-- the room for a reply, if the word begins with '/'
abbrev pub room_of : List ℕ → Result (Option ℕ) Cannot
room_of w = room_behind (slice_index w 0) (drop 1 w)

-- ---- the words of a line

abbrev pub word_at : List (List ℕ) → ℕ → List ℕ
word_at ws i = slice_index_or ws i []

abbrev pub as_bytes : Result (List ℕ) ℕ → Result (List ℕ) Cannot
as_bytes (Ok bs) = Ok bs
as_bytes (Err n) = Err (Word n want.Byte)

-- the words from a place on, each a byte
abbrev pub bytes_at : List (List ℕ) → ℕ → Result (List ℕ) Cannot
bytes_at ws i = as_bytes (bytes_from i (drop i ws))

abbrev pub at_least : {X : Type 0} → ℕ → Form → List (List ℕ) → Result X Cannot → Result X Cannot
at_least k form ws x = cond (nat_lt (length ws) k) (Err (TooFew form)) x

abbrev pub at_most : {X : Type 0} → ℕ → Form → List (List ℕ) → Result X Cannot → Result X Cannot
at_most k form ws x = cond (nat_lt k (length ws)) (Err (TooMany form)) x

-- kind K
abbrev pub kind_line : List (List ℕ) → Result Request Cannot
kind_line ws = at_least 2 form.Kind ws (at_most 2 form.Kind ws (then (kind_named (word_at ws 1)) (λ k. Ok (kind k))))

-- pack ADDRESS PID NOACK BYTES
abbrev pub pack_line : List (List ℕ) → Result Request Cannot
pack_line ws =
    at_least 4 form.Pack ws
    (then (or_else (address_of (word_at ws 1)) (Word 2 want.Address)) (λ a.
    then (pid_of (word_at ws 2)) (λ p.
    then (no_ack_of (word_at ws 3)) (λ n.
    then (bytes_at ws 4) (λ bs.
    cond (nat_lt 32 (length bs)) (Err PayloadLength) (Ok (pack (record { address = a; pid = p; no_ack = n; payload = bs }))))))))

-- read WIDTH BITS BYTES
abbrev pub read_line : List (List ℕ) → Result Request Cannot
read_line ws =
    at_least 3 form.Read ws
    (then (width_number (word_at ws 1)) (λ w.
    then (bit_count (word_at ws 2)) (λ n.
    then (bytes_at ws 3) (λ bs. Ok (read w n bs)))))

-- bench U, check U, box U
abbrev pub plain_line : Form → UnitRequest → List (List ℕ) → Result Request Cannot
plain_line form q ws = at_least 2 form ws (at_most 2 form ws (then (label_of (word_at ws 1)) (λ u. Ok (unit u q))))

-- field RR BYTES
abbrev pub field_line : List (List ℕ) → Result Request Cannot
field_line ws = at_least 2 form.Field ws (then (register_of (word_at ws 1)) (λ r. then (bytes_at ws 2) (λ p. Ok (field r p))))

-- load U BYTES
abbrev pub load_line : List (List ℕ) → Result Request Cannot
load_line ws = at_least 2 form.Load ws (then (label_of (word_at ws 1)) (λ u. then (bytes_at ws 2) (λ p. Ok (unit u (load p)))))

-- hear U BITS BYTES
abbrev pub hear_line : List (List ℕ) → Result Request Cannot
hear_line ws =
    at_least 3 form.Hear ws
    (then (label_of (word_at ws 1)) (λ u. then (bit_count (word_at ws 2)) (λ n. then (bytes_at ws 3) (λ bs. Ok (unit u (hear n bs))))))

-- 33 bytes for the reply where the line says nothing of it
abbrev pub command_with : List (List ℕ) → ℕ → Option ℕ → Result Request Cannot
command_with ws u (Some room) = then (bytes_at ws 3) (λ bs. Ok (call u (command room bs)))
command_with ws u None = then (bytes_at ws 2) (λ bs. Ok (call u (command 33 bs)))

-- command U BYTES, command U /R BYTES
abbrev pub command_line : List (List ℕ) → Result Request Cannot
command_line ws = at_least 2 form.Command ws (then (unit_of (word_at ws 1)) (λ u. then (room_of (word_at ws 2)) (command_with ws u)))

-- ce U 0, ce U 1
abbrev pub ce_line : List (List ℕ) → Result Request Cannot
ce_line ws =
    at_least 3 form.Ce ws (at_most 3 form.Ce ws (then (unit_of (word_at ws 1)) (λ u. then (level_of (word_at ws 2)) (λ b. Ok (call u (ce b))))))

-- irq U
abbrev pub irq_line : List (List ℕ) → Result Request Cannot
irq_line ws = at_least 2 form.Irq ws (at_most 2 form.Irq ws (then (unit_of (word_at ws 1)) (λ u. Ok (call u irq))))

-- one tick where the line says nothing of their number
abbrev pub times_at : List (List ℕ) → Result ℕ Cannot
times_at ws = cond (length ws == 2) (Ok 1) (times_of (word_at ws 2))

-- tick U, tick U N
abbrev pub tick_line : List (List ℕ) → Result Request Cannot
tick_line ws =
    at_least 2 form.Tick ws (at_most 3 form.Tick ws (then (unit_of (word_at ws 1)) (λ u. then (times_at ws) (λ n. Ok (call u (tick n))))))

-- make
abbrev pub make_line : List (List ℕ) → Result Request Cannot
make_line ws = at_most 1 form.Make ws (Ok make)

abbrev pub carry_with : List (List ℕ) → ℕ → Result Request Cannot
carry_with ws n =
    cond (length ws == 2) (Ok (carry n 0 0)) (then (start_of (word_at ws 2)) (λ s. then (pattern_of (word_at ws 3)) (λ p. Ok (carry n s p))))

-- carry F, carry F START PATTERN; start bit and pattern are 0 where the line says nothing of them
abbrev pub carry_line : List (List ℕ) → Result Request Cannot
carry_line ws =
    at_least 2 form.Carry ws (cond (length ws == 3) (Err (TooFew form.Carry)) (at_most 4 form.Carry ws (then (fate_of (word_at ws 1)) (carry_with ws))))

abbrev pub line_as : Option Form → List (List ℕ) → Result Request Cannot
line_as (Some form.Kind) ws = kind_line ws
line_as (Some form.Pack) ws = pack_line ws
line_as (Some form.Read) ws = read_line ws
line_as (Some form.Field) ws = field_line ws
line_as (Some form.Bench) ws = plain_line form.Bench bench ws
line_as (Some form.Check) ws = plain_line form.Check check ws
line_as (Some form.Box) ws = plain_line form.Box box ws
line_as (Some form.Load) ws = load_line ws
line_as (Some form.Hear) ws = hear_line ws
line_as (Some form.Command) ws = command_line ws
line_as (Some form.Ce) ws = ce_line ws
line_as (Some form.Irq) ws = irq_line ws
line_as (Some form.Tick) ws = tick_line ws
line_as (Some form.Make) ws = make_line ws
line_as (Some form.Carry) ws = carry_line ws
line_as None ws = Err (Word 1 want.Form)

-- what a line asks for, or why it cannot be carried out: of the reasons that apply the one that the leftmost word gives,
-- after a wrong number of words
abbrev pub line_of : List (List ℕ) → Result Request Cannot
line_of ws = line_as (form_named (word_at ws 0)) ws
