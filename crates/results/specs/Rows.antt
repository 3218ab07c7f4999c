-- A frame explained field by field.
use Rattle.std.specs.Prelude.{ℕ, zero, suc, ◌+◌, ◌*◌, ◌/◌, ◌%◌, Bool, true, false, cond, List, [], ◌∷◌, ◌++◌, reverse, length, take, Some, None, codes, Option, nat_le, slice_index_or}
use Rattle.checks.specs.Bits.{bits}
use Rattle.words.specs.Numbers.{bytes_shown, digits_shown, decimal_shown}
use Rattle.frames.specs.Packet.{Packet, covered, reading}
use Rattle.requests.specs.declared.lines.Kind.{Kind}
use Rattle.requests.specs.declared.lines.Kind.TheVariants.{Crc8, Crc16}
use Rattle.results.specs.Outcomes.{check_width, check_meaning}

-- the low k bits of n as digits
abbrev pub binary : ℕ → ℕ → List ℕ
binary zero n = []
binary (suc k) n = binary k (n / 2) ++ (48 + n % 2) ∷ []

-- by the first bit of the address
abbrev pub preamble_row : Bool → List ℕ
preamble_row true = codes "     preamble  AA (the address begins with bit 1; 55 where it begins with 0)\n"
preamble_row false = codes "     preamble  55 (the address begins with bit 0; AA where it begins with 1)\n"

abbrev pub address_row : List ℕ → List ℕ
address_row high_first =
    codes "     address   " ++ (digits_shown high_first ++ (codes " (" ++ (decimal_shown (length high_first) ++ codes " bytes, high byte first)\n")))

abbrev pub numbered_row : List ℕ → ℕ → ℕ → List ℕ
numbered_row name n width =
    name ++ (decimal_shown n ++ (codes " (" ++ (decimal_shown width ++ (codes " bits: " ++ (binary width n ++ codes ")\n")))))

abbrev pub no_ack_row : Bool → List ℕ
no_ack_row true = codes "     NO_ACK    1 (1 bit: no acknowledgement is wanted)\n"
no_ack_row false = codes "     NO_ACK    0 (1 bit: an acknowledgement is wanted)\n"

abbrev pub payload_row : List ℕ → List ℕ
payload_row bytes = codes "     payload  " ++ (bytes_shown bytes ++ codes "\n")

abbrev pub check_digits : Kind → ℕ → List ℕ
check_digits Crc8 check = digits_shown (check % 256 ∷ [])
check_digits Crc16 check = digits_shown (check / 256 ∷ check % 256 ∷ [])

abbrev pub check_note : Kind → List ℕ
check_note Crc8 = codes " (8 bits, polynomial 07 from FF, over address, control and payload)\n"
check_note Crc16 = codes " (16 bits, polynomial 1021 from FFFF, over address, control and payload)\n"

abbrev pub check_row : Kind → ℕ → List ℕ
check_row k check = codes "     check     " ++ (check_digits k check ++ check_note k)

-- a frame has 8 times some number and 1 more bits, so 7 are spare
abbrev pub spare_row : List ℕ
spare_row = codes "     spare     7 bits 0 (to fill the last byte)\n"

abbrev pub packet_rows : Kind → Packet → ℕ → List ℕ
packet_rows k p check =
    preamble_row (slice_index_or (bits (reverse p.address)) 0 false)
    ++ (address_row (reverse p.address)
    ++ (numbered_row (codes "     length    ") (length p.payload) 6
    ++ (numbered_row (codes "     PID       ") p.pid 2
    ++ (no_ack_row p.no_ack
    ++ (payload_row p.payload
    ++ (check_row k check
    ++ spare_row))))))

abbrev pub rows_of : Kind → Option Packet → List ℕ
rows_of k (Some p) = packet_rows k p (check_meaning k (covered p))
rows_of k None = []

-- what a reader of addresses of that width finds in the first n bits of these bytes
abbrev pub rows_found : Kind → ℕ → ℕ → List ℕ → List ℕ
rows_found k width n bytes =
    cond (nat_le n (8 * length bytes)) (rows_of k (reading (check_width k) (check_meaning k) width (take n (bits bytes)))) []
