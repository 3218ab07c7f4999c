-- What the calls on a cell came to.
use Rattle.std.specs.Prelude.{ℕ, ◌+◌, ◌-◌, ◌/◌, ◌%◌, ◌^◌, min, List, replicate, Ok, Err, Result, slice_index, slice_set}
use Rattle.commands.specs.declared.refusal.Refusal.{Refusal}
use Rattle.commands.specs.Decode.{Order, read_register, write_register, write_payload, read_payload, flush_tx, flush_rx, nop}
use Rattle.desk.specs.declared.counts.Counts.{Counts}

abbrev pub no_counts : Counts
no_counts = record { written = replicate 7 0; flushed = replicate 7 0; given_up = replicate 7 0; read = replicate 6 0 }

-- n more at a place, as far as 64 bits go
abbrev pub added : List ℕ → ℕ → ℕ → List ℕ
added xs place n = slice_set xs place (min (slice_index xs place + n) (2 ^ 64 - 1))

-- the unit accepted a host command, of whose payloads so many waited before it, with that reply: a payload that was written,
-- those that were flushed, or one that was read, on the pipe that the reply's STATUS names
abbrev pub after_command : Counts → ℕ → Result Order Refusal → ℕ → List ℕ → Counts
after_command c u (Err e) waiting reply = c
after_command c u (Ok (read_register r d)) waiting reply = c
after_command c u (Ok (write_register r d)) waiting reply = c
after_command c u (Ok (write_payload d)) waiting reply =
    record { written = added c.written u 1; flushed = c.flushed; given_up = c.given_up; read = c.read }
after_command c u (Ok (read_payload d)) waiting reply =
    record { written = c.written; flushed = c.flushed; given_up = c.given_up; read = added c.read (slice_index reply 0 / 2 % 8) 1 }
after_command c u (Ok (flush_tx d)) waiting reply =
    record { written = c.written; flushed = added c.flushed u waiting; given_up = c.given_up; read = c.read }
after_command c u (Ok (flush_rx d)) waiting reply = c
after_command c u (Ok (nop d)) waiting reply = c

abbrev pub one_given_up : Counts → ℕ → Counts
one_given_up c u = record { written = c.written; flushed = c.flushed; given_up = added c.given_up u 1; read = c.read }
