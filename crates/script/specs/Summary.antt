-- What the calls on the cell came to, in words.
use Rattle.std.specs.Prelude.{ℕ, ◌-◌, List, [], ◌++◌, Some, None, codes, Option, slice_index}
use Rattle.words.specs.Numbers.{decimal_shown}
use Rattle.desk.specs.declared.counts.Counts.{Counts}
use Rattle.desk.specs.declared.slot.Units.{Units}
use Rattle.std.specs.Option.{option_map}
use Rattle.script.specs.declared.summary.Sender.{Sender}
use Rattle.desk.specs.Desks.{units_counts, units_waiting}

-- of a sender's payloads, those that were written and neither flushed nor still wait were sent
abbrev pub sender_of : Counts → ℕ → ℕ → Sender
sender_of n u waiting = record {
  unit = u;
  written = slice_index n.written u;
  sent = slice_index n.written u - slice_index n.flushed u - waiting;
  given_up = slice_index n.given_up u;
  flushed = slice_index n.flushed u;
  waiting = waiting;
}

-- a sender of the cell, if there is one of that number
unfoldable pub sender_at : Units → Counts → ℕ → Option Sender
sender_at us n u = option_map (sender_of n u) (units_waiting us u)

abbrev pub sender_text : Sender → List ℕ
sender_text s =
    codes "     sender " ++ (decimal_shown s.unit ++ (codes ": " ++ (decimal_shown s.written ++ (codes " written, " ++ (decimal_shown s.sent
    ++ (codes " sent, " ++ (decimal_shown s.given_up ++ (codes " given up, " ++ (decimal_shown s.flushed ++ (codes " flushed, "
    ++ (decimal_shown s.waiting ++ codes " still waiting\n")))))))))))

unfoldable pub sender_row : Option Sender → List ℕ
sender_row None = []
sender_row (Some s) = sender_text s

unfoldable pub pipes_row : List ℕ → List ℕ
pipes_row read =
    codes "     read on pipes 0 to 5: " ++ (decimal_shown (slice_index read 0) ++ (codes " " ++ (decimal_shown (slice_index read 1) ++ (codes " "
    ++ (decimal_shown (slice_index read 2) ++ (codes " " ++ (decimal_shown (slice_index read 3) ++ (codes " " ++ (decimal_shown (slice_index read 4)
    ++ (codes " " ++ (decimal_shown (slice_index read 5) ++ codes "\n")))))))))))

-- a row for each sender that there is, and one for the pipes
abbrev pub rows_text : Units → Counts → List ℕ
rows_text us n =
    sender_row (sender_at us n 1) ++ (sender_row (sender_at us n 2) ++ (sender_row (sender_at us n 3) ++ (sender_row (sender_at us n 4)
    ++ (sender_row (sender_at us n 5) ++ (sender_row (sender_at us n 6) ++ pipes_row n.read)))))

-- nothing where there is no cell
abbrev pub summary_by : Units → Option Counts → List ℕ
summary_by us None = []
summary_by us (Some n) = rows_text us n

abbrev pub summary_text : Units → List ℕ
summary_text us = summary_by us (units_counts us)
