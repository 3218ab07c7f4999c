-- The console: what a line leads to and what it prints.
use Rattle.std.specs.Prelude.{◌≡◌, ℕ, ◌+◌, ◌-◌, ◌^◌, min, cond, List, [], ◌++◌, length, Ok, Err, codes, Result, ◌==◌}
use Rattle.words.specs.Numbers.{decimal_shown}
use Rattle.requests.specs.declared.lines.Kind.{Kind}
use Rattle.requests.specs.declared.lines.Kind.TheVariants.{Crc16}
use Rattle.requests.specs.declared.lines.Cannot.{Cannot}
use Rattle.script.specs.declared.running.Console.{Console}
use Rattle.requests.specs.Lines.{UnitRequest, bench, load, check, box, hear, Request, kind, pack, read, field, unit, call, make, carry, line_of}
use Rattle.desk.specs.declared.slot.Units.{Units}
use Rattle.desk.specs.Desks.{kind_of, no_units}
use Rattle.answers.specs.Profiles.{profile_rows}
use Rattle.results.specs.Outcomes.{Outcome, done, frame, heard, nothing, refused, looked_up, absent, said, carried, units_after_request}
use Rattle.results.specs.Texts.{result_text, cannot_text}
use Rattle.results.specs.Rows.{rows_found}

-- one more, as far as 64 bits go
abbrev pub up : ℕ → ℕ
up n = min (n + 1) (2 ^ 64 - 1)

-- below the result: the fields of the frame that was packed, or that was to be read, as a reader finds them;
-- the registers that a profile names
abbrev pub unit_explained : UnitRequest → List ℕ
unit_explained bench = []
unit_explained (load p) = profile_rows p
unit_explained check = []
unit_explained box = []
unit_explained (hear n bytes) = []

abbrev pub explained : Kind → Request → Outcome → List ℕ
explained k (kind named) o = []
explained k (pack p) (frame x) = rows_found k (length p.address) x.bits x.buffer
explained k (pack p) done = []
explained k (pack p) (heard q) = []
explained k (pack p) nothing = []
explained k (pack p) (refused n) = []
explained k (pack p) (looked_up bytes) = []
explained k (pack p) absent = []
explained k (pack p) (said s) = []
explained k (read width n bytes) o = rows_found k width n bytes
explained k (field r p) o = profile_rows p
explained k (unit label q) o = unit_explained q
explained k (call u c) o = []
explained k make o = []
explained k (carry fate start pattern) o = []

abbrev pub answer_text : Kind → Request → Outcome → List ℕ
answer_text k q o = result_text o ++ (codes "\n" ++ explained k q o)

abbrev pub carried_text : Kind → Request → Result Outcome Cannot → List ℕ
carried_text k q (Ok o) = answer_text k q o
carried_text k q (Err e) = cannot_text e ++ codes "\n"

-- the result of a line with the units as they are and the check in force
abbrev pub request_text : Units → Request → List ℕ
request_text us q = carried_text (kind_of us) q (carried us q)

abbrev pub line_text : Units → Result Request Cannot → List ℕ
line_text us (Ok q) = request_text us q
line_text us (Err e) = cannot_text e ++ codes "\n"

-- ---- the console's state

abbrev pub started : Console
started = record { units = no_units Crc16; lines = 0; carried = 0; unable = 0 }

-- as many lines were carried out, and as many could not be
abbrev pub SameTally : Console → Console → Type 0
SameTally a b = (a.carried ≡ b.carried) × (a.unable ≡ b.unable)

abbrev pub counted : Console → Console
counted c = record { units = c.units; lines = up c.lines; carried = c.carried; unable = c.unable }

-- a line that was carried out, and one that could not be
abbrev pub one_carried : Console → Units → Console
one_carried c us = record { units = us; lines = c.lines; carried = up c.carried; unable = c.unable }

abbrev pub one_unable : Console → Console
one_unable c = record { units = c.units; lines = c.lines; carried = c.carried; unable = up c.unable }

abbrev pub tallied : Console → Units → Result Outcome Cannot → Console
tallied c us (Ok o) = one_carried c us
tallied c us (Err e) = one_unable c

abbrev pub after_request : Console → Request → Console
after_request c q = tallied c (units_after_request c.units q) (carried c.units q)

-- a line that cannot be carried out changes nothing but the count of such lines
abbrev pub after_line : Console → Result Request Cannot → Console
after_line c (Ok q) = after_request c q
after_line c (Err e) = one_unable c

-- a line without a word is only counted
abbrev pub after : Console → List (List ℕ) → Console
after c ws = cond (length ws == 0) (counted c) (after_line (counted c) (line_of ws))

-- the number of the line, and its result
abbrev pub printed : Console → List (List ℕ) → List ℕ
printed c ws = cond (length ws == 0) [] (decimal_shown (up c.lines) ++ (codes ": " ++ line_text c.units (line_of ws)))
