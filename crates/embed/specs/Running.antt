-- A script as a whole, and what it prints.
use Rattle.std.specs.Prelude.{ℕ, ◌-◌, ◌^◌, List, ◌++◌, length, take, drop}
use Rattle.script.specs.Console.{started}
use Rattle.script.specs.Feeding.{lines_of, printed_lines}

-- the results of a script on a new console
abbrev pub results : List ℕ → List ℕ
results script = printed_lines started (lines_of script)

-- as much of a text as fits stands in front
abbrev pub front_written : List ℕ → List ℕ → List ℕ
front_written text before = take (length before) text ++ drop (length text) before

-- the answer where there was no memory
abbrev pub no_memory : ℕ
no_memory = 2 ^ 64 - 1
