use Rattle.std.proofs.Common.{◌≡◌, ℕ, List, ◌++◌, reverse}
use Rattle.std.specs.Fmt.{HasWritten, IsPlainFormatter}
use Rattle.words.specs.Numbers.{digits_shown}
use Rattle.words.proofs.writing.ReversedDisplay.fmt.Given as goal

abbrev pub invariant-loop-byte : goal.invariant-loop-byte
invariant-loop-byte g l = IsPlainFormatter l.initial.f → (done : List ℕ) × HasWritten g.W.Write.write_str_gives l.initial.f done l.f × (done ++ digits_shown (reverse l.byte-iterator.iter.rest.now) ≡ digits_shown (reverse l.fn.self.0.now))
