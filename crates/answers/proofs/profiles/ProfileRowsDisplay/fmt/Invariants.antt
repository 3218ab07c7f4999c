use Rattle.std.proofs.Common.{take}
use Rattle.std.specs.Fmt.{HasWritten, IsPlainFormatter}
use Rattle.answers.specs.Profiles.{rows_of}
use Rattle.answers.proofs.profiles.ProfileRowsDisplay.fmt.Given as goal

abbrev pub invariant-loop-register : goal.invariant-loop-register
invariant-loop-register g l = IsPlainFormatter l.initial.f → HasWritten g.W.Write.write_str_gives l.initial.f (rows_of l.fn.self.0.now (take l.register-index l.register-items)) l.f
