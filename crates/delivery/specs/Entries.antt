-- Entries as the law's calls and outcomes.
use Rattle.std.specs.Prelude.{ℕ, List, map, take, None, Option}
use Rattle.std.specs.Option.{option_map}
use Rattle.law.specs.Runs.{Call as LawCall, command, ce, tick, carry, Outcome as LawOutcome, replied, done, refused}
use Rattle.delivery.specs.declared.call.Call.{Call}
use Rattle.delivery.specs.declared.call.Call.TheVariants.{Command, Ce, Tick, Carry}
use Rattle.delivery.specs.declared.reply.Reply.{Reply}
use Rattle.delivery.specs.declared.entry.Outcome.{Outcome}
use Rattle.delivery.specs.declared.entry.Outcome.TheVariants.{Replied, Done, Refused}
use Rattle.delivery.specs.declared.entry.Entry.{Entry}

abbrev pub call_of : Call → LawCall
call_of (Command u host room) = command u host.now room
call_of (Ce u level) = ce u level
call_of (Tick u) = tick u
call_of (Carry fate start pattern) = carry fate start pattern

abbrev pub reply_bytes : Reply → List ℕ
reply_bytes x = take x.len x.held

abbrev pub outcome_of : Outcome → LawOutcome
outcome_of (Replied x) = replied (reply_bytes x)
outcome_of Done = done
outcome_of (Refused e) = refused e

-- an entry that was not replayed yet
abbrev pub fresh : Call → Entry
fresh x = record { call = x; outcome = None }

abbrev pub calls_of : List Entry → List LawCall
calls_of es = map (λ e. call_of e.call) es

-- what the calls answered, as it is written down; nothing where an entry was not replayed
abbrev pub written : List Entry → List (Option LawOutcome)
written es = map (λ e. option_map outcome_of e.outcome) es
