use Rattle.std.proofs.Common.{◌≡◌, map, take, Some}
use Rattle.law.specs.Lists.{All}
use Rattle.law.specs.Runs.{led, outcomes}
use Rattle.law.specs.Law.{OfBytes}
use Rattle.delivery.specs.Entries.{calls_of, written}
use Rattle.delivery.proofs.replaying.replay.Given as goal

-- the calls that were made so far
abbrev pub invariant-loop-entry : goal.invariant-loop-entry
invariant-loop-entry g l = record {
  calls : calls_of l.entries ≡ calls_of l.fn.entries;
  answered : take l.entry-index (written l.entries)
      ≡ map Some (outcomes g.C.Check.W g.C.Check.meaning l.fn.cell.inside (take l.entry-index (calls_of l.fn.entries)));
  state : l.cell.inside ≡ led g.C.Check.W g.C.Check.meaning l.fn.cell.inside (take l.entry-index (calls_of l.fn.entries));
  bytes : All OfBytes (take l.entry-index (calls_of l.fn.entries));
}
