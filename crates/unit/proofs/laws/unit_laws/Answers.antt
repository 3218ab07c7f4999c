use Rattle.unit.proofs.Holds.{refused_changes_nothing, own_memory_only, leaves_only_so}
use Rattle.unit.proofs.laws.unit_laws.Goals as goal

pub returns : goal.returns
returns g c = record {
  refused = refused_changes_nothing g.C.Check.W g.C.Check.meaning;
  memory = own_memory_only;
  queue = leaves_only_so g.C.Check.W g.C.Check.meaning;
}
