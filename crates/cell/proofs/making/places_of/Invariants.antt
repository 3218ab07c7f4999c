use Rattle.std.proofs.Common.{◌≡◌, ℕ, ◌++◌, take, drop, length, replicate, Some, None, vec_len}
use Rattle.std.specs.Prelude.{slice_index_or}
use Rattle.unit.specs.declared.state.State.{State}
use Rattle.cell.specs.Making.{places_of, states, OfBytesState}
use Rattle.cell.proofs.making.places_of.Given as goal

abbrev pub decreases-loop-unit : goal.decreases-loop-unit
decreases-loop-unit g l = vec_len l.units

abbrev pub invariant-loop-unit : goal.invariant-loop-unit
invariant-loop-unit g l = record {
  left : l.units.items ≡ take (length l.units.items) l.initial.units.items;
  placed : l.at ≡ replicate (length l.units.items) None ++ drop (length l.units.items) (places_of (states l.initial.units.items));
  bytes : (u : ℕ) (s : State) → slice_index_or l.at u None ≡ Some s → OfBytesState s;
}
