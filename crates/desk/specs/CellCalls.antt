-- What lines do to a cell, and what it answers.
use Rattle.std.specs.Prelude.{ℕ, zero, suc, Bool, false, cond, not, ◌&&◌, List, length, unwrap_or, Some, None, Ok, Err, Option, Result}
use Rattle.std.specs.Option.{option_map}
use Rattle.queue.specs.Entries.{entries}
use Rattle.commands.specs.Decode.{ordered}
use Rattle.unit.specs.declared.state.State.{State}
use Rattle.cell.specs.declared.air.Frame.{Frame as Aired}
use Rattle.cell.specs.declared.parts.Inside.{Inside}
use Rattle.cell.specs.declared.refusal.Refusal.{Refusal as CellRefusal}
use Rattle.cell.specs.Calls.{unit_at, tick_result, ticked}
use Rattle.cell.specs.Pins.{irq_at}
use Rattle.law.specs.Runs.{Outcome, replied as law_replied, done as law_done, refused as law_refused, outcome, after, command as law_command, ce as law_ce, carry as law_carry}
use Rattle.requests.specs.declared.lines.Lack.{Lack}
use Rattle.requests.specs.declared.lines.Lack.TheVariants.{NotInCell}
use Rattle.requests.specs.Lines.{Call, command, ce, irq, tick}
use Rattle.desk.specs.declared.answer.Frame.{Frame}
use Rattle.desk.specs.declared.counts.Counts.{Counts}
use Rattle.desk.specs.declared.slot.Watched.{Watched}
use Rattle.desk.specs.Answers.{Said, done, pin, replied, ticked as ticks_taken, heard, refused_in_cell}
use Rattle.desk.specs.Counts.{after_command, one_given_up}

abbrev pub frame_aired : Aired → Frame
frame_aired x = record { bits = x.count; buffer = x.bytes }

-- how many payloads wait at a unit, if there is the unit
abbrev pub waiting_at : Inside → ℕ → Option ℕ
waiting_at c u = option_map (λ (s : State). length (entries s.tx)) (unit_at c u)

abbrev pub gave_up_by : Option State → Bool
gave_up_by None = false
gave_up_by (Some s) = s.core.flags.max_rt

-- MAX_RT stands at a unit
abbrev pub gave_up_at : Inside → ℕ → Bool
gave_up_at c u = gave_up_by (unit_at c u)

abbrev pub said_by : Outcome → Said
said_by (law_replied bytes) = replied bytes
said_by law_done = done
said_by (law_refused e) = refused_in_cell e

-- an accepted host command is counted
abbrev pub replied_counts : Outcome → Counts → ℕ → List ℕ → ℕ → Counts
replied_counts (law_replied bytes) n u host waiting = after_command n u (ordered host) waiting bytes
replied_counts law_done n u host waiting = n
replied_counts (law_refused e) n u host waiting = n

-- a payload that is newly given up is counted
abbrev pub ticked_counts : Counts → ℕ → Bool → Bool → Counts
ticked_counts n u before now = cond (not before && now) (one_given_up n u) n

-- ticks in a row, and the cell after them
pub record CellTicks : Type 0 where
  pub taken : ℕ
  pub inside : Inside

abbrev pub one_more : CellTicks → CellTicks
one_more t = record { taken = suc t.taken; inside = t.inside }

-- a refused tick is not taken, and is the last
abbrev pub then_ticks : Result Unit CellRefusal → Inside → CellTicks → CellTicks
then_ticks (Ok x) c t = one_more t
then_ticks (Err e) c t = record { taken = 0; inside = c }

module _ (w : ℕ) (f : List Bool → ℕ) where
  -- up to n ticks of a unit
  unfoldable pub cell_ticks : ℕ → ℕ → Inside → CellTicks
  cell_ticks zero u c = record { taken = 0; inside = c }
  cell_ticks (suc n) u c = then_ticks (tick_result w f c u) (ticked w f c u) (cell_ticks n u (ticked w f c u))

  abbrev pub ticks_said_by : Result Unit CellRefusal → CellTicks → Said
  ticks_said_by (Ok x) t = ticks_taken t.taken (option_map frame_aired t.inside.air)
  ticks_said_by (Err e) t = refused_in_cell e

  -- the refusal of the very first, or how many were taken and the frame that is then on the air
  abbrev pub ticks_said : ℕ → ℕ → Inside → Said
  ticks_said n u c = ticks_said_by (tick_result w f c u) (cell_ticks n u c)

  abbrev pub cell_after : Inside → ℕ → Call → Inside
  cell_after c u (command room bytes) = after w f c (law_command u bytes room)
  cell_after c u (ce high) = after w f c (law_ce u high)
  cell_after c u irq = c
  cell_after c u (tick n) = (cell_ticks n u c).inside

  abbrev pub counts_after : Counts → Inside → ℕ → Call → Counts
  counts_after x c u (command room bytes) = replied_counts (outcome w f c (law_command u bytes room)) x u bytes (unwrap_or (waiting_at c u) 0)
  counts_after x c u (ce high) = x
  counts_after x c u irq = x
  counts_after x c u (tick n) = ticked_counts x u (gave_up_at c u) (gave_up_at (cell_ticks n u c).inside u)

  abbrev pub pin_said : Option Bool → Result Said Lack
  pin_said None = Err NotInCell
  pin_said (Some low) = Ok (pin low)

  abbrev pub cell_said : Inside → ℕ → Call → Result Said Lack
  cell_said c u (command room bytes) = Ok (said_by (outcome w f c (law_command u bytes room)))
  cell_said c u (ce high) = Ok (said_by (outcome w f c (law_ce u high)))
  cell_said c u irq = pin_said (irq_at c u)
  cell_said c u (tick n) = Ok (ticks_said n u c)

  abbrev pub carry_said_by : Outcome → Inside → Said
  carry_said_by (law_replied bytes) c = heard (option_map frame_aired c.air)
  carry_said_by law_done c = heard (option_map frame_aired c.air)
  carry_said_by (law_refused e) c = refused_in_cell e

  -- what is on the air after a carry
  abbrev pub carry_said : Inside → ℕ → ℕ → ℕ → Said
  carry_said c fate start pattern =
      carry_said_by (outcome w f c (law_carry fate start pattern)) (after w f c (law_carry fate start pattern))

module _ {C : Type 0} where
  abbrev pub with_inside : Inside → Counts → Watched C
  with_inside c x = record { cell = record { inside = c; kind = record {} }; counts = x }

  abbrev pub watched_after : ℕ → (List Bool → ℕ) → Watched C → ℕ → Call → Watched C
  watched_after w f x u q = with_inside (cell_after w f x.cell.inside u q) (counts_after w f x.counts x.cell.inside u q)

  abbrev pub watched_said : ℕ → (List Bool → ℕ) → Watched C → ℕ → Call → Result Said Lack
  watched_said w f x u q = cell_said w f x.cell.inside u q

  abbrev pub carried_on : ℕ → (List Bool → ℕ) → Watched C → ℕ → ℕ → ℕ → Watched C
  carried_on w f x fate start pattern = with_inside (after w f x.cell.inside (law_carry fate start pattern)) x.counts
