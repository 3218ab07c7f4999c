-- What lines do to the unit in a place, and what it answers.
use Rattle.std.specs.Prelude.{ℕ, Bool, List, Some, None, Ok, Err, Option, Result}
use Rattle.registers.specs.File.{at_reset}
use Rattle.commands.specs.Refusals.{unless, kept_or}
use Rattle.commands.specs.Decode.{ordered}
use Rattle.commands.specs.Status.{irq_of}
use Rattle.bench.specs.Commands.{registers_after}
use Rattle.bench.specs.Loading.{load_refusal, load_after}
use Rattle.bench.specs.Checking.{fault_of, check_answer}
use Rattle.unit.specs.declared.state.State.{State}
use Rattle.unit.specs.Boxing.{boxed}
use Rattle.unit.specs.Commanding.{command_after}
use Rattle.unit.specs.Ticking.{tick_refusal, ce_answer, ce_after}
use Rattle.unit.specs.Hearing.{hear_after}
use Rattle.requests.specs.declared.lines.Lack.{Lack}
use Rattle.requests.specs.declared.lines.Lack.TheVariants.{NoUnit, IsBoxed, OnBench}
use Rattle.requests.specs.Lines.{UnitRequest, bench, load, check, box, hear, Call, command, ce, irq, tick}
use Rattle.desk.specs.declared.slot.AnyUnit.{AnyUnit}
use Rattle.desk.specs.declared.slot.AnyUnit.TheVariants.{Bench, Boxed}
use Rattle.desk.specs.Answers.{Said, done, pin, result_said, bench_reply}
use Rattle.desk.specs.Boxed.{ticks, boxed_reply, boxed_ticks, boxed_hearing}

-- ---- line by line: the place afterwards, and the answer

-- a place is empty, or a unit stands there
abbrev pub Slot : Type 0 → Type 0
Slot C = Option (AnyUnit C)

module _ {C : Type 0} where
  abbrev pub benched : Slot C
  benched = Some (Bench (record { registers = at_reset }))

  abbrev pub loaded : List ℕ → Slot C → Slot C
  loaded p None = None
  loaded p (Some (Bench b)) = Some (Bench (record { registers = load_after p b.registers }))
  loaded p (Some (Boxed u)) = Some (Boxed u)

  abbrev pub load_said : List ℕ → Slot C → Result Said Lack
  load_said p None = Err NoUnit
  load_said p (Some (Bench b)) = Ok (result_said (unless (load_refusal p) tt))
  load_said p (Some (Boxed u)) = Err IsBoxed

  abbrev pub check_said : ℕ → Slot C → Result Said Lack
  check_said w None = Err NoUnit
  check_said w (Some (Bench b)) = Ok (result_said (check_answer (fault_of w b.registers)))
  check_said w (Some (Boxed u)) = Err IsBoxed

  -- a boxed unit in that state
  abbrev pub in_state : State → AnyUnit C
  in_state s = Boxed (record { state = s; kind = record {} })

  abbrev pub in_box : ℕ → Slot C → Slot C
  in_box w None = None
  in_box w (Some (Bench b)) = Some (in_state (boxed w b.registers))
  in_box w (Some (Boxed u)) = Some (Boxed u)

  abbrev pub box_said : Slot C → Result Said Lack
  box_said None = Err NoUnit
  box_said (Some (Bench b)) = Ok done
  box_said (Some (Boxed u)) = Err IsBoxed

  abbrev pub commanded : ℕ → List ℕ → Slot C → Slot C
  commanded room bytes None = None
  commanded room bytes (Some (Bench b)) = Some (Bench (record { registers = registers_after b.registers room (ordered bytes) }))
  commanded room bytes (Some (Boxed u)) = Some (in_state (command_after u.state room (ordered bytes)))

  abbrev pub command_said : ℕ → List ℕ → Slot C → Result Said Lack
  command_said room bytes None = Err NoUnit
  command_said room bytes (Some (Bench b)) = Ok (bench_reply b.registers room bytes)
  command_said room bytes (Some (Boxed u)) = Ok (boxed_reply u.state room bytes)

  -- what a boxed unit answers; a unit on the bench has no such call
  abbrev pub of_boxed : (State → Said) → Slot C → Result Said Lack
  of_boxed answer None = Err NoUnit
  of_boxed answer (Some (Bench b)) = Err OnBench
  of_boxed answer (Some (Boxed u)) = Ok (answer u.state)

  abbrev pub boxed_after : (State → State) → Slot C → Slot C
  boxed_after change None = None
  boxed_after change (Some (Bench b)) = Some (Bench b)
  boxed_after change (Some (Boxed u)) = Some (in_state (change u.state))

  abbrev pub leveled : Bool → Slot C → Slot C
  leveled high s = boxed_after (ce_after high) s

  abbrev pub ce_said : Slot C → Result Said Lack
  ce_said s = of_boxed (λ u. result_said (ce_answer u)) s

  abbrev pub irq_said : Slot C → Result Said Lack
  irq_said s = of_boxed (λ u. pin (irq_of u.core.flags u.core.config)) s

-- ---- for a check of w bits that means f

module _ (w : ℕ) (f : List Bool → ℕ) {C : Type 0} where
  abbrev pub hearing : ℕ → List ℕ → Slot C → Slot C
  hearing n bytes s = boxed_after (λ u. hear_after w f u bytes n 42) s

  abbrev pub hear_said : ℕ → List ℕ → Slot C → Result Said Lack
  hear_said n bytes s = of_boxed (λ u. boxed_hearing w f u n bytes) s

  abbrev pub ticked : ℕ → Slot C → Slot C
  ticked n s = boxed_after (λ u. kept_or (tick_refusal u 42) u (ticks w f n u).state) s

  abbrev pub tick_said : ℕ → Slot C → Result Said Lack
  tick_said n s = of_boxed (boxed_ticks w f n) s

  abbrev pub line_after : UnitRequest → Slot C → Slot C
  line_after bench s = benched
  line_after (load p) s = loaded p s
  line_after check s = s
  line_after box s = in_box w s
  line_after (hear n bytes) s = hearing n bytes s

  abbrev pub line_said : UnitRequest → Slot C → Result Said Lack
  line_said bench s = Ok done
  line_said (load p) s = load_said p s
  line_said check s = check_said w s
  line_said box s = box_said s
  line_said (hear n bytes) s = hear_said n bytes s

  abbrev pub call_after : Call → Slot C → Slot C
  call_after (command room bytes) s = commanded room bytes s
  call_after (ce high) s = leveled high s
  call_after irq s = s
  call_after (tick n) s = ticked n s

  abbrev pub call_said : Call → Slot C → Result Said Lack
  call_said (command room bytes) s = command_said room bytes s
  call_said (ce high) s = ce_said s
  call_said irq s = irq_said s
  call_said (tick n) s = tick_said n s
