-- What a unit answers or lacks, in words.
use Rattle.std.specs.Prelude.{ℕ, ◌+◌, ◌/◌, Bool, true, false, List, [], ◌∷◌, ◌++◌, take, Some, None, codes, Option}
use Rattle.registers.specs.declared.register.Register.{Register}
use Rattle.registers.specs.Address.{address_of}
use Rattle.commands.specs.declared.refusal.Refusal.{Refusal}
use Rattle.commands.specs.Refusals.{numbered}
use Rattle.commands.specs.Texts.{reason, register_name}
use Rattle.cell.specs.declared.refusal.Layer.{Layer}
use Rattle.cell.specs.declared.refusal.Layer.TheVariants as layer
use Rattle.cell.specs.declared.refusal.Refusal.{Refusal as CellRefusal}
use Rattle.cell.specs.Refusals.{cause_number, layer_of}
use Rattle.cell.specs.Texts.{cause_text}
use Rattle.words.specs.Numbers.{bytes_shown, decimal_shown}
use Rattle.requests.specs.declared.lines.Lack.{Lack}
use Rattle.requests.specs.declared.lines.Lack.TheVariants.{NoUnit, IsBoxed, OnBench, InCell, NotInCell}
use Rattle.desk.specs.declared.answer.Frame.{Frame}
use Rattle.desk.specs.Answers.{Said, done, pin, replied, ticked, heard, refused, refused_in_cell}

-- a blank and two hexadecimal digits
abbrev pub register_digits : Option Register → List ℕ
register_digits (Some r) = bytes_shown (address_of r ∷ [])
register_digits None = []

-- the number, the register that it names, and in parentheses the reason
abbrev pub refusal_text : Refusal → List ℕ
refusal_text e =
    codes "refused " ++ (decimal_shown (numbered e).0 ++ (register_digits (numbered e).1
    ++ (codes " (" ++ (reason e ++ (register_name (numbered e).1 ++ codes ")")))))

abbrev pub layer_text : Layer → List ℕ
layer_text layer.Unit = codes "unit"
layer_text layer.Cell = codes "cell"

-- the layer and the unit, then number, register and reason
abbrev pub cell_refusal_text : CellRefusal → List ℕ
cell_refusal_text e =
    codes "refused " ++ (layer_text (layer_of e.cause) ++ (codes " " ++ (decimal_shown e.unit ++ (codes " " ++ (decimal_shown (cause_number e.cause).0
    ++ (register_digits (cause_number e.cause).1 ++ (codes " (" ++ (cause_text e.cause ++ codes ")"))))))))

abbrev pub pin_text : Bool → List ℕ
pin_text true = codes "ok low"
pin_text false = codes "ok high"

abbrev pub reply_text : List ℕ → List ℕ
reply_text bytes = codes "ok" ++ bytes_shown bytes

-- the bit count, and as many bytes as the bits fill
abbrev pub frame_text : Frame → List ℕ
frame_text x = codes "frame " ++ (decimal_shown x.bits ++ bytes_shown (take ((x.bits + 7) / 8) x.buffer))

-- a frame behind other words, if there is one
abbrev pub then_frame : Option Frame → List ℕ
then_frame None = []
then_frame (Some x) = codes " " ++ frame_text x

abbrev pub ticked_text : ℕ → Option Frame → List ℕ
ticked_text n x = codes "ok " ++ (decimal_shown n ++ then_frame x)

abbrev pub heard_text : Option Frame → List ℕ
heard_text x = codes "ok" ++ then_frame x

abbrev pub said_text : Said → List ℕ
said_text done = codes "ok"
said_text (pin low) = pin_text low
said_text (replied bytes) = reply_text bytes
said_text (ticked n x) = ticked_text n x
said_text (heard x) = heard_text x
said_text (refused e) = refusal_text e
said_text (refused_in_cell e) = cell_refusal_text e

-- ---- why a unit cannot do what a line asks

abbrev pub lack_note : Lack → List ℕ
lack_note NoUnit = codes " is not there; a line bench makes one, 0 to 7"
lack_note IsBoxed = codes " is boxed; the line is for a unit on the bench"
lack_note OnBench = codes " is on the bench; the line is for a boxed unit"
lack_note InCell = codes " is out of reach; a cell is made, and the line is for a unit outside of one"
lack_note NotInCell = codes " is no unit of the cell"

abbrev pub lack_text : ℕ → Lack → List ℕ
lack_text unit lack = codes "unit " ++ (decimal_shown unit ++ lack_note lack)
