-- A write that its register takes, or doesn't.
use Rattle.std.proofs.Common.{◌≡◌, ℕ, Bool, true, false, cond, ltb, List, [], ◌∷◌, ◌++◌, length, drop, Some, None, Ok, Err, Option, Result, refl, ap, ◌∙◌, arith}
use Rattle.registers.specs.declared.register.Register.{Register}
use Rattle.commands.specs.declared.refusal.Refusal.{Refusal}
use Rattle.commands.specs.declared.refusal.Refusal.TheVariants.{ReplyRoom}
use Rattle.commands.specs.Decode.{write_register}
use Rattle.commands.specs.Refusals.{first_of, unless, kept_or}
use Rattle.commands.specs.Reply.{reply_answer, replied}
use Rattle.unit.specs.declared.state.State.{State}
use Rattle.unit.specs.Commanding.{further_refusals, value_refusals}

-- the first refusal, where there is room for STATUS
pub roomy :
    (s : State) (room : ℕ) (r : Register) (d : List ℕ) (o : Option Refusal) → ltb room 1 ≡ false → first_of (value_refusals s r d) ≡ o
    → first_of (further_refusals s room (write_register r d)) ≡ o
roomy s room r d o f g = ap (λ (b : Bool). cond b (Some ReplyRoom) (first_of (value_refusals s r d))) f ∙ g

-- ---- what an answer says of the refusal

pub room : (b : Bool) → ◌≡◌ {A = Result Unit Refusal} (Ok tt) (unless (cond b (Some ReplyRoom) None) tt) → b ≡ false
room true h = absurd (let z : ◌≡◌ {A = ℕ} 0 1 = cc in omega arith)
room false h = refl

pub unrefused : (o : Option Refusal) → ◌≡◌ {A = Result Unit Refusal} (Ok tt) (unless o tt) → o ≡ None
unrefused None h = refl
unrefused (Some e) h = absurd (let z : ◌≡◌ {A = ℕ} 0 1 = cc in omega arith)

pub refused : (o : Option Refusal) (e : Refusal) → ◌≡◌ {A = Result Unit Refusal} (Err e) (unless o tt) → o ≡ Some e
refused None e h = absurd (let z : ◌≡◌ {A = ℕ} 0 1 = cc in omega arith)
refused (Some e) e' h = cc

-- the reply of STATUS alone, where there is room for it
pub finished :
    (buffer : List ℕ) (status : ℕ) → ltb (length buffer) 1 ≡ false
    → (reply_answer buffer [] ≡ Ok 1) × (replied buffer status [] ≡ (status ∷ []) ++ drop 1 buffer)
finished buffer status f = (
  ap (λ (b : Bool). unless (cond b (Some ReplyRoom) None) 1) f,
  ap (λ (b : Bool). kept_or (cond b (Some ReplyRoom) None) buffer ((status ∷ []) ++ drop 1 buffer)) f,
)
