-- A reply fits the room that it is given.
use Rattle.std.proofs.Common.{◌≡◌, ℕ, ◌+◌, ◌≤◌, Bool, true, false, cond, not, ltb, List, [], ◌∷◌, ◌++◌, length, take, replicate, Some, None, Ok, Err, Option, Result, sym, refl, subst, arith}
use Rattle.std.proofs.lemmas.List.{take-append-le}
use Rattle.std.proofs.lemmas.Bool.{ltb-false}
use Rattle.queue.specs.Entries.{entries, first}
use Rattle.commands.specs.declared.refusal.Refusal.{Refusal as UnitRefusal}
use Rattle.commands.specs.declared.refusal.Refusal.TheVariants.{NotForUnit, DataLength, ReplyRoom, NothingReceived, QueueFull}
use Rattle.commands.specs.Decode.{Order, read_register, write_register, write_payload, read_payload, flush_tx, flush_rx, nop, ordered, fits}
use Rattle.commands.specs.Refusals.{first_of, unless}
use Rattle.unit.specs.declared.state.State.{State}
use Rattle.unit.specs.Units.{fault_refusal, or_else}
use Rattle.unit.specs.Commanding.{reads, received_bytes, answered, answer_of, value_refusals, tx_full, wrong_role, further_refusals, refusals, order_refusal, refusal, command_answer}
use Rattle.cell.specs.declared.parts.Inside.{Inside}
use Rattle.cell.specs.Refusals.{of_the_unit}
use Rattle.cell.specs.Calls.{unit_at, command_answer_by, command_result, command_reply}
use Rattle.law.specs.Runs.{replied, reply_of}

none_is_none : {X : Type 0} (e : X) → ◌≡◌ {A = Option X} (Some e) None → ⊥
none_is_none e h = let z : ◌≡◌ {A = ℕ} 0 1 = cc in omega arith

ok_is_ok : {X E : Type 0} (e : E) (x : X) → ◌≡◌ {A = Result X E} (Err e) (Ok x) → ⊥
ok_is_ok e x h = let z : ◌≡◌ {A = ℕ} 0 1 = cc in omega arith

neither : {X : Type 0} (b : Bool) (e : X) (o : Option X) → cond b (Some e) o ≡ None → (b ≡ false) × (o ≡ None)
neither true e o h = absurd (none_is_none e h)
neither false e o h = (refl, h)

room_for : (room k : ℕ) (rest : List (Bool × UnitRefusal)) → first_of ((ltb room k, ReplyRoom) ∷ rest) ≡ None → k ≤ room
room_for room k rest h = ltb-false room k (neither (ltb room k) ReplyRoom (first_of rest) h).0

further_room : (s : State) (room : ℕ) (o : Order) → first_of (further_refusals s room o) ≡ None → 1 + length (answered s o) ≤ room
further_room s room (read_register r d) h = room_for room (1 + length (reads s r)) [] h
further_room s room (write_register r d) h = room_for room 1 (value_refusals s r d) h
further_room s room (write_payload d) h = room_for room 1 ((tx_full s, QueueFull) ∷ []) h
further_room s room (read_payload d) h =
    room_for room (1 + length (received_bytes (first (entries s.rx)))) [] (neither _ NothingReceived _ h).1
further_room s room (flush_tx d) h = room_for room 1 [] h
further_room s room (flush_rx d) h = room_for room 1 [] h
further_room s room (nop d) h = room_for room 1 [] h

served_room : (s : State) (room : ℕ) (o : Order) → first_of (refusals s room o) ≡ None → 1 + length (answered s o) ≤ room
served_room s room o h = further_room s room o (neither (not (fits o)) DataLength _ (neither (wrong_role s o) NotForUnit _ h).1).1

ordered_room : (s : State) (room : ℕ) (o : Result Order UnitRefusal) → order_refusal s room o ≡ None → 1 + length (answer_of s o) ≤ room
ordered_room s room (Err e) h = absurd (none_is_none e h)
ordered_room s room (Ok o) h = served_room s room o h

second_none : (a b : Option UnitRefusal) → or_else a b ≡ None → b ≡ None
second_none None b h = h
second_none (Some e) b h = absurd (none_is_none e h)

accepted : {X : Type 0} (r : Option UnitRefusal) (x y : X) → unless r x ≡ Ok y → (r ≡ None) × (x ≡ y)
accepted None x y h = (refl, cc)
accepted (Some e) x y h = absurd (ok_is_ok e y h)

by_the_unit : {X : Type 0} (u : ℕ) (r : Result X UnitRefusal) (x : X) → of_the_unit u r ≡ Ok x → r ≡ Ok x
by_the_unit u (Ok y) x h = cc
by_the_unit u (Err e) x h = absurd (ok_is_ok _ x h)

unit_room : (m : Option State) (u : ℕ) (host : List ℕ) (room n : ℕ) → command_answer_by m u host room ≡ Ok n → n ≤ room
unit_room None u host room n h = absurd (ok_is_ok _ n h)
unit_room (Some s) u host room n h =
    let o = ordered host in
    let a = accepted (refusal s room o) (1 + length (answer_of s o)) n (by_the_unit u (command_answer s room o) n h) in
    let l = ordered_room s room o (second_none (fault_refusal s) (order_refusal s room o) a.0) in
    subst (λ k. k ≤ room) a.1 l

pub within : (c : Inside) (u : ℕ) (host : List ℕ) (room n : ℕ) → Ok n ≡ command_result c u host room → n ≤ room
within c u host room n h = unit_room (unit_at c u) u host room n (sym h)

-- the reply at the front of a longer buffer
pub in_front : (c : Inside) (u : ℕ) (host : List ℕ) (room n : ℕ) (before after rest : List ℕ) → before ≡ replicate room 0 → length before ≡ room
    → Ok n ≡ command_result c u host (length before) → after ≡ command_reply c u host before → length after ≡ length before
    → replied (take n (after ++ rest)) ≡ reply_of (command_result c u host room) (command_reply c u host (replicate room 0))
in_front c u host room n before after rest zeros l ok e k =
    let ok : Ok n ≡ command_result c u host room = rw l at ok in
    let fits = within c u host room n ok in
    rw (take-append-le n after rest (omega arith), ← ok, ← zeros, ← e) refl
