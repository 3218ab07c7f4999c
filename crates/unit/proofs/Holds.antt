-- The laws of a boxed unit.
use Rattle.std.proofs.Common.{◌≡◌, ℕ, Bool, true, false, cond, not, ◌&&◌, eqb, ◌⊎◌, List, [], ◌∷◌, ◌++◌, length, take, Some, None, Ok, Err, Option, Result, sym, refl, ap, ◌∙◌, inl, inr, append-nil, arith, rules}
use Rattle.queue.proofs.Kept.{popped_rest}
use Rattle.std.proofs.lemmas.Bool.{cond_both}
use Rattle.std.proofs.lemmas.List.{get_or-set_other}
use Rattle.checks.specs.Bits.{bits}
use Rattle.frames.specs.Packet.{Packet, covered, reading}
use Rattle.queue.specs.declared.queue.Queue.{Queue}
use Rattle.queue.specs.declared.queue.Queue.TheVariants.{Empty, One, Two, Three}
use Rattle.queue.specs.Entries.{entries, pushed, popped}
use Rattle.registers.specs.declared.pipe.Pipe.{Pipe}
use Rattle.registers.specs.Address.{address_of}
use Rattle.registers.specs.File.{byte_of}
use Rattle.registers.specs.Pipes.{index_of, pipe_at, width_register}
use Rattle.commands.specs.declared.refusal.Refusal.{Refusal}
use Rattle.commands.specs.Decode.{Order, read_register, write_register, write_payload, read_payload, flush_tx, flush_rx, nop}
use Rattle.commands.specs.Refusals.{unless, kept_or}
use Rattle.bench.specs.Checking.{is_receiver}
use Rattle.modes.specs.declared.parts.Core.{Core}
use Rattle.modes.specs.Modes.{is_waiting, is_rx}
use Rattle.unit.specs.declared.entry.Data.{Data}
use Rattle.unit.specs.declared.entry.Outgoing.{Outgoing}
use Rattle.unit.specs.declared.memory.Memory.{Memory}
use Rattle.unit.specs.declared.memory.Memories.{Memories}
use Rattle.unit.specs.declared.state.State.{State}
use Rattle.unit.specs.Entries.{entry_of}
use Rattle.unit.specs.Units.{fault_refusal}
use Rattle.unit.specs.Ticking.{tick_refusal}
use Rattle.unit.specs.Commanding.{refusal, done_by}
use Rattle.unit.specs.Hearing.{recalled, remembered, pipe_of, Outcome, dropped, answered, acknowledgement, is_acknowledgement, same_memory, taken, fresh, on_its_pipe, delivered, hears, heard_packet, hear_refusal, address_width}
use Rattle.unit.specs.Laws.{RefusedChangesNothing, OwnMemoryOnly, StillWait, is_flush_tx, Acknowledged, LeavesOnlySo}

-- ---- refusals

kept : {X Y : Type 0} (r : Option Refusal) (x : X) (e : Refusal) (a b : Y) → unless r x ≡ Err e → kept_or r a b ≡ a
kept None x e a b h = absurd (let z : ◌≡◌ {A = ℕ} 0 1 = cc in omega arith)
kept (Some q) x e a b h = refl

pub refused_changes_nothing : (w : ℕ) (f : List Bool → ℕ) → RefusedChangesNothing w f
refused_changes_nothing w f = record {
  command = λ s b o e h. (kept (refusal s (length b) o) _ e _ _ h, kept (refusal s (length b) o) _ e _ _ h);
  tick = λ s b e h. (kept (tick_refusal s (length b)) _ e _ _ h, kept (tick_refusal s (length b)) _ e _ _ h);
  ce = λ s l e h. kept (fault_refusal s) _ e _ _ h;
  hear = λ s fr n b e h. (kept (hear_refusal s fr n (length b)) _ e _ _ h, kept (hear_refusal s fr n (length b)) _ e _ _ h);
}

-- ---- by cases

pub either_way : {X : Type 0} (P : X → Type 0) (b : Bool) (x y : X) → P x → P y → P (cond b x y)
either_way P true x y p q = p
either_way P false x y p q = q

-- ---- memories

pipe_found : (q : Pipe) → pipe_at (index_of q) ≡ Some q
pipe_found q = search rules

one_index : (q r : Pipe) → index_of q ≡ index_of r → q ≡ r
one_index q r e = let s : Some q ≡ Some r = sym (pipe_found q) ∙ ap pipe_at e ∙ pipe_found r in cc

elsewhere : (m : Memories) (q r : Pipe) (x : Memory) → (r ≡ q → ⊥) → recalled (remembered m r x) q ≡ recalled m q
elsewhere m q r x n = get_or-set_other m.at (index_of r) (index_of q) (Some x) None (λ e. n (one_index r q (sym e)))

module _ (s : State) (p : Packet) (q : Pipe) where
  Same : Outcome → Type 0
  Same o = recalled o.state.memories q ≡ recalled s.memories q

  as_it_was : (a : Option Packet) → Same (record { state = s; answer = a })
  unfolding Same
  as_it_was a = refl

  -- an acknowledgement changes no memory
  after_delivery : Same (dropped (delivered s))
  unfolding Same
  after_delivery = refl

  took : (r : Pipe) (x : Memory) (d : Data) → (r ≡ q → ⊥) → Same (answered (taken s r d x) p)
  unfolding Same
  took r x d n = elsewhere s.memories q r x n

  same_fresh : (r : Pipe) (x : Memory) (d : Option Data) → (r ≡ q → ⊥) → Same (fresh s r p x d)
  same_fresh r x None n = as_it_was None
  same_fresh r x (Some d) n = either_way Same _ _ _ (as_it_was None) (took r x d n)

  same_on : (x : Memory) (o : Option Pipe) → (o ≡ Some q → ⊥) → Same (on_its_pipe s p x o)
  same_on x None n = as_it_was None
  same_on x (Some r) n =
      either_way Same (eqb (length p.payload) (byte_of s.registers (width_register r))) _ _
      (either_way Same (same_memory (recalled s.memories r) x) _ _ (as_it_was (acknowledgement p)) (same_fresh r x (entry_of p.payload) (λ e. n (ap Some e)))) (as_it_was None)

  same_hears : (check : ℕ) → (pipe_of s.registers p.address ≡ Some q → ⊥) → Same (hears s p check)
  same_hears check n =
      either_way Same (is_receiver s.registers) _ _
      (either_way Same (is_rx s.core.mode) _ _ (same_on (record { pid = p.pid; check = check }) (pipe_of s.registers p.address) n) (as_it_was None))
      (either_way Same (is_waiting s.core.mode) _ _ (either_way Same (is_acknowledgement s p) _ _ after_delivery (as_it_was None)) (as_it_was None))

pub own_memory_only : OwnMemoryOnly
unfolding Same
own_memory_only s p check q n = same_hears s p q check n

-- ---- the TX queue

still : (s : State) → StillWait s s
still s = ([], sym (append-nil (entries s.tx)))

came : (q : Queue Outgoing) (x : Outgoing) → (new : List Outgoing) × (entries (pushed q x) ≡ entries q ++ new)
came Empty x = (x ∷ [], refl)
came (One a) x = (x ∷ [], refl)
came (Two a b) x = (x ∷ [], refl)
came (Three a b c) x = ([], refl)

-- what holds of a state that is kept, and of the one that is made
kept_either : (P : State → Type 0) (r : Option Refusal) (s t : State) → P s → P t → P (kept_or r s t)
kept_either P None s t p q = q
kept_either P (Some e) s t p q = p

done_wait : (s : State) (o : Result Order Refusal) → is_flush_tx o ≡ false → StillWait s (done_by s o)
done_wait s (Err e) h = still s
done_wait s (Ok (read_register r d)) h = still s
done_wait s (Ok (write_register r d)) h = either_way (StillWait s) (eqb (address_of r) 0x07) _ _ (still s) (still s)
done_wait s (Ok (write_payload d)) h = came s.tx _
done_wait s (Ok (read_payload d)) h = still s
done_wait s (Ok (flush_tx d)) h = absurd (let z : ◌≡◌ {A = ℕ} 0 1 = cc in omega arith)
done_wait s (Ok (flush_rx d)) h = still s
done_wait s (Ok (nop d)) h = still s

module _ (s : State) where
  Either : State → Type 0
  Either t = StillWait s t ⊎ Acknowledged s t

  Ends : Outcome → Type 0
  Ends o = Either o.state

  untouched : (a : Option Packet) → Ends (record { state = s; answer = a })
  unfolding Either Ends
  untouched a = inl (still s)

  took_one : (r : Pipe) (p : Packet) (x : Memory) (d : Data) → Ends (answered (taken s r d x) p)
  unfolding Either Ends
  took_one r p x d = inl (still s)

  from_fresh : (r : Pipe) (p : Packet) (x : Memory) (d : Option Data) → Ends (fresh s r p x d)
  from_fresh r p x None = untouched None
  from_fresh r p x (Some d) = either_way Ends _ _ _ (untouched None) (took_one r p x d)

  from_pipe : (p : Packet) (x : Memory) (o : Option Pipe) → Ends (on_its_pipe s p x o)
  from_pipe p x None = untouched None
  from_pipe p x (Some r) =
      either_way Ends (eqb (length p.payload) (byte_of s.registers (width_register r))) _ _
      (either_way Ends (same_memory (recalled s.memories r) x) _ _ (untouched (acknowledgement p)) (from_fresh r p x (entry_of p.payload))) (untouched None)

  accepted : is_waiting s.core.mode ≡ true → Acknowledged s (delivered s)
  accepted h =
      let left : Bool = not (eqb (length (entries (popped s.tx))) 0) in
      record {
        waited = h;
        oldest = popped_rest s.tx;
        flag = either_way (λ (c : Core). c.flags.tx_ds ≡ true) (s.core.ce && left) _ _ refl refl;
        received = refl;
        identity = refl;
      }

  acknowledges : is_waiting s.core.mode ≡ true → Ends (dropped (delivered s))
  unfolding Either Ends
  acknowledges h = inr (accepted h)

  from_hears : (p : Packet) (check : ℕ) → Ends (hears s p check)
  from_hears p check =
      either_way Ends (is_receiver s.registers) _ _
      (either_way Ends (is_rx s.core.mode) _ _ (from_pipe p (record { pid = p.pid; check = check }) (pipe_of s.registers p.address)) (untouched None))
      (cond_both (is_waiting s.core.mode) _ _ Ends (λ h. either_way Ends (is_acknowledgement s p) _ _ (acknowledges h) (untouched None)) (λ _. untouched None))

  from_packet : (f : List Bool → ℕ) (o : Option Packet) → Ends (heard_packet f s o)
  from_packet f None = untouched None
  from_packet f (Some p) = from_hears p (f (covered p))

pub leaves_only_so : (w : ℕ) (f : List Bool → ℕ) → LeavesOnlySo w f
unfolding Either Ends
leaves_only_so w f = record {
  command = λ s room o h. kept_either (StillWait s) (refusal s room o) s _ (still s) (done_wait s o h);
  tick = λ s room. kept_either (StillWait s) (tick_refusal s room) s _ (still s) (still s);
  ce = λ s level. kept_either (StillWait s) (fault_refusal s) s _ (still s) (still s);
  hear = λ s frame n room.
      kept_either (Either s) (hear_refusal s frame n room) s _ (untouched s None)
      (from_packet s f (reading w f (address_width s) (take n (bits frame))));
}
