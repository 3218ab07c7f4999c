-- More was written, and more is gone: what was known of payloads stays true.
use Rattle.std.proofs.Common.{◌≡◌, ℕ, ◌≤◌, Bool, List, [], ◌∷◌, Some, None, Option, sym, refl, subst, inl, inr, ⊎_elim, arith}
use Rattle.std.specs.Option.{option_map}
use Rattle.std.specs.List.{slice_get}
use Rattle.frames.specs.Packet.{covered}
use Rattle.unit.specs.declared.entry.Received.{Received}
use Rattle.unit.specs.declared.memory.Memory.{Memory}
use Rattle.unit.specs.declared.state.State.{State}
use Rattle.cell.specs.declared.parts.Inside.{Inside}
use Rattle.cell.specs.Calls.{unit_at}
use Rattle.law.specs.Lists.{All, SomeOf}
use Rattle.law.specs.Law.{Payload, Answering, Counting, Read, Writes, bytes_of}
use Rattle.law.specs.Law.{ReadsAWrite, pid_of, packet_by, check_of, Mistaken, Accounted}
use Rattle.law.proofs.Facts.{all_weaker}
use Rattle.law.proofs.Inv.{EntriesOk, TakenOk, MemoryOk}

pub record Extends (x y : Writes) : Type 0 where
  pub more : (k n : ℕ) (d : List ℕ) → slice_get (x.written k) n ≡ Some d → slice_get (y.written k) n ≡ Some d
  pub later : (k : ℕ) → x.gone k ≤ y.gone k

pub entries_grow : (c : Inside) (x y : Writes) → Extends x y → (es : List Received) (ps : List Payload) → EntriesOk c x es ps → EntriesOk c y es ps
entries_grow c x y g [] [] h = tt
entries_grow c x y g [] (p ∷ ps) h = absurd h
entries_grow c x y g (e ∷ es) [] h = absurd h
entries_grow c x y g (e ∷ es) (p ∷ ps) h = (
  record {
    pipe = h.0.pipe;
    bytes = h.0.bytes;
    written = g.more p.sender p.number h.0.bytes h.0.written;
    held = h.0.held;
    sendable = h.0.sendable;
  },
  entries_grow c x y g es ps h.1,
)

pub taken_grows : (c : Inside) (x y : Writes) → Extends x y → (ps : List Payload) → All (TakenOk c x) ps → All (TakenOk c y) ps
taken_grows c x y g = all_weaker _ _ (λ p h. record {
  sender = h.sender;
  unit = h.unit;
  there = h.there;
  gone = omega (arith, h.gone, g.later p.sender);
  bytes = h.bytes;
  written = g.more p.sender p.number h.bytes h.written;
})

module _ (f : List Bool → ℕ) where
  check_by : (u : Option State) (b : Option (List ℕ)) (n v : ℕ) (d : Option (List ℕ)) → ((e : List ℕ) → b ≡ Some e → d ≡ Some e)
      → option_map (λ packet. f (covered packet)) (packet_by u b n) ≡ Some v → option_map (λ packet. f (covered packet)) (packet_by u d n) ≡ Some v
  check_by None b n v d g h = let z : ◌≡◌ {A = ℕ} 0 1 = cc in absurd (omega arith)
  check_by (Some s) None n v d g h = let z : ◌≡◌ {A = ℕ} 0 1 = cc in absurd (omega arith)
  check_by (Some s) (Some e) n v d g h = subst (λ o. option_map (λ packet. f (covered packet)) (packet_by (Some s) o n) ≡ Some v) (sym (g e refl)) h

  pub check_grows : (c : Inside) (x y : Writes) → Extends x y → (p : Payload) (v : ℕ) → check_of f c x p ≡ Some v → check_of f c y p ≡ Some v
  check_grows c x y g p v h =
      check_by (unit_at c p.sender) (bytes_of x p) (pid_of p) v (bytes_of y p) (λ e k. g.more p.sender p.number e k) h

  pub mistaken_grows : (c : Inside) (x y : Writes) → Extends x y → (p : Payload) (ls : List Answering)
      → SomeOf (Mistaken f c x p) ls → SomeOf (Mistaken f c y p) ls
  mistaken_grows c x y g p [] h = absurd h
  mistaken_grows c x y g p (a ∷ ls) h =
      ⊎_elim (λ m. inl (record {
        of_it = m.of_it;
        last = m.last;
        was_last = m.was_last;
        another = m.another;
        same_pid = m.same_pid;
        check = m.check;
        its_check = check_grows c x y g p m.check m.its_check;
        same_check = check_grows c x y g m.last m.check m.same_check;
      })) (λ k. inr (mistaken_grows c x y g p ls k)) h

  pub accounted_grows : (c : Inside) (x y : Writes) → Extends x y → (ns : List Counting) → All (Accounted f c x) ns → All (Accounted f c y) ns
  accounted_grows c x y g = all_weaker _ _ (λ n h. record {
    payload = h.payload;
    named = h.named;
    taken = ⊎_elim (λ i. inl i) (λ m. inr (mistaken_grows c x y g h.payload n.answered m)) h.taken;
  })

  pub memory_grows : (a : State) (x y : List (List ℕ)) (n : Option ℕ) (m : Option Memory)
      → ((i : ℕ) (d : List ℕ) → slice_get x i ≡ Some d → slice_get y i ≡ Some d) → MemoryOk f a x n m → MemoryOk f a y n m
  memory_grows a x y None m g h = h
  memory_grows a x y (Some n) m g h = (h.0, g n h.0 h.1, h.2)

pub reads_grow : (c : Inside) (x y : Writes) → Extends x y → (rs : List Read) → All (ReadsAWrite c x) rs → All (ReadsAWrite c y) rs
reads_grow c x y g = all_weaker _ _ (λ r h. record {
  payload = h.payload;
  named = h.named;
  pipe = h.pipe;
  bytes = g.more h.payload.sender h.payload.number r.bytes h.bytes;
})
