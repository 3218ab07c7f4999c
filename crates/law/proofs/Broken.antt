-- The weakened cells: what each run writes down is computed, and the rest follows from that.
use Rattle.std.proofs.Common.{◌≡◌, ℕ, zero, suc, Bool, true, ◌&&◌, ltb, List, [], ◌∷◌, get_or, replicate, Some, None, Option, sym, refl, ap, subst, inl, ⊎_elim, arith}
use Rattle.std.proofs.lemmas.Bool.{ltb-true, and_parts}
use Rattle.checks.specs.Bits.{word, bits}
use Rattle.checks.specs.Crc.{crc8}
use Rattle.frames.specs.Octets.{number_after, octets}
use Rattle.frames.specs.Packet.{Bytes, covered, reading}
use Rattle.frames.specs.Damage.{flip}
use Rattle.bench.specs.Checking.{first_faulty}
use Rattle.commands.specs.Decode.{ordered}
use Rattle.unit.specs.declared.state.State.{State}
use Rattle.unit.specs.Boxing.{boxed}
use Rattle.cell.specs.Air.{inside}
use Rattle.cell.specs.Making.{unit_at_fault, sender_at_fault, OfBytesInside}
use Rattle.cell.specs.Calls.{heard_from}
use Rattle.law.specs.Lists.{All}
use Rattle.law.specs.Runs.{Call, command, ce, tick, carry}
use Rattle.law.specs.Law.{Payload, Answering, Counting, Read, Exchange, Writes, bytes_of, latest, history_from, history}
use Rattle.law.specs.Law.{ReadsAWrite, InOrder, Mistaken, Accounted, OverBudget, OfBytes, check_of}
use Rattle.law.specs.Weakened.{of_receiver, of_sender, pair, frame_changed, answer_lost, answer_heard, identity_again, frames_lost, RunsOfTheLaw, SaidByTheLaw, blind, forgetting, keeping_none, counting_from_1, weakened_history, BlindReads, ForgettingReads, KeepingNoneAnswers, BlindAnswers, CountingFrom1GivesUp}

-- ---- the law speaks of the runs

newly_made : unit_at_fault 8 (boxed 8 of_receiver ∷ boxed 8 of_sender ∷ []) ≡ None
unfolding sender_at_fault first_faulty
newly_made = refl

-- tests of bytes
bytes_below : List ℕ → Bool
bytes_below [] = true
bytes_below (b ∷ bs) = ltb b 256 && bytes_below bs

bytes_by : (bs : List ℕ) → bytes_below bs ≡ true → Bytes bs
unfolding bytes_below
bytes_by [] h i = omega arith
bytes_by (b ∷ bs) h zero = ltb-true b 256 (and_parts (ltb b 256) (bytes_below bs) h).0
bytes_by (b ∷ bs) h (suc i) = bytes_by bs (and_parts (ltb b 256) (bytes_below bs) h).1 i

host_below : Call → Bool
host_below (command u host room) = bytes_below host
host_below (ce u level) = true
host_below (tick u) = true
host_below (carry fate start pattern) = true

call_by : (x : Call) → host_below x ≡ true → OfBytes x
unfolding host_below
call_by (command u host room) h = bytes_by host h
call_by (ce u level) h = tt
call_by (tick u) h = tt
call_by (carry fate start pattern) h = tt

calls_below : List Call → Bool
calls_below [] = true
calls_below (x ∷ xs) = host_below x && calls_below xs

calls_by : (xs : List Call) → calls_below xs ≡ true → All OfBytes xs
unfolding calls_below
calls_by [] h = tt
calls_by (x ∷ xs) h =
    (call_by x (and_parts (host_below x) (calls_below xs) h).0, calls_by xs (and_parts (host_below x) (calls_below xs) h).1)

none_there : (n u : ℕ) (s : State) → get_or (replicate n None) u None ≡ Some s → ⊥
none_there zero u s h = let z : ◌≡◌ {A = ℕ} 0 1 = cc in absurd (omega arith)
none_there (suc n) zero s h = let z : ◌≡◌ {A = ℕ} 0 1 = cc in absurd (omega arith)
none_there (suc n) (suc u) s h = none_there n u s h

of_bytes_inside : OfBytesInside pair
unfolding bytes_below
of_bytes_inside zero s h = let e : boxed 8 of_receiver ≡ s = cc in rw (← e) (bytes_by (replicate 5 0xE7) refl, refl, refl)
of_bytes_inside (suc zero) s h = let e : boxed 8 of_sender ≡ s = cc in rw (← e) (bytes_by (replicate 5 0xE7) refl, refl, refl)
of_bytes_inside (suc (suc u)) s h = absurd (none_there 5 u s h)

pub runs_of_the_law : RunsOfTheLaw
unfolding calls_below host_below bytes_below
runs_of_the_law = (
  (boxed 8 of_receiver ∷ boxed 8 of_sender ∷ [], newly_made, refl),
  of_bytes_inside,
  (
    calls_by frame_changed refl,
    (calls_by answer_lost refl, (calls_by answer_heard refl, (calls_by identity_again refl, (calls_by frames_lost refl, tt)))),
  ),
)

pub said_by_the_law : SaidByTheLaw
said_by_the_law h l =
    (l.reads_are_writes, l.in_order, l.sent_means_taken 1, l.no_giving_up_within_the_retry_budget 1 (boxed 8 of_sender) (omega arith) refl)

-- ---- what is written down

-- all that a run computes with
unfoldable run_computed : ℕ
unfolding first_faulty ordered covered bits word number_after octets reading flip inside heard_from latest history_from
run_computed = 0

-- the sender's payload of a number
abbrev payload : ℕ → Payload
payload n = record { sender = 1; number = n }

-- the first payload is read as a byte
abbrev read_as : ℕ → Read
read_as b = record { payload = Some (payload 0); pipe = 0; bytes = b ∷ [] }

-- a payload is answered, with another as the last taken
abbrev answer_to : ℕ → Option Payload → Answering
answer_to n last = record { payload = payload n; latest = last }

abbrev count_of : ℕ → List Payload → List Answering → Counting
count_of n taken answered = record { payload = Some (payload n); taken = taken; answered = answered }

abbrev spoiled : Exchange
spoiled = record { spoiled = true; ready = true }

-- ---- reads are writes

reads_checked : (history 8 crc8 pair frame_changed).receipts.reads ≡ read_as 0x5A ∷ []
unfolding run_computed
reads_checked = refl

reads_blind : (history 8 blind pair frame_changed).receipts.reads ≡ read_as 0xDA ∷ []
unfolding run_computed
reads_blind = refl

written_checked : bytes_of (history 8 crc8 pair frame_changed).writes (payload 0) ≡ Some (0x5A ∷ [])
unfolding run_computed
written_checked = refl

written_blind : bytes_of (history 8 blind pair frame_changed).writes (payload 0) ≡ Some (0x5A ∷ [])
unfolding run_computed
written_blind = refl

pub blind_reads : BlindReads
blind_reads = (
  subst (All (ReadsAWrite pair _)) (sym reads_checked) (record { payload = payload 0; named = refl; pipe = refl; bytes = written_checked }, tt),
  λ a. never_written _ written_blind (subst (All (ReadsAWrite pair _)) reads_blind a).0,
) where
  never_written : (x : Writes) → bytes_of x (payload 0) ≡ Some (0x5A ∷ []) → ReadsAWrite pair x (read_as 0xDA) → ⊥
  never_written x b r = let z : ◌≡◌ {A = ℕ} 0x5A 0xDA = cc (r.named, r.bytes, b) in absurd (omega (arith, z))

-- ---- in order

reads_remembered : (history 8 crc8 pair answer_lost).receipts.reads ≡ read_as 0x5A ∷ []
unfolding run_computed
reads_remembered = refl

reads_forgotten : (weakened_history 0 forgetting answer_lost).receipts.reads ≡ read_as 0x5A ∷ read_as 0x5A ∷ []
unfolding run_computed
reads_forgotten = refl

pub forgetting_reads : ForgettingReads
forgetting_reads = (subst InOrder (sym reads_remembered) (tt, tt), λ o. twice (subst InOrder reads_forgotten o)) where
  twice : InOrder (read_as 0x5A ∷ read_as 0x5A ∷ []) → ⊥
  twice o = absurd (omega (arith, o.0.0 (payload 0) (payload 0) refl refl refl))

-- ---- sent means taken

-- the first payload was taken before it was counted
abbrev first_count : Counting
first_count = count_of 0 (payload 0 ∷ []) (answer_to 0 (Some (payload 0)) ∷ [])

counts_kept : (history 8 crc8 pair answer_heard).counted 1 ≡ first_count ∷ []
unfolding run_computed
counts_kept = refl

counts_none : (weakened_history 0 keeping_none answer_heard).counted 1 ≡ count_of 0 [] (answer_to 0 None ∷ []) ∷ []
unfolding run_computed
counts_none = refl

was_taken : (x : Writes) (n : ℕ) (ps : List Payload) (ys : List Answering) → Accounted crc8 pair x (count_of n (payload n ∷ ps) ys)
was_taken x n ps ys = record { payload = payload n; named = refl; taken = inl (inl refl) }

pub keeping_none_answers : KeepingNoneAnswers
keeping_none_answers = (
  subst (All (Accounted crc8 pair _)) (sym counts_kept) (was_taken _ 0 [] _, tt),
  λ a. never_taken _ (subst (All (Accounted crc8 pair _)) counts_none a).0,
) where
  no_last : (x : Writes) (p : Payload) → Mistaken crc8 pair x p (answer_to 0 None) → ⊥
  no_last x p m = let z : ◌≡◌ {A = ℕ} 0 1 = cc m.was_last in absurd (omega (arith, z))

  never_taken : (x : Writes) → Accounted crc8 pair x (count_of 0 [] (answer_to 0 None ∷ [])) → ⊥
  never_taken x r = ⊎_elim (λ t. t) (λ m. ⊎_elim (no_last x r.payload) (λ t. t) m) r.taken

-- what was taken and answered when the payload 4 was counted: with the check, and with the blind one
abbrev count_checked : Counting
count_checked = count_of 4 (payload 4 ∷ payload 0 ∷ []) (answer_to 4 (Some (payload 4)) ∷ answer_to 0 (Some (payload 0)) ∷ [])

abbrev count_blind : Counting
count_blind = count_of 4 (payload 0 ∷ []) (answer_to 4 (Some (payload 0)) ∷ answer_to 0 (Some (payload 0)) ∷ [])

counts_checked : (history 8 crc8 pair identity_again).counted 1 ≡ count_checked ∷ first_count ∷ []
unfolding run_computed
counts_checked = refl

counts_blind : (history 8 blind pair identity_again).counted 1 ≡ count_blind ∷ first_count ∷ []
unfolding run_computed
counts_blind = refl

check_of_0 : check_of crc8 pair (history 8 blind pair identity_again).writes (payload 0) ≡ Some 18
unfolding run_computed
check_of_0 = refl

check_of_4 : check_of crc8 pair (history 8 blind pair identity_again).writes (payload 4) ≡ Some 39
unfolding run_computed
check_of_4 = refl

pub blind_answers : BlindAnswers
blind_answers = (
  subst (All (Accounted crc8 pair _)) (sym counts_checked) (was_taken _ 4 (payload 0 ∷ []) _, (was_taken _ 0 [] _, tt)),
  λ a. never_taken _ check_of_0 check_of_4 (subst (All (Accounted crc8 pair _)) counts_blind a).0,
) where
  apart : (p : Payload) → Some (payload 4) ≡ Some p → p ≡ payload 0 → ⊥
  apart p n e = let q : payload 4 ≡ payload 0 = cc in let z : 4 ≡ 0 = ap (λ (y : Payload). y.number) q in absurd (omega (arith, z))

  two_checks : (check : Payload → Option ℕ) → check (payload 0) ≡ Some 18 → check (payload 4) ≡ Some 39 → (p last : Payload) (c : ℕ)
      → Some (payload 4) ≡ Some p → Some (payload 0) ≡ Some last → check p ≡ Some c → check last ≡ Some c → ⊥
  two_checks check a b p last c n l i j = let z : ◌≡◌ {A = ℕ} 39 18 = cc in absurd (omega (arith, z))

  never_taken : (x : Writes) → check_of crc8 pair x (payload 0) ≡ Some 18 → check_of crc8 pair x (payload 4) ≡ Some 39
      → Accounted crc8 pair x count_blind → ⊥
  never_taken x a b r = ⊎_elim (λ t. ⊎_elim other (λ f. f) t) (λ m. ⊎_elim mistaken (λ k. ⊎_elim (λ o. other (sym o.of_it)) (λ f. f) k) m) r.taken where
    other : r.payload ≡ payload 0 → ⊥
    other = apart r.payload r.named

    mistaken : Mistaken crc8 pair x r.payload (answer_to 4 (Some (payload 0))) → ⊥
    mistaken m = two_checks (check_of crc8 pair x) a b r.payload m.last m.check r.named m.was_last m.its_check m.same_check

-- ---- no giving up within the retry budget

fails_after_4 : (history 8 crc8 pair frames_lost).trials.failed 1 ≡ replicate 4 spoiled ∷ []
unfolding run_computed
fails_after_4 = refl

fails_after_3 : (weakened_history 1 counting_from_1 frames_lost).trials.failed 1 ≡ replicate 3 spoiled ∷ []
unfolding run_computed
fails_after_3 = refl

pub counting_from_1_gives_up : CountingFrom1GivesUp
counting_from_1_gives_up =
    (subst (All (OverBudget 3)) (sym fails_after_4) (λ h. omega arith, tt), λ o. within (subst (All (OverBudget 3)) fails_after_3 o)) where
      within : All (OverBudget 3) (replicate 3 spoiled ∷ []) → ⊥
      within o = absurd (omega (arith, o.0 (refl, (refl, (refl, tt)))))
