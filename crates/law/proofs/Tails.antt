-- A sender's queue as the tail of what it wrote, and its modes.
use Rattle.std.proofs.Common.{◌≡◌, ℕ, zero, suc, ◌+◌, ◌%◌, ◌<◌, ◌≤◌, Bool, true, false, ◌⊎◌, List, [], ◌∷◌, ◌++◌, length, drop, sym, refl, ap, ◌∙◌, subst, ⊎_elim, arith}
use Rattle.std.proofs.lemmas.List.{drop_all, drop-append-le, drop-drop}
use Rattle.frames.specs.declared.fields.Pid.{Pid}
use Rattle.frames.specs.declared.fields.Pid.TheVariants.{Zero, One as PidOne, Two as PidTwo, Three as PidThree}
use Rattle.frames.specs.Calls.{next_pid, pid_number}
use Rattle.modes.specs.declared.parts.Mode.{Mode}
use Rattle.modes.specs.declared.parts.Mode.TheVariants.{Shutdown, Starting, Standby, IdleTx, Tuning, Rx, Waiting}
use Rattle.modes.specs.Modes.{is_waiting}
use Rattle.unit.specs.Entries.{data_of}
use Rattle.law.specs.Law.{Exchange}
use Rattle.law.proofs.Inv.{pid_at, numbered, trying, TriesOk}

-- ---- numbers of payloads

pub next_identity : (n : ℕ) → pid_at (suc n) ≡ next_pid (pid_at n)
unfolding pid_at
next_identity n = refl

next_number : (p : Pid) → pid_number (next_pid p) ≡ (pid_number p + 1) % 4
next_number Zero = refl
next_number PidOne = refl
next_number PidTwo = refl
next_number PidThree = refl

pub identity_number : (n : ℕ) → pid_number (pid_at n) ≡ n % 4
unfolding pid_at
identity_number zero = refl
identity_number (suc n) = next_number (pid_at n) ∙ omega (arith, identity_number n)

pub numbered_none : (g : ℕ) → numbered g [] ≡ []
unfolding numbered
numbered_none g = refl

pub numbered_first : (g : ℕ) (d : List ℕ) (ds : List (List ℕ)) → numbered g (d ∷ ds) ≡ record { pid = pid_at (suc g); «data» = data_of d } ∷ numbered (suc g) ds
unfolding numbered
numbered_first g d ds = refl

pub numbered_push : (g : ℕ) (ds : List (List ℕ)) (d : List ℕ) → numbered g (ds ++ (d ∷ [])) ≡ numbered g ds ++ (record { pid = pid_at (suc (g + length ds)); «data» = data_of d } ∷ [])
unfolding numbered
numbered_push g [] d = let e : g ≡ g + 0 = omega arith in ap (λ n. record { pid = pid_at (suc n); «data» = data_of d } ∷ []) e
numbered_push g (x ∷ ds) d =
    let e : suc g + length ds ≡ g + suc (length ds) = omega arith in
    ap (λ l. record { pid = pid_at (suc g); «data» = data_of x } ∷ l)
    (numbered_push (suc g) ds d ∙ ap (λ n. numbered (suc g) ds ++ (record { pid = pid_at (suc n); «data» = data_of d } ∷ [])) e)

length_numbered : (g : ℕ) (ds : List (List ℕ)) → length (numbered g ds) ≡ length ds
unfolding numbered
length_numbered g [] = refl
length_numbered g (d ∷ ds) = ap suc (length_numbered (suc g) ds)

pub length_left : (g : ℕ) (ds : List (List ℕ)) → g ≤ length ds → g + length (drop g ds) ≡ length ds
length_left zero ds h = omega arith
length_left (suc g) [] h = absurd (omega (arith, h))
length_left (suc g) (d ∷ ds) h = omega (arith, length_left g ds (omega (arith, h)))

-- one payload more
pub tail_push : (g : ℕ) (ds : List (List ℕ)) (d : List ℕ) → g ≤ length ds
    → numbered g (drop g (ds ++ (d ∷ []))) ≡ numbered g (drop g ds) ++ (record { pid = pid_at (suc (length ds)); «data» = data_of d } ∷ [])
tail_push g ds d h =
    ap (numbered g) (drop-append-le g ds (d ∷ []) h) ∙ numbered_push g (drop g ds) d
    ∙ ap (λ n. numbered g (drop g ds) ++ (record { pid = pid_at (suc n); «data» = data_of d } ∷ [])) (length_left g ds h)

-- none left
pub tail_none : (ds : List (List ℕ)) → numbered (length ds) (drop (length ds) ds) ≡ []
tail_none ds = ap (numbered (length ds)) (drop_all (length ds) ds (omega arith)) ∙ numbered_none (length ds)

-- the oldest is gone
tail_rest_by : (g : ℕ) (ds : List (List ℕ)) → drop 1 (numbered g ds) ≡ numbered (suc g) (drop 1 ds)
unfolding numbered
tail_rest_by g [] = refl
tail_rest_by g (d ∷ ds) = refl

pub tail_rest : (g : ℕ) (ds : List (List ℕ)) → drop 1 (numbered g (drop g ds)) ≡ numbered (suc g) (drop (suc g) ds)
tail_rest g ds =
    let e : g + 1 ≡ suc g = omega arith in
    tail_rest_by g (drop g ds) ∙ ap (numbered (suc g)) (drop-drop 1 g ds ∙ ap (λ n. drop n ds) e)

-- how many wait
pub tail_length : (g : ℕ) (ds : List (List ℕ)) → g ≤ length ds → g + length (numbered g (drop g ds)) ≡ length ds
tail_length g ds h = ap (λ n. g + n) (length_numbered g (drop g ds)) ∙ length_left g ds h

-- the oldest of those that wait
pub tail_first : (g : ℕ) (ds : List (List ℕ)) → g < length ds → (d : List ℕ) × (es : List (List ℕ)) × (drop g ds ≡ d ∷ es)
tail_first zero [] h = absurd (omega (arith, h))
tail_first zero (d ∷ ds) h = (d, ds, refl)
tail_first (suc g) [] h = absurd (omega (arith, h))
tail_first (suc g) (d ∷ ds) h = tail_first g ds (omega (arith, h))

-- ---- modes

-- a mode in which nothing is tried before and after, or the same one
abbrev pub Calm : Mode → Mode → Type 0
Calm m n = (n ≡ m) ⊎ ((trying m ≡ false) × (trying n ≡ false))

pub waiting_tries : (m : Mode) → is_waiting m ≡ true → trying m ≡ true
waiting_tries Shutdown h = h
waiting_tries (Starting left) h = h
waiting_tries Standby h = h
waiting_tries IdleTx h = h
waiting_tries (Tuning left) h = refl
waiting_tries Rx h = h
waiting_tries (Waiting left) h = refl

pub no_tries : (m : Mode) (again arc : ℕ) (xs : List Exchange) (P : Type 0) → trying m ≡ false → TriesOk m again arc xs P → xs ≡ []
no_tries Shutdown again arc xs P h t = t
no_tries (Starting left) again arc xs P h t = t
no_tries Standby again arc xs P h t = t
no_tries IdleTx again arc xs P h t = t
no_tries (Tuning left) again arc xs P h t = let z : ◌≡◌ {A = ℕ} 0 1 = cc in absurd (omega arith)
no_tries Rx again arc xs P h t = t
no_tries (Waiting left) again arc xs P h t = let z : ◌≡◌ {A = ℕ} 0 1 = cc in absurd (omega arith)

pub tries_none : (m : Mode) (again arc : ℕ) (xs : List Exchange) (P : Type 0) → trying m ≡ false → xs ≡ [] → TriesOk m again arc xs P
tries_none Shutdown again arc xs P h t = t
tries_none (Starting left) again arc xs P h t = t
tries_none Standby again arc xs P h t = t
tries_none IdleTx again arc xs P h t = t
tries_none (Tuning left) again arc xs P h t = let z : ◌≡◌ {A = ℕ} 0 1 = cc in absurd (omega arith)
tries_none Rx again arc xs P h t = t
tries_none (Waiting left) again arc xs P h t = let z : ◌≡◌ {A = ℕ} 0 1 = cc in absurd (omega arith)

pub calm_tries : (m n : Mode) (again arc : ℕ) (xs : List Exchange) (P : Type 0) → Calm m n → TriesOk m again arc xs P → TriesOk n again arc xs P
calm_tries m n again arc xs P h t =
    ⊎_elim (λ e. subst (λ k. TriesOk k again arc xs P) (sym e) t) (λ e. tries_none n again arc xs P e.1 (no_tries m again arc xs P e.0 t)) h

pub calm_waits : (m n : Mode) → Calm m n → is_waiting n ≡ true → is_waiting m ≡ true
calm_waits m n h w =
    ⊎_elim (λ e. subst (λ k. is_waiting k ≡ true) e w)
    (λ e. let z : ◌≡◌ {A = Bool} true false = sym (waiting_tries n w) ∙ e.1 in let y : ◌≡◌ {A = ℕ} 0 1 = cc in absurd (omega arith)) h

pub calm_busy : (m n : Mode) → Calm m n → trying n ≡ true → trying m ≡ true
calm_busy m n h w =
    ⊎_elim (λ e. subst (λ k. trying k ≡ true) e w)
    (λ e. let z : ◌≡◌ {A = Bool} true false = sym w ∙ e.1 in let y : ◌≡◌ {A = ℕ} 0 1 = cc in absurd (omega arith)) h
