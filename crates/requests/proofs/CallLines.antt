-- The lines for the unit of a number: what the words ask for, and what is made of them.
use Rattle.std.proofs.Common.{◌≡◌, ℕ, ◌≤◌, Bool, true, false, cond, eqb, List, [], ◌∷◌, length, get_or, drop, Some, None, Ok, codes, Option, sym, refl, ap, ◌∙◌, subst, arith}
use Rattle.std.proofs.lemmas.Bool.{eqb-true}
use Rattle.words.specs.Numbers.{hex_digit, paired, pair_of, byte_of, decimal_of}
use Rattle.words.specs.Bytes.{bytes_after}
use Rattle.requests.specs.declared.lines.Form.TheVariants as form
use Rattle.requests.specs.declared.lines.Cannot.TheVariants.{Word, TooFew}
use Rattle.requests.specs.declared.lines.Wanted.TheVariants as want
use Rattle.requests.specs.Lines.{command, ce, irq, tick, Request, call, then, as_bytes, unit_of, level_of, times_of, times_at, room_number, room_of, command_with, command_line, ce_line, irq_line, tick_line}
use Rattle.requests.specs.Grammar.{Numbers, Write, Asks, commands, commands_with, levels, irqs, ticks, ticks_up_to}
use Rattle.requests.proofs.Steps.{never, ok_same, then_ok, enough, begun, crowded, bytes_last, number_fits, number_parts, bit_fits, bit_parts, bytes_fit}

-- ---- one word

pub unit_fits : (u : List ℕ) (number : ℕ) → Numbers u number → unit_of u ≡ Ok number
unit_fits u number h = number_fits 0 255 (Word 2 want.Unit) (decimal_of u) number h.is (omega arith) h.high

unit_parts : (u : List ℕ) (number : ℕ) → unit_of u ≡ Ok number → Numbers u number
unit_parts u number h = let p = number_parts 0 255 (Word 2 want.Unit) (decimal_of u) number h in record { is = p.0; high = p.1.1 }

none_paired : (o : Option ℕ) → paired None o ≡ None
none_paired (Some l) = refl
none_paired None = refl

none_either : (b : Bool) → ◌≡◌ {A = Option ℕ} (cond b None None) None
none_either true = refl
none_either false = refl

-- a byte does not begin with '/'
plain_by : (b : Bool) (w : List ℕ) (v : ℕ) → eqb (get_or w 0 0) 47 ≡ b → byte_of w ≡ Some v → b ≡ false
plain_by false w v e h = refl
plain_by true w v e h =
    let first : get_or w 0 0 ≡ 47 = eqb-true (get_or w 0 0) 47 e in
    let none : byte_of w ≡ None =
    ap (λ c. cond (eqb (length w) 2) (pair_of c (get_or w 1 0)) None) first
    ∙ ap (λ o. cond (eqb (length w) 2) o None) (none_paired (hex_digit (get_or w 1 0)))
    ∙ none_either (eqb (length w) 2) in
    let z : ◌≡◌ {A = ℕ} 0 1 = cc in
    absurd (omega arith)

no_room : (w : List ℕ) (v : ℕ) → byte_of w ≡ Some v → room_of w ≡ Ok None
no_room w v h = ap (λ b. cond b (then (room_number (drop 1 w)) (λ n. Ok (Some n))) (Ok None)) (plain_by (eqb (get_or w 0 0) 47) w v refl h)

-- ---- from the words to the answer

-- up to the room
command_begun : (u : List ℕ) (bs : List (List ℕ)) (number : ℕ) → Numbers u number
    → command_line (codes "command" ∷ u ∷ bs) ≡ then (room_of (get_or bs 0 [])) (command_with (codes "command" ∷ u ∷ bs) number)
command_begun u bs number is = rw (enough 2 (codes "command" ∷ u ∷ bs) (omega arith), unit_fits u number is) refl

room_left : (bs : List (List ℕ)) (bytes : List ℕ) → Write bs bytes → room_of (get_or bs 0 []) ≡ Ok None
room_left [] bytes h = refl
room_left (w ∷ bs) [] h = absurd h
room_left (w ∷ bs) (b ∷ bytes) h = no_room w b h.0

pub commands_complete : (u : List ℕ) (bs : List (List ℕ)) (number : ℕ) (bytes : List ℕ) → Numbers u number → Write bs bytes → command_line (codes "command" ∷ u ∷ bs) ≡ Ok (call number (command 33 bytes))
commands_complete u bs number bytes is are = command_begun u bs number is ∙ rw (room_left bs bytes are, bytes_fit bs bytes [] 2 are) refl

pub commands_with_complete : (u n : List ℕ) (bs : List (List ℕ)) (number room : ℕ) (bytes : List ℕ) → Numbers u number → decimal_of n ≡ Some room → room ≤ 255 → Write bs bytes
    → command_line (codes "command" ∷ u ∷ (47 ∷ n) ∷ bs) ≡ Ok (call number (command room bytes))
commands_with_complete u n bs number room bytes is room_is room_high are =
    command_begun u ((47 ∷ n) ∷ bs) number is
    ∙ rw (number_fits 0 255 (Word 3 want.Room) (decimal_of n) room room_is (omega arith) room_high, bytes_fit bs bytes [] 3 are) refl

pub levels_complete : (u n : List ℕ) (number level : ℕ) → Numbers u number → decimal_of n ≡ Some level → level ≤ 1 → ce_line (codes "ce" ∷ u ∷ n ∷ []) ≡ Ok (call number (ce (eqb level 1)))
levels_complete u n number level is n-is n-high = rw (unit_fits u number is, bit_fits 3 want.Level n level n-is n-high) refl

pub irqs_complete : (u : List ℕ) (number : ℕ) → Numbers u number → irq_line (codes "irq" ∷ u ∷ []) ≡ Ok (call number irq)
irqs_complete u number is = rw (unit_fits u number is) refl

pub ticks_complete : (u : List ℕ) (number : ℕ) → Numbers u number → tick_line (codes "tick" ∷ u ∷ []) ≡ Ok (call number (tick 1))
ticks_complete u number is = rw (unit_fits u number is) refl

pub ticks_up_to_complete : (u n : List ℕ) (number times : ℕ) → Numbers u number → decimal_of n ≡ Some times → 1 ≤ times → times ≤ 65535
    → tick_line (codes "tick" ∷ u ∷ n ∷ []) ≡ Ok (call number (tick times))
ticks_up_to_complete u n number times is n-is n-low n-high =
    rw (unit_fits u number is, number_fits 1 65535 (Word 3 want.Times) (decimal_of n) times n-is n-low n-high) refl

-- ---- and back

-- with the usual room, where the third word, if there is one, does not begin with '/'
usual_back : (u : List ℕ) (bs : List (List ℕ)) (l : ℕ) (q : Request) → Numbers u l
    → then (as_bytes (bytes_after [] 2 bs)) (λ v. Ok (call l (command 33 v))) ≡ Ok q → Asks (codes "command" ∷ u ∷ bs) q
usual_back u bs l q is h =
    let p = bytes_last bs 2 (λ v. call l (command 33 v)) q h in
    subst (Asks (codes "command" ∷ u ∷ bs)) p.1.1 (commands u bs l p.0 is p.1.0)

room_back : (u n : List ℕ) (bs : List (List ℕ)) (l : ℕ) (q : Request) → Numbers u l
    → then (then (room_number n) (λ m. Ok (Some m))) (command_with (codes "command" ∷ u ∷ (47 ∷ n) ∷ bs) l) ≡ Ok q → Asks (codes "command" ∷ u ∷ (47 ∷ n) ∷ bs) q
room_back u n bs l q is h =
    let ws = codes "command" ∷ u ∷ (47 ∷ n) ∷ bs in
    let s1 = then_ok (then (room_number n) (λ m. Ok (Some m))) (command_with ws l) q h in
    let s2 = then_ok (room_number n) (λ m. Ok (Some m)) s1.0 s1.1.0 in
    let room = s2.0 in
    let rest : then (as_bytes (bytes_after [] 3 bs)) (λ v. Ok (call l (command room v))) ≡ Ok q = ap (command_with ws l) (ok_same s2.1.1) ∙ s1.1.1 in
    let number = number_parts 0 255 (Word 3 want.Room) (decimal_of n) room s2.1.0 in
    let p = bytes_last bs 3 (λ v. call l (command room v)) q rest in
    subst (Asks ws) p.1.1 (commands_with u n bs l room p.0 is number.0 number.1.1 p.1.0)

slash_by : (b : Bool) (u : List ℕ) (c : ℕ) (n : List ℕ) (bs : List (List ℕ)) (l : ℕ) (q : Request) → Numbers u l → eqb c 47 ≡ b
    → then (cond b (then (room_number n) (λ m. Ok (Some m))) (Ok None)) (command_with (codes "command" ∷ u ∷ (c ∷ n) ∷ bs) l) ≡ Ok q → Asks (codes "command" ∷ u ∷ (c ∷ n) ∷ bs) q
slash_by false u c n bs l q is e h = usual_back u ((c ∷ n) ∷ bs) l q is h
slash_by true u c n bs l q is e h =
    let same : c ≡ 47 = eqb-true c 47 e in
    let given = subst (λ x. then (then (room_number n) (λ m. Ok (Some m))) (command_with (codes "command" ∷ u ∷ (x ∷ n) ∷ bs) l) ≡ Ok q) same h in
    subst (λ x. Asks (codes "command" ∷ u ∷ (x ∷ n) ∷ bs) q) (sym same) (room_back u n bs l q is given)

third_back : (u : List ℕ) (bs : List (List ℕ)) (l : ℕ) (q : Request) → Numbers u l
    → then (room_of (get_or bs 0 [])) (command_with (codes "command" ∷ u ∷ bs) l) ≡ Ok q → Asks (codes "command" ∷ u ∷ bs) q
third_back u [] l q is h = usual_back u [] l q is h
third_back u ([] ∷ bs) l q is h = usual_back u ([] ∷ bs) l q is h
third_back u ((c ∷ n) ∷ bs) l q is h = slash_by (eqb c 47) u c n bs l q is refl h

pub command_back : (w : List ℕ) (ws : List (List ℕ)) (q : Request) → command_line (w ∷ ws) ≡ Ok q → Asks (codes "command" ∷ ws) q
command_back w [] q h = never (TooFew form.Command) q h
command_back w (u ∷ bs) q h =
    let s = begun 2 form.Command (w ∷ u ∷ bs) (unit_of u) (λ l. then (room_of (get_or bs 0 [])) (command_with (w ∷ u ∷ bs) l)) q h in
    third_back u bs s.0 q (unit_parts u s.0 s.1.0) s.1.1

pub ce_back : (w : List ℕ) (ws : List (List ℕ)) (q : Request) → ce_line (w ∷ ws) ≡ Ok q → Asks (codes "ce" ∷ ws) q
ce_back w [] q h = never (TooFew form.Ce) q h
ce_back w (u ∷ []) q h = never (TooFew form.Ce) q h
ce_back w (u ∷ n ∷ []) q h =
    let s = then_ok (unit_of u) (λ v. then (level_of n) (λ b. Ok (call v (ce b)))) q h in
    let t = then_ok (level_of n) (λ b. Ok (call s.0 (ce b))) q s.1.1 in
    let level = bit_parts 3 want.Level n t.0 t.1.0 in
    let same = ap (λ b. call s.0 (ce b)) level.1.1.1 ∙ ok_same t.1.1 in
    subst (Asks (codes "ce" ∷ u ∷ n ∷ [])) same (levels u n s.0 level.0 (unit_parts u s.0 s.1.0) level.1.0 level.1.1.0)
ce_back w (u ∷ n ∷ x ∷ ws) q h =
    absurd (crowded 3 3 form.Ce (w ∷ u ∷ n ∷ x ∷ ws) (then (unit_of u) (λ v. then (level_of n) (λ b. Ok (call v (ce b))))) q (omega arith) h)

pub irq_back : (w : List ℕ) (ws : List (List ℕ)) (q : Request) → irq_line (w ∷ ws) ≡ Ok q → Asks (codes "irq" ∷ ws) q
irq_back w [] q h = never (TooFew form.Irq) q h
irq_back w (u ∷ []) q h =
    let s = then_ok (unit_of u) (λ v. Ok (call v irq)) q h in
    subst (Asks (codes "irq" ∷ u ∷ [])) (ok_same s.1.1) (irqs u s.0 (unit_parts u s.0 s.1.0))
irq_back w (u ∷ x ∷ ws) q h =
    absurd (crowded 2 2 form.Irq (w ∷ u ∷ x ∷ ws) (then (unit_of u) (λ v. Ok (call v irq))) q (omega arith) h)

pub tick_back : (w : List ℕ) (ws : List (List ℕ)) (q : Request) → tick_line (w ∷ ws) ≡ Ok q → Asks (codes "tick" ∷ ws) q
tick_back w [] q h = never (TooFew form.Tick) q h
tick_back w (u ∷ []) q h =
    let s = then_ok (unit_of u) (λ v. Ok (call v (tick 1))) q h in
    subst (Asks (codes "tick" ∷ u ∷ [])) (ok_same s.1.1) (ticks u s.0 (unit_parts u s.0 s.1.0))
tick_back w (u ∷ n ∷ []) q h =
    let s = then_ok (unit_of u) (λ v. then (times_of n) (λ m. Ok (call v (tick m)))) q h in
    let t = then_ok (times_of n) (λ m. Ok (call s.0 (tick m))) q s.1.1 in
    let times = number_parts 1 65535 (Word 3 want.Times) (decimal_of n) t.0 t.1.0 in
    subst (Asks (codes "tick" ∷ u ∷ n ∷ [])) (ok_same t.1.1) (ticks_up_to u n s.0 t.0 (unit_parts u s.0 s.1.0) times.0 times.1.0 times.1.1)
tick_back w (u ∷ n ∷ x ∷ ws) q h =
    absurd (crowded 2 3 form.Tick (w ∷ u ∷ n ∷ x ∷ ws) (then (unit_of u) (λ v. then (times_at (w ∷ u ∷ n ∷ x ∷ ws)) (λ m. Ok (call v (tick m))))) q (omega arith) h)
