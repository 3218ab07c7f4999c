-- What a line asks for by its words, and what is made of it, are the same.
use Rattle.std.proofs.Common.{◌≡◌, ℕ, ◌≤◌, Bool, true, false, cond, eqb, ltb, List, [], ◌∷◌, reverse, length, Some, None, Ok, Err, codes, Result, sym, refl, ap, ◌∙◌, subst, arith}
use Rattle.std.specs.Str.{bytes_eq}
use Rattle.std.proofs.lemmas.Bool.{le-ltb, ltb-false}
use Rattle.words.specs.Numbers.{together_of, decimal_of}
use Rattle.words.specs.Bytes.{bytes_after}
use Rattle.requests.specs.declared.lines.Kind.TheVariants.{Crc8, Crc16}
use Rattle.requests.specs.declared.lines.Form.TheVariants as form
use Rattle.requests.specs.declared.lines.Cannot.{Cannot}
use Rattle.requests.specs.declared.lines.Cannot.TheVariants.{Word, TooFew, PayloadLength}
use Rattle.requests.specs.declared.lines.Wanted.TheVariants as want
use Rattle.requests.specs.declared.lines.Line.{Line}
use Rattle.requests.specs.declared.lines.Stop.{Stop}
use Rattle.requests.specs.declared.lines.Stop.TheVariants.{Cannot as Unable, Memory}
use Rattle.requests.specs.Lines.{asked, Gives, Request, kind, pack, read, unit, bench, check, box, then, or_else, kind_named, address_of, number_in, bit_of, as_bytes, kind_line, pack_line, read_line, unit_form_named, line_as, line_of}
use Rattle.requests.specs.Grammar.{Settled, Asks, kind_crc8, kind_crc16, packs, reads, fields, benches, checks, boxes, loads, hears, commands, commands_with, levels, irqs, ticks, ticks_up_to, makes, carries, carries_changed}
use Rattle.requests.proofs.Steps.{never, ok_same, then_ok, unless, enough, begun, crowded, bytes_last, number_fits, number_parts, address_fits, address_parts, bit_fits, bit_parts, bytes_fit, bytes_parts, named, choose}
use Rattle.requests.proofs.UnitLines.{label_fits, fields_complete, loads_complete, hears_complete, plain_back, field_back, load_back, hear_back}
use Rattle.requests.proofs.CellLines.{carries_complete, carries_changed_complete, make_back, carry_back}
use Rattle.requests.proofs.CallLines.{commands_complete, commands_with_complete, levels_complete, irqs_complete, ticks_complete, ticks_up_to_complete, command_back, ce_back, irq_back, tick_back}

-- ---- from the words to the answer

complete : (ws : List (List ℕ)) (q : Request) → Asks ws q → line_of ws ≡ Ok q
complete ws q kind_crc8 = refl
complete ws q kind_crc16 = refl
complete ws q (packs a p n bs address pid no_ack payload a-is a-low a-high p-is p-high n-is n-high b-are b-few) =
    rw (
      enough 4 (codes "pack" ∷ a ∷ p ∷ n ∷ bs) (omega arith),
      address_fits (Word 2 want.Address) (together_of a) address a-is a-low a-high,
      number_fits 0 3 (Word 3 want.Pid) (decimal_of p) pid p-is (omega arith) p-high,
      bit_fits 4 want.NoAck n no_ack n-is n-high,
      bytes_fit bs payload [] 4 b-are,
      le-ltb 32 (length payload) b-few,
    ) refl
complete ws q (reads w n bs width bits bytes w-is w-low w-high n-is n-high b-are) =
    rw (
      enough 3 (codes "read" ∷ w ∷ n ∷ bs) (omega arith),
      number_fits 3 5 (Word 2 want.Width) (decimal_of w) width w-is w-low w-high,
      number_fits 0 65535 (Word 3 want.BitCount) (decimal_of n) bits n-is (omega arith) n-high,
      bytes_fit bs bytes [] 3 b-are,
    ) refl
complete ws q (fields r ps register profile is are) = fields_complete r ps register profile is are
complete ws q (benches u label is) = ap (λ x. then x (λ l. Ok (unit l bench))) (label_fits u label is)
complete ws q (checks u label is) = ap (λ x. then x (λ l. Ok (unit l check))) (label_fits u label is)
complete ws q (boxes u label is) = ap (λ x. then x (λ l. Ok (unit l box))) (label_fits u label is)
complete ws q (loads u ps label profile is are) = loads_complete u ps label profile is are
complete ws q (hears u n bs label bits bytes is n-is n-high are) = hears_complete u n bs label bits bytes is n-is n-high are
complete ws q (commands u bs number bytes is are) = commands_complete u bs number bytes is are
complete ws q (commands_with u n bs number room bytes is room_is room_high are) = commands_with_complete u n bs number room bytes is room_is room_high are
complete ws q (levels u n number level is n-is n-high) = levels_complete u n number level is n-is n-high
complete ws q (irqs u number is) = irqs_complete u number is
complete ws q (ticks u number is) = ticks_complete u number is
complete ws q makes = refl
complete ws q (carries n fate is high) = carries_complete n fate is high
complete ws q (carries_changed n s p fate start pattern is high s-is s-high p-is) = carries_changed_complete n s p fate start pattern is high s-is s-high p-is
complete ws q (ticks_up_to u n number times is n-is n-low n-high) = ticks_up_to_complete u n number times is n-is n-low n-high

-- ---- and back

kind_by : (a b : Bool) (w : List ℕ) (q : Request) → bytes_eq w (codes "crc8") ≡ a → bytes_eq w (codes "crc16") ≡ b
    → then (cond a (Ok Crc8) (cond b (Ok Crc16) (Err (Word 2 want.Kind)))) (λ k. Ok (kind k)) ≡ Ok q → Asks (codes "kind" ∷ w ∷ []) q
kind_by true b w q ha hb h =
    let same : kind Crc8 ≡ q = cc in
    subst (λ x. Asks (codes "kind" ∷ x ∷ []) q) (sym (named w (codes "crc8") ha)) (subst (λ x. Asks (codes "kind" ∷ codes "crc8" ∷ []) x) same kind_crc8)
kind_by false true w q ha hb h =
    let same : kind Crc16 ≡ q = cc in
    subst (λ x. Asks (codes "kind" ∷ x ∷ []) q) (sym (named w (codes "crc16") hb)) (subst (λ x. Asks (codes "kind" ∷ codes "crc16" ∷ []) x) same kind_crc16)
kind_by false false w q ha hb h = never (Word 2 want.Kind) q h

kind_back : (w : List ℕ) (ws : List (List ℕ)) (q : Request) → kind_line (w ∷ ws) ≡ Ok q → Asks (codes "kind" ∷ ws) q
kind_back w [] q h = never (TooFew form.Kind) q h
kind_back w (k ∷ []) q h = kind_by (bytes_eq k (codes "crc8")) (bytes_eq k (codes "crc16")) k q refl refl h
kind_back w (k ∷ x ∷ ws) q h =
    absurd (crowded 2 2 form.Kind (w ∷ k ∷ x ∷ ws) (then (kind_named k) (λ kk. Ok (kind kk))) q (omega arith) h)

pack_back : (w : List ℕ) (ws : List (List ℕ)) (q : Request) → pack_line (w ∷ ws) ≡ Ok q → Asks (codes "pack" ∷ ws) q
pack_back w [] q h = never (TooFew form.Pack) q h
pack_back w (a ∷ []) q h = never (TooFew form.Pack) q h
pack_back w (a ∷ p ∷ []) q h = never (TooFew form.Pack) q h
pack_back w (a ∷ p ∷ n ∷ bs) q h =
    let made : List ℕ → ℕ → Bool → List ℕ → Request = λ u v t s. pack (record { address = u; pid = v; no_ack = t; payload = s }) in
    let ra = or_else (address_of a) (Word 2 want.Address) in
    let rp = number_in 0 3 (Word 3 want.Pid) (decimal_of p) in
    let rn = bit_of 4 want.NoAck n in
    let rb = as_bytes (bytes_after [] 4 bs) in
    let f4 : List ℕ → ℕ → Bool → List ℕ → Result Request Cannot = λ u v t s. cond (ltb 32 (length s)) (Err PayloadLength) (Ok (made u v t s)) in
    let f3 : List ℕ → ℕ → Bool → Result Request Cannot = λ u v t. then rb (f4 u v t) in
    let f2 : List ℕ → ℕ → Result Request Cannot = λ u v. then rn (f3 u v) in
    let f1 : List ℕ → Result Request Cannot = λ u. then rp (f2 u) in
    let s1 = begun 4 form.Pack (w ∷ a ∷ p ∷ n ∷ bs) ra f1 q h in
    let u = s1.0 in
    let s2 = then_ok rp (f2 u) q s1.1.1 in
    let v = s2.0 in
    let s3 = then_ok rn (f3 u v) q s2.1.1 in
    let t = s3.0 in
    let s4 = then_ok rb (f4 u v t) q s3.1.1 in
    let s = s4.0 in
    let end = unless (ltb 32 (length s)) PayloadLength (Ok (made u v t s)) q s4.1.1 in
    let address = address_parts (Word 2 want.Address) (together_of a) u s1.1.0 in
    let pid = number_parts 0 3 (Word 3 want.Pid) (decimal_of p) v s2.1.0 in
    let no_ack = bit_parts 4 want.NoAck n t s3.1.0 in
    let m = no_ack.0 in
    let bytes = bytes_parts bs [] s 4 s4.1.0 in
    let few : length bytes.0 ≤ 32 = subst (λ l. length l ≤ 32) (sym bytes.1.0) (ltb-false 32 (length s) end.0) in
    let same : made (reverse address.0) v (eqb m 1) bytes.0 ≡ q =
    ap (λ x. made x v (eqb m 1) bytes.0) address.1.1.1.1 ∙ ap (λ x. made u v x bytes.0) no_ack.1.1.1 ∙ ap (made u v t) bytes.1.0 ∙ ok_same end.1 in
    subst (λ x. Asks (codes "pack" ∷ a ∷ p ∷ n ∷ bs) x) same
    (packs a p n bs address.0 v m bytes.0 address.1.0 address.1.1.0 address.1.1.1.0 pid.0 pid.1.1 no_ack.1.0 no_ack.1.1.0 bytes.1.1 few)

read_back : (w : List ℕ) (ws : List (List ℕ)) (q : Request) → read_line (w ∷ ws) ≡ Ok q → Asks (codes "read" ∷ ws) q
read_back w [] q h = never (TooFew form.Read) q h
read_back w (x ∷ []) q h = never (TooFew form.Read) q h
read_back w (x ∷ n ∷ bs) q h =
    let rn = number_in 0 65535 (Word 3 want.BitCount) (decimal_of n) in
    let f2 : ℕ → ℕ → Result Request Cannot = λ u v. then (as_bytes (bytes_after [] 3 bs)) (λ s. Ok (read u v s)) in
    let s1 = begun 3 form.Read (w ∷ x ∷ n ∷ bs) (number_in 3 5 (Word 2 want.Width) (decimal_of x)) (λ u. then rn (f2 u)) q h in
    let u = s1.0 in
    let s2 = then_ok rn (f2 u) q s1.1.1 in
    let v = s2.0 in
    let width = number_parts 3 5 (Word 2 want.Width) (decimal_of x) u s1.1.0 in
    let bits = number_parts 0 65535 (Word 3 want.BitCount) (decimal_of n) v s2.1.0 in
    let b = bytes_last bs 3 (read u v) q s2.1.1 in
    subst (Asks (codes "read" ∷ x ∷ n ∷ bs)) b.1.1 (reads x n bs u v b.0 width.0 width.1.0 width.1.1 bits.0 bits.1.1 b.1.0)

-- all but the lines for the check and for frames
unit_line : (w : List ℕ) (ws : List (List ℕ)) (q : Request) → line_as (unit_form_named w) (w ∷ ws) ≡ Ok q → Asks (w ∷ ws) q
unit_line w ws q =
    choose (Some form.Bench) _ (codes "bench") w ws q (plain_back (codes "bench") form.Bench bench benches w ws q) (
    choose (Some form.Load) _ (codes "load") w ws q (load_back w ws q) (
    choose (Some form.Field) _ (codes "field") w ws q (field_back w ws q) (
    choose (Some form.Check) _ (codes "check") w ws q (plain_back (codes "check") form.Check check checks w ws q) (
    choose (Some form.Box) _ (codes "box") w ws q (plain_back (codes "box") form.Box box boxes w ws q) (
    choose (Some form.Command) _ (codes "command") w ws q (command_back w ws q) (
    choose (Some form.Ce) _ (codes "ce") w ws q (ce_back w ws q) (
    choose (Some form.Irq) _ (codes "irq") w ws q (irq_back w ws q) (
    choose (Some form.Tick) _ (codes "tick") w ws q (tick_back w ws q) (
    choose (Some form.Hear) _ (codes "hear") w ws q (hear_back w ws q) (
    choose (Some form.Make) _ (codes "make") w ws q (make_back w ws q) (
    choose (Some form.Carry) None (codes "carry") w ws q (carry_back w ws q) (never (Word 1 want.Form) q))))))))))))

sound : (ws : List (List ℕ)) (q : Request) → line_of ws ≡ Ok q → Asks ws q
sound [] q = never (Word 1 want.Form) q
sound (w ∷ ws) q =
    choose (Some form.Kind) _ (codes "kind") w ws q (kind_back w ws q) (
    choose (Some form.Pack) _ (codes "pack") w ws q (pack_back w ws q) (
    choose (Some form.Read) _ (codes "read") w ws q (read_back w ws q) (unit_line w ws q)))

-- ---- what is answered settles the line

pub settled : (ws : List (List ℕ)) (r : Result Line Stop) → Gives asked r (line_of ws) → Settled ws r
settled ws (Ok line) h = (sound ws (asked line) h, λ q asks. ok_same (sym (complete ws q asks) ∙ h))
settled ws (Err (Unable e)) h = λ q asks. never e q (sym h ∙ complete ws q asks)
settled ws (Err Memory) h = tt
