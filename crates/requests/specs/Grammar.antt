-- The lines that can be carried out, as they are written.
use Rattle.std.specs.Prelude.{◌≡◌, ℕ, ◌≤◌, List, [], ◌∷◌, reverse, length, Some, Ok, Err, codes, Result, ◌==◌}
use Rattle.words.specs.Numbers.{byte_of, together_of, decimal_of}
use Rattle.requests.specs.declared.lines.Kind.TheVariants.{Crc8, Crc16}
use Rattle.requests.specs.declared.lines.Line.{Line}
use Rattle.requests.specs.declared.lines.Stop.{Stop}
use Rattle.requests.specs.declared.lines.Stop.TheVariants.{Cannot as Unable, Memory}
use Rattle.requests.specs.Lines.{Request, kind, pack, read, field, unit, call, bench, load, check, box, hear, command, ce, irq, tick, make, carry, four_digits, asked}

-- words that are bytes, one for each
abbrev pub Write : List (List ℕ) → List ℕ → Type 0
Write [] [] = Unit {0}
Write [] (b ∷ bs) = ⊥
Write (w ∷ ws) [] = ⊥
Write (w ∷ ws) (b ∷ bs) = (byte_of w ≡ Some b) × Write ws bs

-- a label: 0 to 7
pub record Labels (u : List ℕ) (label : ℕ) : Type 0 where
  pub is : decimal_of u ≡ Some label
  pub high : label ≤ 7

-- the number of a unit: 0 to 255
pub record Numbers (u : List ℕ) (number : ℕ) : Type 0 where
  pub is : decimal_of u ≡ Some number
  pub high : number ≤ 255

-- the words of a line, and what they ask for
pub data Asks : List (List ℕ) → Request → Type 0 where
  -- kind crc8, kind crc16
  kind_crc8 : Asks (codes "kind" ∷ codes "crc8" ∷ []) (kind Crc8)
  kind_crc16 : Asks (codes "kind" ∷ codes "crc16" ∷ []) (kind Crc16)
  -- pack ADDRESS PID NOACK BYTES, the address high byte first
  packs : (a p n : List ℕ) (bs : List (List ℕ)) (address : List ℕ) (pid no_ack : ℕ) (payload : List ℕ)
      → together_of a ≡ Some address → 3 ≤ length address → length address ≤ 5
      → decimal_of p ≡ Some pid → pid ≤ 3
      → decimal_of n ≡ Some no_ack → no_ack ≤ 1
      → Write bs payload → length payload ≤ 32
      → Asks (codes "pack" ∷ a ∷ p ∷ n ∷ bs) (pack (record { address = reverse address; pid = pid; no_ack = (no_ack == 1); payload = payload }))
  -- read WIDTH BITS BYTES
  reads : (w n : List ℕ) (bs : List (List ℕ)) (width bits : ℕ) (bytes : List ℕ)
      → decimal_of w ≡ Some width → 3 ≤ width → width ≤ 5
      → decimal_of n ≡ Some bits → bits ≤ 65535
      → Write bs bytes
      → Asks (codes "read" ∷ w ∷ n ∷ bs) (read width bits bytes)
  -- field RR BYTES
  fields : (r : List ℕ) (ps : List (List ℕ)) (register : ℕ) (profile : List ℕ)
      → byte_of r ≡ Some register → Write ps profile
      → Asks (codes "field" ∷ r ∷ ps) (field register profile)
  -- bench U, check U, box U
  benches : (u : List ℕ) (label : ℕ) → Labels u label → Asks (codes "bench" ∷ u ∷ []) (unit label bench)
  checks : (u : List ℕ) (label : ℕ) → Labels u label → Asks (codes "check" ∷ u ∷ []) (unit label check)
  boxes : (u : List ℕ) (label : ℕ) → Labels u label → Asks (codes "box" ∷ u ∷ []) (unit label box)
  -- load U BYTES
  loads : (u : List ℕ) (ps : List (List ℕ)) (label : ℕ) (profile : List ℕ)
      → Labels u label → Write ps profile
      → Asks (codes "load" ∷ u ∷ ps) (unit label (load profile))
  -- hear U BITS BYTES
  hears : (u n : List ℕ) (bs : List (List ℕ)) (label bits : ℕ) (bytes : List ℕ)
      → Labels u label → decimal_of n ≡ Some bits → bits ≤ 65535 → Write bs bytes
      → Asks (codes "hear" ∷ u ∷ n ∷ bs) (unit label (hear bits bytes))
  -- command U BYTES, with 33 bytes for the reply
  commands : (u : List ℕ) (bs : List (List ℕ)) (number : ℕ) (bytes : List ℕ)
      → Numbers u number → Write bs bytes
      → Asks (codes "command" ∷ u ∷ bs) (call number (command 33 bytes))
  -- command U /R BYTES, with R bytes for the reply
  commands_with : (u n : List ℕ) (bs : List (List ℕ)) (number room : ℕ) (bytes : List ℕ)
      → Numbers u number → decimal_of n ≡ Some room → room ≤ 255 → Write bs bytes
      → Asks (codes "command" ∷ u ∷ (47 ∷ n) ∷ bs) (call number (command room bytes))
  -- ce U 0, ce U 1
  levels : (u n : List ℕ) (number level : ℕ)
      → Numbers u number → decimal_of n ≡ Some level → level ≤ 1
      → Asks (codes "ce" ∷ u ∷ n ∷ []) (call number (ce (level == 1)))
  -- irq U
  irqs : (u : List ℕ) (number : ℕ) → Numbers u number → Asks (codes "irq" ∷ u ∷ []) (call number irq)
  -- tick U, one tick
  ticks : (u : List ℕ) (number : ℕ) → Numbers u number → Asks (codes "tick" ∷ u ∷ []) (call number (tick 1))
  -- tick U N, up to N ticks
  ticks_up_to : (u n : List ℕ) (number times : ℕ)
      → Numbers u number → decimal_of n ≡ Some times → 1 ≤ times → times ≤ 65535
      → Asks (codes "tick" ∷ u ∷ n ∷ []) (call number (tick times))
  -- make
  makes : Asks (codes "make" ∷ []) make
  -- carry F
  carries : (n : List ℕ) (fate : ℕ) → decimal_of n ≡ Some fate → fate ≤ 255 → Asks (codes "carry" ∷ n ∷ []) (carry fate 0 0)
  -- carry F START PATTERN
  carries_changed : (n s p : List ℕ) (fate start pattern : ℕ)
      → decimal_of n ≡ Some fate → fate ≤ 255
      → decimal_of s ≡ Some start → start ≤ 65535
      → four_digits p ≡ Some pattern
      → Asks (codes "carry" ∷ n ∷ s ∷ p ∷ []) (carry fate start pattern)

-- what is answered is what the words ask for, and they ask for nothing else; where there is a reason instead, they ask for nothing
abbrev pub Settled : List (List ℕ) → Result Line Stop → Type 0
Settled ws (Ok line) = Asks ws (asked line) × ((q : Request) → Asks ws q → q ≡ asked line)
Settled ws (Err (Unable e)) = (q : Request) → Asks ws q → ⊥
Settled ws (Err Memory) = Unit {0}
