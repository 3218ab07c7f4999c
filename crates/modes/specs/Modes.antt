-- What CE, ticks, acknowledgements and flushes do to the mode, the flags and the counters.
use Rattle.std.specs.Prelude.{ℕ, ◌+◌, ◌-◌, ◌*◌, Bool, true, false, cond, not, ◌&&◌, nat_lt}
use Rattle.registers.specs.Bits.{bit}
use Rattle.commands.specs.declared.flags.Flags.{Flags}
use Rattle.modes.specs.declared.parts.Mode.{Mode}
use Rattle.modes.specs.declared.parts.Mode.TheVariants.{Shutdown, Starting, Standby, IdleTx, Tuning, Rx, Waiting}
use Rattle.modes.specs.declared.parts.Role.{Role}
use Rattle.modes.specs.declared.parts.Role.TheVariants.{Sender, Receiver}
use Rattle.modes.specs.declared.parts.Retry.{Retry}
use Rattle.modes.specs.declared.parts.Counts.{Counts}
use Rattle.modes.specs.declared.parts.Core.{Core}

-- ---- parts of the state replaced

abbrev pub in_mode : Core → Mode → Core
in_mode c m = record { ce = c.ce; mode = m; config = c.config; flags = c.flags; counts = c.counts }

abbrev pub flagged : Core → Flags → Core
flagged c f = record { ce = c.ce; mode = c.mode; config = c.config; flags = f; counts = c.counts }

abbrev pub counting : Core → Counts → Core
counting c n = record { ce = c.ce; mode = c.mode; config = c.config; flags = c.flags; counts = n }

abbrev pub at_level : Core → Bool → Core
at_level c level = record { ce = level; mode = c.mode; config = c.config; flags = c.flags; counts = c.counts }

abbrev pub configured : Core → ℕ → Core
configured c v = record { ce = c.ce; mode = c.mode; config = v; flags = c.flags; counts = c.counts }

-- ---- the numbers

-- from power up to Standby: 200 ticks
abbrev pub start_ticks : ℕ
start_ticks = 200

-- until a receiver listens, or a sender sends: 13 ticks
abbrev pub tuning_ticks : ℕ
tuning_ticks = 13

-- how long an acknowledgement is waited for
abbrev pub wait_ticks : Retry → ℕ
wait_ticks r = 25 * (r.delay + 1)

-- ---- modes

-- where a powered unit with nothing under way is, by its role and the level of CE
abbrev pub resting : Role → Bool → Mode
resting role false = Standby
resting Sender true = IdleTx
resting Receiver true = Tuning tuning_ticks

abbrev pub at_rest : Role → Core → Core
at_rest role c = in_mode c (resting role c.ce)

-- a transaction begins: the payload under way was not sent again yet
abbrev pub begun : Core → Core
begun c = in_mode (counting c (record { again = 0; lost = c.counts.lost })) (Tuning tuning_ticks)

-- the last tick of a receiver's tuning: it listens; of a sender's: it sends and waits
abbrev pub tuned : Role → Retry → Core → Core
tuned Receiver retry c = in_mode c Rx
tuned Sender retry c = in_mode c (Waiting (wait_ticks retry))

-- once more
abbrev pub retried : Retry → Core → Core
retried retry c =
    in_mode (counting c (record { again = c.counts.again + 1; lost = c.counts.lost })) (Waiting (wait_ticks retry))

-- no retransmit is left: MAX_RT stands, one payload more was lost, of which at most 15 are counted; the payload stays
abbrev pub given_up : Role → Core → Core
given_up role c =
    at_rest role
    (flagged (counting c (record { again = c.counts.again; lost = cond (nat_lt c.counts.lost 15) (c.counts.lost + 1) 15 }))
    (record { rx_dr = c.flags.rx_dr; tx_ds = c.flags.tx_ds; max_rt = true }))

-- ---- one tick, by the mode; waiting says whether a payload stands in the TX queue

abbrev pub tick_in : Mode → Role → Retry → Bool → Core → Core
tick_in Shutdown role retry waiting c = c
tick_in (Starting left) role retry waiting c = cond (nat_lt 1 left) (in_mode c (Starting (left - 1))) (at_rest role c)
tick_in Standby role retry waiting c = c
tick_in IdleTx role retry waiting c = cond (waiting && not c.flags.max_rt) (begun c) c
tick_in (Tuning left) role retry waiting c = cond (nat_lt 1 left) (in_mode c (Tuning (left - 1))) (tuned role retry c)
tick_in Rx role retry waiting c = c
tick_in (Waiting left) role retry waiting c =
    cond (nat_lt 1 left) (in_mode c (Waiting (left - 1)))
    (cond (nat_lt c.counts.again retry.count) (retried retry c) (given_up role c))

abbrev pub ticked : Role → Retry → Bool → Core → Core
ticked role retry waiting c = tick_in c.mode role retry waiting c

abbrev pub is_sender : Role → Bool
is_sender Sender = true
is_sender Receiver = false

-- whether the tick sends the oldest payload
abbrev pub sends_in : Mode → Role → Retry → Core → Bool
sends_in Shutdown role retry c = false
sends_in (Starting left) role retry c = false
sends_in Standby role retry c = false
sends_in IdleTx role retry c = false
sends_in (Tuning left) role retry c = not (nat_lt 1 left) && is_sender role
sends_in Rx role retry c = false
sends_in (Waiting left) role retry c = not (nat_lt 1 left) && nat_lt c.counts.again retry.count

abbrev pub sends : Role → Retry → Core → Bool
sends role retry c = sends_in c.mode role retry c

-- whether the tick only counts down in its mode, or changes nothing: neither role nor retries then matter
abbrev pub uneventful_in : Mode → Bool → Core → Bool
uneventful_in Shutdown waiting c = true
uneventful_in (Starting left) waiting c = nat_lt 1 left
uneventful_in Standby waiting c = true
uneventful_in IdleTx waiting c = not (waiting && not c.flags.max_rt)
uneventful_in (Tuning left) waiting c = nat_lt 1 left
uneventful_in Rx waiting c = true
uneventful_in (Waiting left) waiting c = nat_lt 1 left

abbrev pub uneventful : Bool → Core → Bool
uneventful waiting c = uneventful_in c.mode waiting c

-- what is left then
abbrev pub elapsed_in : Mode → Core → Core
elapsed_in Shutdown c = c
elapsed_in (Starting left) c = in_mode c (Starting (left - 1))
elapsed_in Standby c = c
elapsed_in IdleTx c = c
elapsed_in (Tuning left) c = in_mode c (Tuning (left - 1))
elapsed_in Rx c = c
elapsed_in (Waiting left) c = in_mode c (Waiting (left - 1))

abbrev pub elapsed : Core → Core
elapsed c = elapsed_in c.mode c

-- ---- the level of CE

abbrev pub raised : Mode → Role → Mode
raised Shutdown role = Shutdown
raised (Starting left) role = Starting left
raised Standby role = resting role true
raised IdleTx role = IdleTx
raised (Tuning left) role = Tuning left
raised Rx role = Rx
raised (Waiting left) role = Waiting left

-- CE low ends a receiver's listening, and no transaction of a sender
abbrev pub lowered : Mode → Role → Mode
lowered Shutdown role = Shutdown
lowered (Starting left) role = Starting left
lowered Standby role = Standby
lowered IdleTx role = Standby
lowered (Tuning left) Sender = Tuning left
lowered (Tuning left) Receiver = Standby
lowered Rx Sender = Rx
lowered Rx Receiver = Standby
lowered (Waiting left) role = Waiting left

-- a level that is there already changes nothing
abbrev pub leveled : Role → Bool → Core → Core
leveled role true c = cond c.ce c (at_level (in_mode c (raised c.mode role)) true)
leveled role false c = cond c.ce (at_level (in_mode c (lowered c.mode role)) false) c

-- ---- acknowledgement, flush, power

abbrev pub is_waiting : Mode → Bool
is_waiting Shutdown = false
is_waiting (Starting left) = false
is_waiting Standby = false
is_waiting IdleTx = false
is_waiting (Tuning left) = false
is_waiting Rx = false
is_waiting (Waiting left) = true

abbrev pub is_rx : Mode → Bool
is_rx Shutdown = false
is_rx (Starting left) = false
is_rx Standby = false
is_rx IdleTx = false
is_rx (Tuning left) = false
is_rx Rx = true
is_rx (Waiting left) = false

-- an acknowledgement: TX_DS stands, and with CE high and a payload left a new transaction begins at once
abbrev pub acknowledged : Bool → Core → Core
acknowledged left c =
    cond (c.ce && left) (begun (flagged c (record { rx_dr = c.flags.rx_dr; tx_ds = true; max_rt = c.flags.max_rt })))
    (at_rest Sender (flagged c (record { rx_dr = c.flags.rx_dr; tx_ds = true; max_rt = c.flags.max_rt })))

-- whether a register other than STATUS is refused: Tuning, Waiting or RX
abbrev pub busy : Mode → Bool
busy Shutdown = false
busy (Starting left) = false
busy Standby = false
busy IdleTx = false
busy (Tuning left) = true
busy Rx = true
busy (Waiting left) = true

-- FLUSH_TX ends a sender's transaction
abbrev pub flushed : Core → Core
flushed c = cond (busy c.mode) (at_rest Sender c) c

-- CONFIG is written: PWR_UP starts a unit in Shutdown, and without it a unit that is not busy shuts down
abbrev pub powered : Mode → Bool → Mode
powered Shutdown true = Starting start_ticks
powered Shutdown false = Shutdown
powered (Starting left) true = Starting left
powered (Starting left) false = Shutdown
powered Standby true = Standby
powered Standby false = Shutdown
powered IdleTx true = IdleTx
powered IdleTx false = Shutdown
powered (Tuning left) up = Tuning left
powered Rx up = Rx
powered (Waiting left) up = Waiting left

abbrev pub reconfigured : ℕ → Core → Core
reconfigured v c = configured (in_mode c (powered c.mode (bit 1 v))) v
