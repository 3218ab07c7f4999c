use Rattle.std.proofs.Common.{◌≡◌, ℕ, zero, suc, true, ◌+◌, ◌*◌, ◌<◌, ◌^◌, [], get_or, refl, ap, ◌∙◌, arith}
use Rattle.checks.specs.declared.crc.TheConstants.{TABLES_8}
use Rattle.checks.specs.Bits.{word}
use Rattle.checks.specs.Crc.{run}
use Rattle.checks.proofs.Table.{same_below, entries}
use Rattle.checks.proofs.crc.Crc8Parameters.entry.Goals as goal

-- each table is held against the definition at each of the 256 bytes, by computing
first : same_below (λ b. get_or (get_or TABLES_8 0 []) b 0) (λ b. run 8 7 0 (word 8 b)) 256 ≡ true
unfolding word
first = refl

next : (k : ℕ) → k < 7 → same_below (λ b. get_or (get_or TABLES_8 (suc k) []) b 0) (λ b. run 8 7 (get_or (get_or TABLES_8 k []) b 0) (word 8 0)) 256 ≡ true
unfolding word
next zero h = refl
next (suc zero) h = refl
next (suc (suc zero)) h = refl
next (suc (suc (suc zero))) h = refl
next (suc (suc (suc (suc zero)))) h = refl
next (suc (suc (suc (suc (suc zero))))) h = refl
next (suc (suc (suc (suc (suc (suc zero)))))) h = refl
next (suc (suc (suc (suc (suc (suc (suc k))))))) h = absurd (omega (arith, h))

pub returns : goal.returns
returns c =
    entries 8 7 TABLES_8 first next c.args.behind c.from.result c.requires (omega arith)
    ∙ ap (λ (byte : ℕ). run 8 7 0 (word (8 * (c.args.behind + 1)) (byte * 2 ^ (8 * c.args.behind)))) c.from.ensures
