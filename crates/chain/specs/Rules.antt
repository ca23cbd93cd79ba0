-- Document 01's rules for a list of records ("The patch sheet"). Assumes nothing.
use Rattle.std.specs.Prelude.{ℕ, ◌<◌, ◌≤◌, ◌≡◌, true, List, length, get_or}
use Rattle.codec.specs.Order.{before}
use Rattle.codec.specs.Check.{Accepted}
use Rattle.bits.specs.Bits.{Bytes}
use Rattle.record.specs.Record.{Record, most_craft, most_block, key_of, zero_record}
use Rattle.records.specs.Sheet.{most_records, sheet_of}

-- spacecraft number 0 is unassigned and not allowed; block numbers run 0 to 4,095; the ten bytes are
-- those of a tidy block of n inputs
pub record Ruled (r : Record) : Type 0 where
  pub assigned : 0 < r.craft
  pub craft-fits : r.craft ≤ most_craft
  pub block-fits : r.block ≤ most_block
  pub accepted : Accepted r.n r.ten
  pub bytes : Bytes r.ten

-- records strictly ascend by spacecraft number, then block number; there are at most 4,681
pub record Listed (rs : List Record) : Type 0 where
  pub each : (i : ℕ) → i < length rs → Ruled (get_or rs i zero_record)
  pub ascends : (i j : ℕ) → i < j → j < length rs
      → before (key_of (get_or rs i zero_record)) (key_of (get_or rs j zero_record)) ≡ true
  pub few : length rs ≤ most_records

-- the sheet is the bytes of this list, which the rules allow
pub record SheetOf (s : List ℕ) (rs : List Record) : Type 0 where
  pub listed : Listed rs
  pub bytes : s ≡ sheet_of rs
