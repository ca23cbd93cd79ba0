-- A record as a line, and a sheet as its list: place, spacecraft number, block number, n, type, ten
-- bytes, in columns that line up. Assumes nothing.
use Rattle.std.specs.Prelude.{ℕ, suc, ◌+◌, ◌<◌, ◌≤◌, ◌≡◌, List, [], ◌∷◌, ◌++◌, ltb, length, Result}
use Rattle.record.specs.declared.Refused.{Refused}
use Rattle.block.specs.Table.{most_inputs}
use Rattle.block.specs.Refusal.{◌when◌}
use Rattle.block.specs.Answer.{buffer_after}
use Rattle.codec.specs.Check.{check_refusal}
use Rattle.record.specs.declared.Numbers.{Numbers}
use Rattle.record.specs.Record.{Record, most_craft, most_block, numbers_in}
use Rattle.record.specs.Fault.{Fault, whole, ◌then◌}
use Rattle.record.specs.Told.{told, told_of}
use Rattle.records.specs.Sheet.{most_records, records_of}
use Rattle.records.specs.Check.{sheet_fault}
use Rattle.finding.specs.Read.{record_at, read_fault}
use Rattle.words.specs.Text.{blank}
use Rattle.digits.specs.Digits.{column}
use Rattle.text.specs.Line.{block_line, block_line_bytes}

-- the widest place, spacecraft number, block number and n: 4,680, 65,535, 4,095 and 9
abbrev pub place_width : ℕ
place_width = 4

abbrev pub craft_width : ℕ
craft_width = 5

abbrev pub block_width : ℕ
block_width = 4

abbrev pub n_width : ℕ
n_width = 1

-- a column and the blank after it
abbrev pub cell : (width x : ℕ) → List ℕ
cell width x = column width x ++ (blank ∷ [])

-- the numbers, a column each
unfoldable pub number_cells : (place : ℕ) (x : Numbers) → List ℕ
number_cells place x =
    cell place_width place ++ cell craft_width x.craft ++ cell block_width x.block ++ cell n_width x.n

-- their length
abbrev pub number_bytes : ℕ
number_bytes = place_width + 1 + (craft_width + 1) + (block_width + 1) + (n_width + 1)

-- then the block's own line: its type and its ten bytes
unfoldable pub record_line : (place : ℕ) (r : Record) → List ℕ
record_line place r = number_cells place (numbers_in r) ++ block_line r.ten

-- the length of every record's line, 43
abbrev pub record_line_bytes : ℕ
record_line_bytes = number_bytes + block_line_bytes

-- the lines of records, the first standing at the place
unfoldable pub lines_from : (place : ℕ) (rs : List Record) → List ℕ
lines_from place [] = []
lines_from place (r ∷ rs) = record_line place r ++ lines_from (suc place) rs

-- what the line of a record needs: numbers that have room in their columns, a block that passes the check
pub record Sound (r : Record) : Type 0 where
  pub craft-fits : r.craft ≤ most_craft
  pub block-fits : r.block ≤ most_block
  pub checked : check_refusal r.n r.ten ≡ 0

-- so a place and numbers have room in their columns
pub record InColumns (place : ℕ) (x : Numbers) : Type 0 where
  pub place-fits : place < most_records
  pub craft-fits : x.craft ≤ most_craft
  pub block-fits : x.block ≤ most_block
  pub n-fits : x.n ≤ most_inputs

-- a text about a sheet: its fault, then 5
unfoldable pub text_fault : (f : Fault) (text : List ℕ) (room : ℕ) → Fault
text_fault f text room = f then whole (5 when ltb room (length text) ∷ [])

-- what the writer of such a text promises: the length in use, and the text at the start of the lent
-- buffer
pub record Prints (f : Fault) (text before after : List ℕ) (r : Result ℕ Refused) : Type 0 where
  pub answer : told_of r ≡ told (text_fault f text (length before)) 0 (length text)
  pub kept : after ≡ buffer_after (text_fault f text (length before)).number text before

-- the line of the record at a place, refused as reading is
abbrev pub PrintsRecord : (s : List ℕ) (place : ℕ) (before after : List ℕ) (r : Result ℕ Refused) → Type 0
PrintsRecord s place before after r =
    Prints (read_fault s place) (record_line place (record_at s place)) before after r

-- the list of a sheet, a line for each record in their order, refused as the sheet is
abbrev pub PrintsSheet : (s before after : List ℕ) (r : Result ℕ Refused) → Type 0
PrintsSheet s before after r = Prints (sheet_fault s) (lines_from 0 (records_of s)) before after r
