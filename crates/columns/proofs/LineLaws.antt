-- The line of a record that a sheet may hold. Assumes nothing.
use Rattle.std.specs.Prelude.{Result}
use Rattle.block.specs.declared.Refusal.{Refusal}
use mathlib.Core.Path.{◌≡◌, ap, ◌∙◌}
use mathlib.Core.List.{List, ◌++◌}
use Prim.Native.Nat.{ℕ, ◌-◌, ◌<◌, ◌≤◌}
use native.Mathlib.Omega.{arith}
use lib.Dec.{eqb, ltb}
use mathlib.Core.Bool.{◌||◌}
use borrow.Rule.Slice.PartMut.{put_mid}
use lib.ListN.{length, take, drop, length-append, length-drop}
use lib.Seq.{take_all}
use borrow.Author.Tests.{ltb-false, le-ltb}
use Rattle.bits.proofs.TestLaws.{either-false}
use Rattle.bits.proofs.SliceLaws.{filled_on}
use Rattle.codec.specs.Check.{check_refusal}
use Rattle.codec.proofs.CheckLaws.{accepted-of-none}
use Rattle.record.specs.declared.Numbers.{Numbers}
use Rattle.record.specs.Record.{Record, most_craft, most_block, header_bytes, record_bytes, record_of, numbers_in}
use Rattle.record.specs.Fault.{record_refusal}
use Rattle.record.specs.Answers.{Numbered}
use Rattle.record.proofs.RecordLaws.{accepted-parts}
use Rattle.records.specs.Sheet.{most_records}
use Rattle.text.specs.Line.{block_line, block_line_bytes, line_refusal, LinesBlock}
use Rattle.text.proofs.BlockLaws.{block-length, line-passed}
use Rattle.columns.specs.Columns.{number_cells, number_bytes, record_line, record_line_bytes}
use Rattle.columns.specs.Columns.{Sound, InColumns}
use Rattle.columns.proofs.CellLaws.{Begun, begun-space, cells-length}

pub accepted-sound : (last : List ℕ) (r : Record) → record_refusal last r ≡ 0 → Sound r
accepted-sound last r none =
    let parts = accepted-parts last r none in
    let high = ltb most_craft r.craft || ltb most_block r.block in
    let ranges = (either-false (eqb r.craft 0) high parts.0).1 in
    let each = either-false (ltb most_craft r.craft) (ltb most_block r.block) ranges in
    record {
      craft-fits = ltb-false most_craft r.craft each.0;
      block-fits = ltb-false most_block r.block each.1;
      checked = parts.2;
    }

module _ (place : ℕ) (r : Record) (within : place < most_records) (sound : Sound r) where
  pub in-columns : InColumns place (numbers_in r)
  in-columns =
      record {
        place-fits = within;
        craft-fits = sound.craft-fits;
        block-fits = sound.block-fits;
        n-fits = (accepted-of-none r.n r.ten sound.checked).within;
      }

  pub line-length : length (record_line place r) ≡ record_line_bytes
  unfolding record_line
  line-length =
      let cells = cells-length place (numbers_in r) in-columns in
      let block = block-length r.ten (accepted-of-none r.n r.ten sound.checked).ten in
      length-append (number_cells place (numbers_in r)) (block_line r.ten) ∙ omega arith

-- the line of a block that passes, written where there is room
pub block-put : (n : ℕ) (ten before after : List ℕ) (w : Result ℕ Refusal) → check_refusal n ten ≡ 0
    → block_line_bytes ≤ length before → LinesBlock n ten before after w
    → after ≡ block_line ten ++ drop block_line_bytes before
block-put n ten before after w none room written =
    let long = block-length ten (accepted-of-none n ten none).ten in
    let fine : line_refusal n ten (length before) ≡ 0 =
    line-passed n ten (length before) none ∙ rw (long, le-ltb (length before) block_line_bytes room) in
    rw fine at written.kept ∙ ap (λ (k : ℕ). block_line ten ++ drop k before) long

-- the ten bytes of a record, as a part of its 14
pub ten-part : (s : List ℕ) → length s ≡ record_bytes
    → take (record_bytes - header_bytes) (drop header_bytes s) ≡ (record_of s).ten
unfolding record_of
ten-part s long = take_all 10 (drop header_bytes s) (omega (arith, length-drop header_bytes s))

-- the numbers of a record's 14 bytes at the start of a buffer, and its block's line after them
pub line-put : (place : ℕ) (s before out after : List ℕ) (x : Numbers) (w : Result ℕ Refusal)
    → length s ≡ record_bytes → Sound (record_of s) → place < most_records → record_line_bytes ≤ length before
    → Numbered s x → out ≡ number_cells place x ++ drop number_bytes before
    → LinesBlock x.n (take (record_bytes - header_bytes) (drop header_bytes s))
    (take (length out - number_bytes) (drop number_bytes out)) after w
    → put_mid number_bytes (length out - number_bytes) out after
    ≡ record_line place (record_of s) ++ drop record_line_bytes before
unfolding record_line
line-put place s before out after x w long sound within room numbered cells written =
    let r = record_of s in
    let size = cells-length place (numbers_in r) (in-columns place r within sound) in
    let begun : Begun before out (number_cells place (numbers_in r)) number_bytes =
    record { long = size; kept = rw numbered at cells } in
    let space = begun-space before out _ number_bytes 24 begun (omega arith) in
    let put =
    block-put r.n r.ten _ after w sound.checked (omega (arith, space))
    (rw (numbered, ten-part s long) at written) in
    rw put
    (filled_on out before (number_cells place (numbers_in r)) (block_line r.ten) number_bytes block_line_bytes
    begun.kept size)
