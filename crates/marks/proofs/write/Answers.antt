-- `marks::write` meets its contract. Assumes nothing.
use mathlib.Core.Path.{◌≡◌, sym, ◌∙◌}
use lib.ListN.{length}
use Rattle.block.specs.Table.{table_bytes}
use Rattle.block.proofs.TableLaws.{length-within, table_of-length}
use Rattle.marks.specs.Rows.{rows_table}
use Rattle.marks.proofs.WriteLaws.{table-written}
use Rattle.marks.proofs.write.Goals as goal

pub returns : goal.returns
returns c =
    let a = c.args in
    let size : c.table_bytes-size.result ≡ table_bytes a.n =
    c.table_bytes-size.ensures ∙ length-within a.n c.if-n-gt9.false
    in
    let long : c.table_bytes-size.result ≡ length (rows_table a.n a.rows.words a.flip) =
    size ∙ sym (table_of-length a.n _)
    in
    table-written _ _ _ _ _ c.if-n-gt9.false c.if-out-size.false size (rw (c.fill.ensures, ← long))
