-- `marks::fill` meets its contract. Assumes nothing.
use Rattle.std.proofs.Common.{◌≡◌, length, sym, ◌∙◌}
use native.Mathlib.Omega.{arith}
use Rattle.block.proofs.TableLaws.{table_of-length}
use Rattle.marks.specs.Rows.{rows_table}
use Rattle.marks.proofs.OverLaws.{over-turn, over-all}
use Rattle.marks.proofs.fill.Goals as goal

pub loop-j-preserved : goal.loop-j-preserved
loop-j-preserved c =
    let l = c.loop-j in
    let made = rows_table c.args.n c.args.rows.words c.args.flip in
    let same : length made ≡ length c.args.table.now = table_of-length c.args.n _ ∙ sym c.requires.1 in
    rw (l.invariant, c.table_byte.ensures) (over-turn made c.args.table.now l.j (omega arith) (omega arith))

pub returns : goal.returns
returns c =
    let l = c.loop-j in
    let made = rows_table c.args.n c.args.rows.words c.args.flip in
    let same : length made ≡ length c.args.table.now = table_of-length c.args.n _ ∙ sym c.requires.1 in
    let done : l.j ≡ length made = omega arith in
    l.invariant ∙ rw done (over-all made c.args.table.now same)
