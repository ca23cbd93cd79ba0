-- `marks::rows_of` meets its contract. Assumes nothing.
use native.Mathlib.Omega.{arith}
use Rattle.marks.proofs.CoverLaws.{rows_start, rows_more}
use Rattle.marks.proofs.rows_of.Goals as goal

pub loop-i-init : goal.loop-i-init
loop-i-init c = rows_start c.split_at.result.0.now

pub loop-i-preserved : goal.loop-i-preserved
loop-i-preserved c =
    let l = c.loop-i in
    rw (l.invariant, c.mask-rows.ensures) (rows_more c.split_at.result.0.now l.i (omega arith))
