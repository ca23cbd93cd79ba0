-- `marks::rows_kept` meets its contract. Assumes nothing.
use native.Mathlib.Omega.{arith}
use Rattle.bits.specs.Bits.{of_rows}
use Rattle.marks.proofs.WriteLaws.{rows-of-byte}
use Rattle.marks.proofs.rows_kept.Goals as goal

pub returns-in-0 : goal.returns-in-0
unfolding of_rows
returns-in-0 c =
    rw c.in-0.is

pub returns-in-1 : goal.returns-in-1
unfolding of_rows
returns-in-1 c =
    rw c.in-1.is

pub returns-in-2 : goal.returns-in-2
unfolding of_rows
returns-in-2 c =
    rw c.in-2.is

pub returns-in_default : goal.returns-in_default
returns-in_default c =
    rows-of-byte c.args.n (omega arith)
