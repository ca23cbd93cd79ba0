-- `marks::fill` meets its contract. The invariant: so many bytes of the table are in the buffer.
-- Assumes nothing.
use mathlib.Core.Path.{◌≡◌}
use Rattle.marks.specs.Rows.{rows_table}
use Rattle.marks.proofs.OverLaws.{over_to}
use Rattle.marks.proofs.fill.Given as goal

abbrev pub invariant-loop-j : goal.invariant-loop-j
invariant-loop-j l = l.table ≡ over_to (rows_table l.n l.rows.words l.flip) l.initial.table l.j
