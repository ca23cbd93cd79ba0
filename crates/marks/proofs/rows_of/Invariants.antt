-- `marks::rows_of` meets its contract. The invariant: the rows that the marks so far cover. Assumes
-- nothing.
use mathlib.Core.Path.{◌≡◌}
use lib.ListN.{take}
use Rattle.bits.specs.Bits.{of_rows}
use Rattle.marks.specs.Marks.{covers}
use Rattle.marks.proofs.rows_of.Given as goal

abbrev pub invariant-loop-i : goal.invariant-loop-i
invariant-loop-i l = l.rows ≡ of_rows 64 (covers (take l.i l.first))
