-- `digits::align` meets its contract: the column is filled from its last byte to its first. The
-- invariant: the bytes from `at` on are in place. Assumes nothing.
use Rattle.digits.proofs.ColumnLaws.{Placed}
use Rattle.digits.proofs.align.Given as goal

abbrev pub invariant-loop-at : goal.invariant-loop-at
invariant-loop-at l = Placed l.x l.at l.rest l.initial.out l.out

abbrev pub decreases-loop-at : goal.decreases-loop-at
decreases-loop-at l = l.at
