-- `marks::paint` meets its contract. The invariant: so many words are painted. Assumes nothing.
use mathlib.Core.Path.{◌≡◌}
use Rattle.marks.specs.Rows.{painted}
use Rattle.marks.proofs.OverLaws.{over_to}
use Rattle.marks.proofs.paint.Given as goal

abbrev pub invariant-loop-w : goal.invariant-loop-w
invariant-loop-w l = l.word-items ≡ over_to (painted l.marks 0 l.fn.rows.words) l.fn.rows.words l.w
