-- `filter::two` meets its contract. The invariant: every index passed has the word of its base or of
-- its base's second. Assumes nothing.
use Prim.Native.Nat.{◌-◌, ◌≤◌}
use Rattle.filter.proofs.TwoLaws.{Seen}
use Rattle.filter.proofs.two.Given as goal

abbrev pub invariant-loop-a : goal.invariant-loop-a
invariant-loop-a l = (l.a ≤ 16) × Seen l.words l.seconds l.key l.a

abbrev pub decreases-loop-a : goal.decreases-loop-a
decreases-loop-a l = 16 - l.a
