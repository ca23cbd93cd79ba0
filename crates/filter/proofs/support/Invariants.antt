-- `filter::support` meets its contract. The invariant: the variables looked at that the table depends
-- on. Assumes nothing.
use Prim.Native.Nat.{◌-◌, ◌≤◌}
use mathlib.Core.Path.{◌≡◌}
use Rattle.bits.specs.Bits.{of_bits}
use Rattle.wiring.specs.Fits.{depends_on}
use Rattle.filter.proofs.support.Given as goal

abbrev pub invariant-loop-v : goal.invariant-loop-v
invariant-loop-v l = (l.v ≤ l.end) × (l.set ≡ of_bits l.v (depends_on l.end l.t))

abbrev pub decreases-loop-v : goal.decreases-loop-v
decreases-loop-v l = l.end - l.v
