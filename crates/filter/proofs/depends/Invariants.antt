-- `filter::depends` meets its contract. The invariant: no row passed changes its value. Assumes
-- nothing.
use Prim.Native.Nat.{ℕ, ◌-◌, ◌≤◌, ◌<◌}
use mathlib.Core.Path.{◌≡◌}
use mathlib.Core.Bool.{false}
use Rattle.filter.proofs.SupportLaws.{changes_at}
use Rattle.filter.proofs.depends.Given as goal

abbrev pub invariant-loop-row : goal.invariant-loop-row
invariant-loop-row l = (l.row ≤ l.end) × ((r : ℕ) → r < l.row → changes_at l.n l.t l.v r ≡ false)

abbrev pub decreases-loop-row : goal.decreases-loop-row
decreases-loop-row l = l.end - l.row
