-- `contents::Wires::choice` meets its contract. The invariant: no polarities below k serve. Assumes nothing.
use Prim.Native.Nat.{ℕ, ◌-◌, ◌<◌, ◌≤◌}
use mathlib.Core.Path.{◌≡◌}
use mathlib.Core.Bool.{false}
use Rattle.contents.specs.Code.{serves_by}
use Rattle.contents.proofs.Wires.choice.Given as goal

abbrev pub invariant-loop-k : goal.invariant-loop-k
invariant-loop-k l = (l.k ≤ 16) × ((i : ℕ) → i < l.k → serves_by l.self l.h l.asked.ones l.asked.zeros i ≡ false)

abbrev pub decreases-loop-k : goal.decreases-loop-k
decreases-loop-k l = 16 - l.k
