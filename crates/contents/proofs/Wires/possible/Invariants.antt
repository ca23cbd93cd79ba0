-- `contents::Wires::possible` meets its contract. The invariant: no table H below h is possible. Assumes
-- nothing.
use Prim.Native.Nat.{ℕ, ◌-◌, ◌<◌, ◌≤◌}
use mathlib.Core.Path.{◌≡◌}
use mathlib.Core.Bool.{false}
use Rattle.contents.specs.Code.{possible_by}
use Rattle.contents.proofs.Wires.possible.Given as goal

abbrev pub invariant-loop-h : goal.invariant-loop-h
invariant-loop-h l = (l.h ≤ 256) × ((i : ℕ) → i < l.h → possible_by l.self l.asked i ≡ false)

abbrev pub decreases-loop-h : goal.decreases-loop-h
decreases-loop-h l = 256 - l.h
