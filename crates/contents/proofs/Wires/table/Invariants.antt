-- `contents::Wires::table` meets its contract. The invariant: the rows below x are taken in. Assumes nothing.
use Prim.Native.Nat.{◌-◌, ◌<◌, ◌≤◌}
use mathlib.Core.Path.{◌≡◌}
use lib.ListN.{get_or}
use Rattle.bits.specs.Bits.{of_rows}
use Rattle.contents.specs.Code.{filled_by}
use Rattle.contents.proofs.Wires.table.Given as goal

abbrev pub invariant-loop-x : goal.invariant-loop-x
invariant-loop-x l =
    (l.x ≤ 16) × (l.found < 65536) × (l.found ≡ of_rows l.x (filled_by l.self l.s (λ c. get_or l.poles c 0) l.at))

abbrev pub decreases-loop-x : goal.decreases-loop-x
decreases-loop-x l = 16 - l.x
