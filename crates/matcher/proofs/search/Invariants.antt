-- `matcher::search` meets its contract. The invariant of each loop: nothing is found, and no wiring
-- before the place fits. Assumes nothing.
use Prim.Native.Nat.{◌+◌}
use lib.ListN.{length}
use Rattle.matcher.proofs.PlaceLaws.{place}
use Rattle.matcher.proofs.StandLaws.{Standing}
use Rattle.matcher.proofs.search.Given as goal

abbrev pub invariant-loop-k : goal.invariant-loop-k
invariant-loop-k l =
    Standing l.n l.t l.within l.sets (length l.sets) l.pins l.found (place l.i (l.i + l.g-index) l.k)

abbrev pub invariant-loop-g : goal.invariant-loop-g
invariant-loop-g l =
    Standing l.n l.t l.within l.sets (length l.sets) l.pins l.found (place l.i (l.i + l.g-index) 0)

abbrev pub invariant-search : goal.invariant-search
invariant-search l =
    Standing l.n l.t l.within l.sets (length l.sets) l.pins l.found (place l.i 0 0)
