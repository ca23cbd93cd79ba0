-- `digits::length_of` meets its contract. The invariant: the digits counted, less the first, and those of
-- what is left are the digits of the number. Assumes nothing.
use mathlib.Core.Path.{◌≡◌}
use Prim.Native.Nat.{◌+◌}
use lib.ListN.{length}
use Rattle.digits.specs.Digits.{decimal}
use Rattle.digits.proofs.length_of.Given as goal

abbrev pub invariant-loop-rest : goal.invariant-loop-rest
invariant-loop-rest l = l.many + length (decimal l.rest) ≡ length (decimal l.x) + 1

abbrev pub decreases-loop-rest : goal.decreases-loop-rest
decreases-loop-rest l = l.rest
