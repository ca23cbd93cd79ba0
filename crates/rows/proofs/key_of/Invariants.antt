-- `rows::key_of` meets its contract. The invariant: the key of the variables from v on. Assumes nothing.
use mathlib.Core.Path.{◌≡◌}
use Prim.Native.Nat.{◌-◌, ◌<◌}
use lib.ListN.{take}
use Rattle.bits.specs.Bits.{joined}
use Rattle.rows.proofs.KeyLaws.{padded}
use Rattle.rows.proofs.key_of.Given as goal

abbrev pub invariant-loop-v : goal.invariant-loop-v
invariant-loop-v l =
    record { fits : l.key < 65536; looked : l.key ≡ joined 0 (take 4 (padded (9 - l.v) l.set)) }
