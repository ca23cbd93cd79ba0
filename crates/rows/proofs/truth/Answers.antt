-- `rows::truth` meets its contract: past its end the table reads 0. Assumes nothing.
use Prim.Native.Nat.{◌/◌}
use mathlib.Core.Path.{refl}
use native.Mathlib.Nat.{zero-div}
use native.Mathlib.Omega.{arith}
use lib.ListN.{get_or-eq_default}
use Rattle.block.specs.Table.{table_bit}
use Rattle.wiring.specs.Wire.{truth}
use Rattle.rows.proofs.truth.Goals as goal

pub returns-then-t-k : goal.returns-then-t-k
unfolding truth table_bit
returns-then-t-k c =
    rw (get_or-eq_default c.args.t.now 0 {n = c.args.row / 8} (omega arith), zero-div)

pub returns : goal.returns
unfolding truth table_bit
returns c =
    refl
