-- `rows::select` meets its contract. Assumes nothing.
use Prim.Native.Nat.{◌/◌, ◌%◌}
use native.Mathlib.Omega.{arith}
use Rattle.block.proofs.PinLaws.{four-weights}
use Rattle.rows.proofs.select.Goals as goal

pub returns : goal.returns
returns c =
    let key = c.args.key in
    let row = c.args.row in
    let first = c.seen.ensures in
    let second = c.seen-2.ensures in
    let third = c.seen-3.ensures in
    let last = c.seen-4.ensures in (
      rw (first.0, second.0, third.0, last.0)
          (four-weights row (key / 4096 % 16) (key / 256 % 16) (key / 16 % 16) (key / 1 % 16)),
      omega (arith, first.1, second.1, third.1, last.1),
    )
