-- `contents::Wires::table` meets its contract. The invariant: the rows below x are taken in. Assumes nothing.
use Rattle.std.proofs.Common.{rules}
use Prim.Native.Nat.{◌+◌, ◌*◌, ◌^◌, ◌≤◌}
use mathlib.Core.Path.{◌≡◌}
use native.Mathlib.Omega.{arith}
use lib.ListN.{get_or}
use lib.Pow.{pow_mono}
use mir.Val.{bool_byte}
use Rattle.bits.specs.Bits.{of_rows}
use Rattle.bits.proofs.BitLaws.{byte-num}
use Rattle.bits.proofs.RowLaws.{of_rows-lt, of_rows-more}
use Rattle.contents.specs.Code.{filled_by}
use Rattle.contents.proofs.Wires.table.Goals as goal

pub loop-x-init : goal.loop-x-init
unfolding of_rows
loop-x-init c =
    search rules

pub loop-x-preserved : goal.loop-x-preserved
loop-x-preserved c =
    let args = c.args in
    let x = c.loop-x.x in
    let rows = filled_by args.self args.s (λ k. get_or args.poles k 0) args.at in
    let more : c.loop-x.found * 2 + bool_byte c.filled.result ≡ of_rows (x + 1) rows =
    rw (byte-num c.filled.result, c.filled.ensures, c.loop-x.invariant.2) (of_rows-more x rows) in
    let most : 2 ^ (x + 1) ≤ 2 ^ 16 = pow_mono {i = x + 1} {j = 16} (omega arith) in
    (omega arith, rw more (omega (arith, of_rows-lt (x + 1) rows)), more)
