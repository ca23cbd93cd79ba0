-- `filter::power` meets its contract. Assumes nothing.
use Prim.Native.Nat.{◌^◌, ◌≤◌}
use native.Mathlib.Omega.{arith}
use lib.Pow.{pow_mono}
use Rattle.bits.proofs.SetLaws.{one_shifted}
use Rattle.filter.proofs.power.Goals as goal

pub returns : goal.returns
returns c =
    let k = c.args.k in
    let most : 2 ^ k ≤ 2 ^ 9 = pow_mono c.requires in
    (one_shifted k 16 (omega arith), omega arith)
