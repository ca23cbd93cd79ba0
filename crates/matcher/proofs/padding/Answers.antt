-- `matcher::padding` meets its contract: from three inputs on, every bit is a row. Assumes nothing.
use mathlib.Core.Path.{◌≡◌}
use Prim.Native.Nat.{◌-◌, ◌^◌, ◌≤◌}
use native.Mathlib.Omega.{arith}
use lib.Pow.{pow_mono}
use Rattle.matcher.proofs.padding.Goals as goal

pub returns-in_default : goal.returns-in_default
returns-in_default c =
    let n = c.args.n in
    let eight : 2 ^ 3 ≤ 2 ^ n = pow_mono {i = 3} {j = n} (omega arith) in
    let none : 8 - 2 ^ n ≡ 0 = omega arith in
    rw none (omega arith)
