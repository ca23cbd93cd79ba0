-- `rows::raised` meets its contract: a bit moved up by less than 16 is not cut. Assumes nothing.
use mathlib.Core.Path.{sym, ap, ◌∙◌}
use Prim.Native.Nat.{ℕ, ◌*◌, ◌^◌}
use native.Mathlib.Omega.{arith}
use lib.Pow.{shl_exact}
use Rattle.bits.proofs.BitLaws.{num-has}
use Rattle.rows.proofs.raised.Goals as goal

pub returns : goal.returns
returns c =
    let x = c.args.x in
    let k = c.args.k in
    let pin = c.args.pin in
    shl_exact 1 pin 16 (omega arith) (omega arith)
    ∙ ap (λ (y : ℕ). y * 2 ^ pin) (sym (num-has x k))
