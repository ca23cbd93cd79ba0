-- `contents::Side::changed` meets its contract. Assumes nothing.
use mathlib.Core.Path.{sym}
use native.Mathlib.Omega.{arith}
use Rattle.bits.proofs.BitLaws.{num-has}
use Rattle.contents.proofs.Side.changed.Goals as goal

pub returns : goal.returns
returns c =
    let select = c.select in
    let s = c.args.self in
    (rw select.ensures.0 (sym (num-has s.changes _)), omega arith)
