-- `rows::place` meets its contract. Assumes nothing.
use mathlib.Core.Path.{◌≡◌}
use Prim.Native.Nat.{◌/◌, ◌%◌}
use native.Mathlib.Omega.{arith}
use Rattle.rows.proofs.SeenLaws.{shows-row}
use Rattle.rows.proofs.place.Goals as goal

pub returns : goal.returns
returns c =
    let key = c.args.key in
    let x = c.args.x in
    let top : key / 4096 % 16 ≡ key / 4096 = omega arith in
    let last : key / 1 % 16 ≡ key % 16 = omega arith in (
      rw (
        c.raised.ensures,
        c.raised-2.ensures,
        c.raised-3.ensures,
        c.raised-4.ensures,
        top,
        last,
      )
          (shows-row (key / 4096) (key / 256 % 16) (key / 16 % 16) (key % 16) x),
      omega arith,
    )
