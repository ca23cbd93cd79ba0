-- `matcher::four_pin` meets its contract: a set's key holds its four pins. Assumes nothing.
use mathlib.Core.Path.{◌≡◌, ap}
use mathlib.Core.List.{List}
use Prim.Native.Nat.{ℕ, ◌/◌, ◌%◌}
use native.Mathlib.Omega.{arith}
use Rattle.matcher.specs.Search.{lut_on}
use Rattle.rows.proofs.KeyLaws.{key-pins}
use Rattle.matcher.proofs.four_pin.Goals as goal

pub returns : goal.returns
returns c =
    let set = c.args.set in
    let key = c.key_of-key.result in
    let top : key / 4096 ≡ key / 4096 % 16 = omega arith in
    let last : key % 16 ≡ key / 1 % 16 = omega arith in
    rw (top, last, c.key_of-key.ensures)
    (ap (λ (pins : List ℕ). lut_on pins c.args.rows) (key-pins set))
