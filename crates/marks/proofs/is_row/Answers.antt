-- `marks::is_row` meets its contract. Assumes nothing.
use mathlib.Core.Path.{refl}
use Rattle.bits.specs.Bits.{has}
use Rattle.marks.proofs.is_row.Goals as goal

pub returns : goal.returns
unfolding has
returns c =
    refl
