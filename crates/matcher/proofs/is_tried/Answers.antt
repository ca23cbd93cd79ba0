-- `matcher::is_tried` meets its contract. Assumes nothing.
use mathlib.Core.Path.{refl}
use Rattle.bits.specs.Bits.{has}
use Rattle.matcher.proofs.is_tried.Goals as goal

pub returns : goal.returns
unfolding has
returns c =
    refl
