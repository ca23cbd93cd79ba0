-- `subsets::all` meets its contract: the code's table is the defined one. Assumes nothing.
use mathlib.Core.Path.{refl}
use Rattle.subsets.specs.Masks.{masks}
use Rattle.subsets.proofs.all.Goals as goal

pub returns : goal.returns
unfolding masks
returns c =
    refl
