-- `marks::ones` meets its contract: the code's table is the one tested whole. Assumes nothing.
use Rattle.marks.proofs.MaskLaws.{ones, ones-at}
use Rattle.marks.proofs.ones.Goals as goal

pub returns : goal.returns
unfolding ones
returns c =
    ones-at c.args.i c.requires
