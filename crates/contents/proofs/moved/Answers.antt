-- `contents::moved` meets its contract. Assumes nothing.
use Rattle.bits.specs.Bits.{has}
use Rattle.contents.proofs.TurnLaws.{moved_by}
use Rattle.contents.proofs.moved.Goals as goal

pub returns : goal.returns
unfolding has
returns c = moved_by c.args.h c.args.k _ _ c.turned-at_0.ensures c.turned-at_1.ensures
