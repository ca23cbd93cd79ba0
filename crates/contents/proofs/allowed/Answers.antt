-- `contents::allowed` meets its contract. Assumes nothing.
use Rattle.contents.proofs.TurnLaws.{allows}
use Rattle.contents.proofs.allowed.Goals as goal

pub returns : goal.returns
returns c =
    allows c.args.f c.args.g c.args.k
