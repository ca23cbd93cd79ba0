-- `requests::fill` meets its contract. The invariant: the pieces of the requests that are done stand at the
-- start of the buffer.
use lib.ListN.{length}
use Rattle.requests.proofs.FillLaws.{FilledTo}
use Rattle.requests.proofs.fill.Given as goal

abbrev pub invariant-loop-size : goal.invariant-loop-size
invariant-loop-size g l = FilledTo g.P.Pieces.Piece g.P.Pieces.MOST l.build l.fn.out l.rest l.out l.used

abbrev pub decreases-loop-size : goal.decreases-loop-size
decreases-loop-size g l = length l.rest
