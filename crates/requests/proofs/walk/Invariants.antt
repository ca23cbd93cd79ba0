-- `requests::walk` meets its contract: the requests that are counted and those still to come are all.
use lib.ListN.{length}
use Rattle.requests.proofs.CountLaws.{CountedTo}
use Rattle.requests.proofs.walk.Given as goal

abbrev pub invariant-loop-rest : goal.invariant-loop-rest
invariant-loop-rest l = CountedTo l.build l.many l.rest

abbrev pub decreases-loop-rest : goal.decreases-loop-rest
decreases-loop-rest l = length l.rest
