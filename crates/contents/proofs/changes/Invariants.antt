-- `contents::changes` meets its contract. The invariant: the rows below r are gathered. Assumes nothing.
use Rattle.contents.proofs.GatherLaws.{Gathered}
use Rattle.contents.proofs.changes.Given as goal

abbrev pub invariant-loop-r : goal.invariant-loop-r
invariant-loop-r l = Gathered l.t l.key l.keep l.r l.found
