-- `blif::lines::gather` meets its contract: what is gathered and the lines still to come make what all
-- the lines make. Assumes nothing.
use Rattle.words.specs.Left.{lines_left}
use Rattle.blif.proofs.GatherLaws.{GathersOn}
use Rattle.blif.proofs.lines.gather.Given as goal

abbrev pub invariant-loop-line : goal.invariant-loop-line
invariant-loop-line l =
    ((goal.iterator-loop-line).can_next l.line-iterator)
    × ((goal.iterator-loop-line).is_finite l.line-iterator)
    × GathersOn l.inputs (lines_left l.fn.lines) (lines_left l.line-iterator) l.g
