-- `blif::lines::gather` meets its contract: what is gathered and the lines still to come make what all
-- the lines make. Assumes nothing.
use Rattle.std.proofs.lemmas.Result.{err_from_is_err_and}
use Rattle.blif.proofs.GatherLaws.{gathers-start, gathers-line, gathers-none, gathers-end}
use Rattle.blif.proofs.lines.gather.Goals as goal

pub loop-line-init : goal.loop-line-init
loop-line-init c = (tt, tt, rw c.into_iter-line-iterator.ensures.into_iter_gives (gathers-start _ _))

pub loop-line-preserved : goal.loop-line-preserved
loop-line-preserved c =
    (tt, tt, gathers-line _ _ _ _ _ c.in-Some.ensures.steps _ c.loop-line.invariant.2 _ c.in_ok-g.ensures)

pub returns-in_err-g : goal.returns-in_err-g
returns-in_err-g c =
    let p = err_from_is_err_and c.from_residual.result c.from_residual.ensures.1 in
    let other = c.in_err-g.ensures in
    rw (p.1, p.2) (other.0, gathers-none _ _ _ _ _ c.in-Some.ensures.steps _ c.loop-line.invariant.2 other.1)

pub returns : goal.returns
returns c = gathers-end _ _ _ _ c.in-None.ensures.steps.0 c.loop-line.invariant.2
