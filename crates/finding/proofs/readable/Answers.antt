-- `finding::readable` meets its contract: the sheet decides, then the place.
use native.Mathlib.Omega.{arith}
use Rattle.std.proofs.lemmas.Result.{err_from_is_err_and}
use Rattle.finding.proofs.ReadLaws.{read-stops, refuses-12, tells-count}
use Rattle.finding.proofs.readable.Goals as goal

pub returns-in_err-count : goal.returns-in_err-count
returns-in_err-count c =
    let p = err_from_is_err_and c.from_residual.result c.from_residual.ensures.1 in
    rw (p.1, p.2) (read-stops _ _ _ _ c.in_err-count.ensures)

pub returns-then-count-place : goal.returns-then-count-place
returns-then-count-place c =
    rw c.into.ensures (refuses-12 _ _ _ c.in_ok-count.ensures _ (omega arith))

pub returns : goal.returns
returns c = tells-count _ _ _ c.in_ok-count.ensures (omega arith)
