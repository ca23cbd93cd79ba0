-- `filing::of_cover` meets its contract: a table that was read is within its room.
use native.Mathlib.Omega.{arith}
use native.Mathlib.Nat.{sub-zero}
use Rattle.std.proofs.lemmas.Result.{err_from_is_err_and}
use Rattle.blif.proofs.CoverLaws.{read-used}
use Rattle.filing.proofs.FilingLaws.{files-read, files-unread}
use Rattle.filing.proofs.of_cover.Goals as goal

pub returns-in_err-cover : goal.returns-in_err-cover
returns-in_err-cover c =
    let p = err_from_is_err_and c.from_residual.result c.from_residual.ensures.1 in
    rw (p.1, p.2) (files-unread _ _ _ _ _ _ _ c.in_err-cover.ensures)

pub slice_bounds-of_table-end : goal.slice_bounds-of_table-end
slice_bounds-of_table-end c =
    let within = read-used _ _ _ _ c.in_ok-cover.ensures in
    omega (arith, within, c.read.auto.out)

pub returns : goal.returns
returns c = files-read _ _ _ _ _ _ _ _ _ c.in_ok-cover.ensures (rw sub-zero at c.of_table.ensures)
