-- `blif::lines::add` meets its contract. Assumes nothing.
use Rattle.std.proofs.Common.{sym, ◌∙◌}
use Rattle.std.proofs.lemmas.Result.{err_from_is_err_and}
use Rattle.blif.proofs.OptionLaws.{ok_or-none, ok_or-some}
use Rattle.blif.proofs.GatherLaws.{miscounted, adds-parted}
use Rattle.blif.proofs.lines.add.Goals as goal

pub returns-in_err-marks : goal.returns-in_err-marks
returns-in_err-marks c =
    let p = err_from_is_err_and c.from_residual.result c.from_residual.ensures.1 in
    let none = ok_or-none _ _ _ (sym c.in_err-marks.was ∙ c.ok_or.ensures.value) in
    rw (p.1, p.2) (none.0, miscounted _ _ (rw none.1 at c.split.ensures))

pub returns : goal.returns
returns c =
    let some = ok_or-some _ _ _ (sym c.in_ok-marks.was ∙ c.ok_or.ensures.value) in
    adds-parted _ _ _ _ _ _ (rw some at c.split.ensures) c.take.ensures
