-- `blif::read` meets its contract: a text without words is no part. Assumes nothing.
use Rattle.std.proofs.Common.{sym, ◌∙◌}
use Rattle.std.proofs.lemmas.Result.{err_from_is_err_and}
use Rattle.blif.proofs.OptionLaws.{ok_or-none}
use Rattle.blif.proofs.PartLaws.{nothing_read}
use Rattle.blif.proofs.read.Goals as goal

pub returns-in_err-first : goal.returns-in_err-first
returns-in_err-first c =
    let p = err_from_is_err_and c.from_residual.result c.from_residual.ensures.1 in
    let none = ok_or-none _ _ _ (sym c.in_err-first.was ∙ c.ok_or.ensures.value) in
    let over = rw none.1 at c.next.ensures.steps in
    rw (p.1, p.2, none.0) (nothing_read _ _ (sym c.of-lines.ensures ∙ over.0))
