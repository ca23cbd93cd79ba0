-- `contents::Wires::with_table` meets its contract. Assumes nothing.
use mathlib.Core.Path.{sym, ◌∙◌}
use Rattle.contents.proofs.WithTableLaws.{with-loud, with_none, with-as}
use Rattle.contents.proofs.Wires.with_table.Goals as goal

pub returns-then-not-direct_quiet-clause-contents : goal.returns-then-not-direct_quiet-clause-contents
returns-then-not-direct_quiet-clause-contents c =
    with-loud c.args.self c.args.asked.now c.args.h (sym c.direct_quiet.ensures ∙ c.if-not-direct_quiet.true)

pub returns-in_err-poles-clause-contents : goal.returns-in_err-poles-clause-contents
returns-in_err-poles-clause-contents c =
    rw c.from_residual.ensures
    (with_none c.args.self c.args.asked.now c.args.h (sym c.in_err-poles.ensures.holds))

pub returns-clause-contents : goal.returns-clause-contents
returns-clause-contents c =
    rw (c.table-f.ensures.0, c.table-g.ensures.0)
    (with-as c.args.self c.args.asked.now c.args.h (sym c.direct_quiet.ensures ∙ c.if-not-direct_quiet.false)
    c.in_ok-poles.poles c.in_ok-poles.ensures)
