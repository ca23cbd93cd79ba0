-- `blif::read_part` meets its contract: the line opens a part or is refused; then its faults decide, in
-- their order, and at last the room. Assumes nothing.
use Rattle.std.proofs.Common.{sym, ◌∙◌}
use Rattle.std.proofs.lemmas.Result.{err_from_is_err_and}
use Rattle.blif.proofs.PartLaws.{unopened, part-misses, part-wide, part-twice, part-both, part-short, part-written}
use Rattle.blif.proofs.read_part.Goals as goal

pub returns-in_err-names : goal.returns-in_err-names
returns-in_err-names c =
    let p = err_from_is_err_and c.from_residual.result c.from_residual.ensures.1 in
    let none = c.in_err-names.ensures in
    rw (p.1, p.2, none.0) (unopened _ _ _ (none.1 _))

pub returns-in_err-g : goal.returns-in_err-g
returns-in_err-g c =
    let p = err_from_is_err_and c.from_residual-in_err-g.result c.from_residual-in_err-g.ensures.1 in
    let none = c.in_err-g.ensures in
    rw (p.1, p.2, none.0) (part-misses _ _ _ c.in_ok-names.ensures none.1 _)

pub returns-then-names-gt9 : goal.returns-then-names-gt9
returns-then-names-gt9 c =
    part-wide _ _ _ c.in_ok-names.ensures _ c.in_ok-g.ensures c.if-names-gt9.true _

pub returns-then-repeats : goal.returns-then-repeats
returns-then-repeats c =
    part-twice _ _ _ c.in_ok-names.ensures _ c.in_ok-g.ensures c.if-names-gt9.false
    (sym c.repeats.ensures ∙ c.if-repeats.true) _

pub returns-then-g : goal.returns-then-g
returns-then-g c =
    part-both _ _ _ c.in_ok-names.ensures _ c.in_ok-g.ensures c.if-names-gt9.false
    (sym c.repeats.ensures ∙ c.if-repeats.false) c.if-g.true _

pub returns-in_err-used : goal.returns-in_err-used
returns-in_err-used c =
    let p = err_from_is_err_and c.from_residual-in_err-used.result c.from_residual-in_err-used.ensures.1 in
    rw (p.1, p.2)
    (part-short _ _ _ c.in_ok-names.ensures _ c.in_ok-g.ensures c.if-names-gt9.false
    (sym c.repeats.ensures ∙ c.if-repeats.false) c.if-g.false _ _ _ c.in_err-used.ensures)

pub returns : goal.returns
returns c =
    part-written _ _ _ c.in_ok-names.ensures _ c.in_ok-g.ensures c.if-names-gt9.false
    (sym c.repeats.ensures ∙ c.if-repeats.false) c.if-g.false _ _ _ c.in_ok-used.ensures
