-- `contents::Wires::filled` meets its contract. Assumes nothing.
use mathlib.Core.Path.{sym, ◌∙◌}
use lib.ListN.{get_or}
use Rattle.contents.proofs.FillLaws.{filled-not, filled-as}
use Rattle.contents.proofs.Wires.filled.Goals as goal

pub returns-then-select-x : goal.returns-then-select-x
returns-then-select-x c =
    let args = c.args in
    let other = c.if-select-x.true in
    filled-not args.self args.s _ args.at args.x c.place-row.result c.place-row.ensures.0
    (λ same. other (c.select.ensures.0 ∙ same))

pub returns : goal.returns
returns c =
    let args = c.args in
    filled-as args.self args.s (λ k. get_or args.poles k 0) args.at args.x c.place-row.result
    c.place-row.ensures.0
    (sym c.select.ensures.0 ∙ c.if-select-x.false)
    c.component.result c.level.result
    c.component.ensures.0 c.level.ensures.0
