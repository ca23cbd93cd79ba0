-- `requests::walk` meets its contract: the requests that are counted and those still to come are all.
use Rattle.std.proofs.lemmas.Result.{err_from_is_err_and}
use mathlib.Core.Path.{sym, ◌∙◌}
use native.Mathlib.Omega.{arith}
use borrow.Author.Tests.{eqb-true}
use Rattle.bits.proofs.SliceLaws.{rest-lent}
use Rattle.requests.proofs.RequestLaws.{led}
use Rattle.requests.proofs.CountLaws.{asked_none, asked_some, some-left, counted-broken, counted_next, counted-end}
use Rattle.requests.proofs.walk.Goals as goal

pub returns-in_err-size : goal.returns-in_err-size
returns-in_err-size c =
    let p = err_from_is_err_and c.from_residual.result c.from_residual.ensures.1 in
    let none = asked_none _ _ c.ok_or.ensures.value c.in_err-size.was in
    rw (p.1, p.2, none.1) (counted-broken _ _ _ c.loop-rest.invariant (some-left _ (sym c.loop-rest-test.ensures)) (sym c.first.ensures ∙ none.0))

pub slice_bounds-rest-count : goal.slice_bounds-rest-count
slice_bounds-rest-count c =
    let first = led _ _ (sym c.first.ensures ∙ asked_some _ _ _ c.ok_or.ensures.value c.in_ok-size.was) in first.within

pub slice_bounds-rest-start : goal.slice_bounds-rest-start
slice_bounds-rest-start c =
    let first = led _ _ (sym c.first.ensures ∙ asked_some _ _ _ c.ok_or.ensures.value c.in_ok-size.was) in omega (arith, first.within)

pub loop-rest-preserved : goal.loop-rest-preserved
loop-rest-preserved c =
    let first = led _ _ (sym c.first.ensures ∙ asked_some _ _ _ c.ok_or.ensures.value c.in_ok-size.was) in
    rw (rest-lent _ _) (counted_next _ _ _ c.loop-rest.invariant _ first)

pub returns : goal.returns
returns c = counted-end _ _ _ c.loop-rest.invariant (eqb-true _ _ (sym c.loop-rest-test.ensures))
