-- `matcher::hopeless` meets its contract. Assumes nothing.
use mathlib.Core.Path.{sym, ap, ◌∙◌}
use borrow.Author.Tests.{not-true}
use Rattle.filter.specs.Support.{one_at_most}
use Rattle.matcher.proofs.TrialLaws.{uncovered}
use Rattle.matcher.proofs.hopeless.Goals as goal

pub returns : goal.returns
returns c h =
    let a = c.args in
    uncovered a.within a.f a.g
    (ap one_at_most (sym c.rest_of.ensures.0)
    ∙ sym c.one_at_most.ensures
    ∙ not-true c.one_at_most.result h)
