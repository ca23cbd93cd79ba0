-- `blif::names::open` meets its contract: the first word and the names after it decide. Assumes nothing.
use Rattle.std.proofs.Common.{refl, sym, ◌∙◌, length, ap}
use native.Mathlib.Omega.{arith}
use Rattle.std.proofs.lemmas.Result.{err_from_is_err_and}
use Rattle.words.proofs.TextLaws.{words-few}
use Rattle.blif.proofs.OptionLaws.{ok_or-none, ok_or-some}
use Rattle.blif.proofs.NameLaws.{counted-start, counted-few, counted-next, counted-not, counted-all}
use Rattle.blif.proofs.NameLaws.{opens-other, opens-stray, opens-alone, opens-so, opens-none}
use Rattle.blif.proofs.names.open.Goals as goal

pub returns-in_err-first : goal.returns-in_err-first
returns-in_err-first c =
    let p = err_from_is_err_and c.from_residual.result c.from_residual.ensures.1 in
    let none = ok_or-none _ _ _ (sym c.in_err-first.was ∙ c.ok_or.ensures.value) in
    let over = rw none.1 at c.next.ensures.steps in
    rw (p.1, p.2) (none.0, opens-none _ (sym c.of-words.ensures ∙ over.0))

pub returns-then-not-same : goal.returns-then-not-same
returns-then-not-same c =
    let some = ok_or-some _ _ _ (sym c.in_ok-first.was ∙ c.ok_or.ensures.value) in
    let first = sym c.of-words.ensures ∙ (rw some at c.next.ensures.steps) in
    (refl, opens-other _ _ _ first (sym c.same.ensures ∙ c.if-not-same.true))

pub loop-name-init : goal.loop-name-init
loop-name-init c = (tt, tt, rw c.into_iter-name-iterator.ensures.into_iter_gives (counted-start _))

pub returns-then-not-is_name : goal.returns-then-not-is_name
returns-then-not-is_name c =
    let some = ok_or-some _ _ _ (sym c.in_ok-first.was ∙ c.ok_or.ensures.value) in
    let first = sym c.of-words.ensures ∙ (rw some at c.next.ensures.steps) in
    let same = sym c.same.ensures ∙ c.if-not-same.false in
    let left = c.loop-name.invariant.2 in
    let stray = counted-not _ _ _ left _ _ c.in-Some.ensures.steps _ c.is_name.ensures c.if-not-is_name.true in
    (refl, opens-stray _ _ _ first same stray)

pub overflow_add-many : goal.overflow_add-many
overflow_add-many c =
    let some = ok_or-some _ _ _ (sym c.in_ok-first.was ∙ c.ok_or.ensures.value) in
    let first = sym c.of-words.ensures ∙ (rw some at c.next.ensures.steps) in
    let few = counted-few _ _ _ c.loop-name.invariant.2 _ _ c.in-Some.ensures.steps _ c.is_name.ensures in
    omega (arith, few, ap length first, words-few c.args.line.now)

pub loop-name-preserved : goal.loop-name-preserved
loop-name-preserved c =
    let left = c.loop-name.invariant.2 in
    (tt, tt, counted-next _ _ _ left _ _ c.in-Some.ensures.steps _ c.is_name.ensures c.if-not-is_name.false)

pub returns-then-many-eq0 : goal.returns-then-many-eq0
returns-then-many-eq0 c =
    let some = ok_or-some _ _ _ (sym c.in_ok-first.was ∙ c.ok_or.ensures.value) in
    let first = sym c.of-words.ensures ∙ (rw some at c.next.ensures.steps) in
    let same = sym c.same.ensures ∙ c.if-not-same.false in
    let all = counted-all _ _ _ c.loop-name.invariant.2 c.in-None.ensures.steps.0 in
    (refl, opens-alone _ _ _ first same (sym c.if-many-eq0.true ∙ all.1))

pub returns : goal.returns
returns c =
    let some = ok_or-some _ _ _ (sym c.in_ok-first.was ∙ c.ok_or.ensures.value) in
    let first = sym c.of-words.ensures ∙ (rw some at c.next.ensures.steps) in
    let same = sym c.same.ensures ∙ c.if-not-same.false in
    let all = counted-all _ _ _ c.loop-name.invariant.2 c.in-None.ensures.steps.0 in
    let some = c.if-many-eq0.false in
    opens-so _ _ _ first same _ refl all.0 (omega (arith, all.1))
