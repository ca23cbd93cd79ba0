-- `blif::names::repeats` meets its contract: no word passed comes again, so those that are left decide.
-- Assumes nothing.
use Rattle.std.proofs.Common.{rules, tests, refl, ◌∙◌}
use Rattle.std.proofs.lemmas.Iterator.Consumers.{YieldsList-from_first}
use Rattle.std.proofs.lemmas.Iterator.Search.{any_from_yields_List}
use Rattle.bits.specs.Tests.{alike}
use Rattle.words.specs.Left.{words_left}
use Rattle.blif.proofs.NameLaws.{repeats-here, repeats-on, repeats-none}
use Rattle.blif.proofs.names.repeats.Goals as goal

pub returns-then-any : goal.returns-then-any
returns-then-any c =
    let again = any_from_yields_List (alike c.in-Some.name.now) c.any.new.self _ c.any.result c.any.ensures.ran
    (YieldsList-from_first (λ x. x.now) words_left _ (refl {a = words_left c.next.new.self})) (λ x b q k. search (rules, tests)) in
    repeats-here _ _ _ c.in-Some.ensures.steps _ again c.if-any.true ∙ c.loop-name.invariant.2

pub loop-name-preserved : goal.loop-name-preserved
loop-name-preserved c =
    let again = any_from_yields_List (alike c.in-Some.name.now) c.any.new.self _ c.any.result c.any.ensures.ran
    (YieldsList-from_first (λ x. x.now) words_left _ (refl {a = words_left c.next.new.self})) (λ x b q k. search (rules, tests)) in
    (tt, tt, repeats-on _ _ _ c.in-Some.ensures.steps _ again c.if-any.false ∙ c.loop-name.invariant.2)

pub returns : goal.returns
returns c = repeats-none _ c.in_default.ensures.steps.0 ∙ c.loop-name.invariant.2
