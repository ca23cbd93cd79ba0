-- `words::has_words`: the first byte, which is no separator, decides.
use Rattle.std.proofs.Common.{sym, ◌∙◌}
use native.Mathlib.Omega.{arith}
use borrow.Author.Tests.{eqb-true, eqb-false}
use Rattle.words.proofs.NextLaws.{words-seen, words-unseen, words-past}
use Rattle.words.proofs.has_words.Goals as goal

pub returns-then-is_empty-clause-none : goal.returns-then-is_empty-clause-none
returns-then-is_empty-clause-none c none =
    let over = eqb-true _ _ (sym c.is_empty.ensures ∙ c.if-is_empty.true) in
    words-past _ 0 (omega (arith, c.requires)) (omega arith)

pub returns-clause-none : goal.returns-clause-none
returns-clause-none c none =
    let some = eqb-false _ _ (sym c.is_empty.ensures ∙ c.if-is_empty.false) in
    words-unseen _ 0 (omega (arith, c.requires)) (omega arith) (sym c.is_in_word.ensures ∙ none)

pub returns-clause-some : goal.returns-clause-some
returns-clause-some c some =
    let some-bytes = eqb-false _ _ (sym c.is_empty.ensures ∙ c.if-is_empty.false) in
    words-seen _ 0 (omega (arith, c.requires)) (omega arith) (sym c.is_in_word.ensures ∙ some)
