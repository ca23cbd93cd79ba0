-- `digits::number_in` meets its contract: the value in hand and the bytes that are left decide. Assumes
-- nothing.
use Rattle.std.proofs.Common.{rules, get_or}
use mathlib.Core.Path.{sym, ◌∙◌}
use native.Mathlib.Omega.{arith}
use borrow.Author.Tests.{eqb-true, eqb-false}
use Rattle.digits.proofs.NumberLaws.{digit_told, digit_untold, reading-turn, spells-none, spells-empty, spells-number}
use Rattle.digits.proofs.number_in.Goals as goal

pub returns-then-is_empty : goal.returns-then-is_empty
returns-then-is_empty c = spells-empty _ (eqb-true _ _ (sym c.is_empty.ensures ∙ c.if-is_empty.true))

pub returns-in_err-digit : goal.returns-in_err-digit
returns-in_err-digit c =
    c.from_residual.ensures ∙ spells-none _ _ c.loop-c.c-index c.loop-c.invariant (search rules)
    (digit_untold (get_or c.args.word.now c.loop-c.c-index 0) (sym c.in_err-digit.was ∙ c.decimal_value.ensures))

pub loop-c-preserved : goal.loop-c-preserved
loop-c-preserved c =
    let told = digit_told (get_or c.args.word.now c.loop-c.c-index 0) c.in_ok-digit.digit
    (sym c.in_ok-digit.was ∙ c.decimal_value.ensures) in
    reading-turn _ _ _ c.loop-c.c-index _ c.loop-c.invariant (search rules) told.0
    (let value = told.1 in omega arith)

pub returns : goal.returns
returns c =
    spells-number _ _ c.loop-c.c-index c.loop-c.invariant (search rules)
    (eqb-false _ _ (sym c.is_empty.ensures ∙ c.if-is_empty.false))
