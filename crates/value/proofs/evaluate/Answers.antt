-- `value::evaluate` meets its contract: it is refused as unpacking is, and then by the row. Assumes
-- nothing.
use Rattle.std.proofs.Common.{arith, ap, ◌∙◌}
use Rattle.std.proofs.lemmas.Result.{err_from_is_err_and}
use Rattle.block.specs.Block.{Block}
use Rattle.block.specs.Value.{block_value}
use Rattle.block.specs.Answer.{answer}
use Rattle.codec.proofs.UnpackLaws.{refused-by}
use Rattle.codec.proofs.OpenedLaws.{opened}
use Rattle.value.proofs.EvaluateLaws.{rows_few, refuses-block, refuses-13, gives-bit, leaves-row}
use Rattle.value.proofs.evaluate.Goals as goal

pub returns-in_err-x : goal.returns-in_err-x
returns-in_err-x c =
    let p = err_from_is_err_and c.from_residual.result c.from_residual.ensures.1 in
    rw (p.1, p.2) (refuses-block _ _ _ _ (refused-by _ _ _ _ c.in_err-x.was c.unpack.ensures))

pub overflow_shl-n : goal.overflow_shl-n
overflow_shl-n c = omega (arith, (opened _ _ _ _ c.in_ok-x.was c.unpack.ensures).within)

pub returns-then-n-row : goal.returns-then-n-row
returns-then-n-row c =
    let block = opened _ _ _ _ c.in_ok-x.was c.unpack.ensures in
    refuses-13 _ _ _ (omega (arith, rows_few _ block.within)) ∙ leaves-row _ _ _ block.none

pub overflow_cast-row : goal.overflow_cast-row
overflow_cast-row c =
    let block = opened _ _ _ _ c.in_ok-x.was c.unpack.ensures in
    record { fits = omega (arith, rows_few _ block.within) }

pub returns : goal.returns
returns c =
    let block = opened _ _ _ _ c.in_ok-x.was c.unpack.ensures in
    ap (answer 0) (c.block_value.ensures ∙ ap (λ (b : Block). block_value b c.args.row) block.parts)
    ∙ gives-bit _ _ _ (omega (arith, rows_few _ block.within))
    ∙ leaves-row _ _ _ block.none
