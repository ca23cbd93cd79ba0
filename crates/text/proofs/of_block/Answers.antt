-- `text::of_block` meets its contract: bytes that have a type pass the check.
use Rattle.std.proofs.lemmas.Result.{err_from_is_err_and}
use Rattle.codec.specs.Ten.{unpack_of}
use Rattle.text.proofs.BlockLaws.{digit_lt, line_refused, typed-passes, line-written}
use Rattle.text.proofs.of_block.Goals as goal

pub typed-requires : goal.typed-requires
typed-requires c =
    let passed = typed-passes _ _ _ (rw c.in_ok-kind.was at c.type_of.ensures) in
    (rw passed.kind (digit_lt (unpack_of c.args.ten.now)), passed.long)

pub returns-in_err-kind : goal.returns-in_err-kind
returns-in_err-kind c =
    let p = err_from_is_err_and c.from_residual.result c.from_residual.ensures.1 in
    rw (p.1, p.2) (line_refused _ _ _ _ (rw c.in_err-kind.was at c.type_of.ensures))

pub returns : goal.returns
returns c =
    let passed = typed-passes _ _ _ (rw c.in_ok-kind.was at c.type_of.ensures) in
    line-written _ _ _ _ _ _ passed (rw c.typed.ensures at c.put.ensures)
