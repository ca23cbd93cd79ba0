-- `columns::of_sheet` meets its contract: the sheet decides, then the room.
use mathlib.Core.Path.{sym}
use native.Mathlib.Omega.{arith}
use Rattle.std.proofs.lemmas.Result.{err_from_is_err_and}
use Rattle.record.proofs.ToldLaws.{refusal-told}
use Rattle.records.proofs.BoundLaws.{counted, records-few}
use Rattle.columns.proofs.PrintLaws.{prints-fault}
use Rattle.columns.proofs.ListLaws.{list-5, list_put}
use Rattle.columns.proofs.of_sheet.Goals as goal

pub returns-in_err-count : goal.returns-in_err-count
returns-in_err-count c =
    let p = err_from_is_err_and c.from_residual.result c.from_residual.ensures.1 in
    rw (p.1, p.2) (prints-fault _ _ _ _ (sym (refusal-told _ _ _ c.in_err-count.ensures)))

pub overflow_mul-count : goal.overflow_mul-count
overflow_mul-count c =
    let found = counted _ _ c.in_ok-count.ensures in
    record { fits = omega (arith, found.1, records-few _ found.0) }

pub returns-then-out-count : goal.returns-then-out-count
returns-then-out-count c =
    let found = counted _ _ c.in_ok-count.ensures in
    rw c.into.ensures (list-5 _ found.0 _ (omega (arith, found.1, c.if-out-count.true)))

pub put_lines-requires-clause-none : goal.put_lines-requires-clause-none
put_lines-requires-clause-none c = (counted _ _ c.in_ok-count.ensures).0

pub put_lines-requires-clause-room : goal.put_lines-requires-clause-room
put_lines-requires-clause-room c =
    omega (arith, (counted _ _ c.in_ok-count.ensures).1, c.if-out-count.false)

pub returns : goal.returns
returns c =
    let found = counted _ _ c.in_ok-count.ensures in
    rw found.1 (list_put _ found.0 _ _ (omega (arith, found.1, c.if-out-count.false)) c.put_lines.ensures)
