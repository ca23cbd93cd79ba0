-- `columns::of_place` meets its contract: reading decides, then the room.
use Rattle.std.proofs.lemmas.Result.{err_from_is_err_and}
use Rattle.columns.proofs.PrintLaws.{prints-fault}
use Rattle.columns.proofs.ListLaws.{place-few, place-part, place-5, place-put}
use Rattle.columns.proofs.of_place.Goals as goal

pub returns-in_err-bytes : goal.returns-in_err-bytes
returns-in_err-bytes c =
    let p = err_from_is_err_and c.from_residual.result c.from_residual.ensures.1 in
    rw (p.1, p.2) (prints-fault _ _ _ _ c.in_err-bytes.ensures.err)

pub returns-then-out-lt-RECORD_LINE : goal.returns-then-out-lt-RECORD_LINE
returns-then-out-lt-RECORD_LINE c =
    rw c.into.ensures (place-5 _ _ _ c.in_ok-bytes.ensures.ok _ c.if-out-lt-RECORD_LINE.true)

pub put_line-requires-clause-s_len : goal.put_line-requires-clause-s_len
put_line-requires-clause-s_len c = place-part _ _ _ c.in_ok-bytes.ensures.ok

pub put_line-requires-clause-place_lt_most_records : goal.put_line-requires-clause-place_lt_most_records
put_line-requires-clause-place_lt_most_records c =
    (place-few _ _ _ c.in_ok-bytes.ensures.ok, c.if-out-lt-RECORD_LINE.false)

pub returns : goal.returns
returns c =
    place-put _ _ _ c.in_ok-bytes.ensures.ok _ _ c.if-out-lt-RECORD_LINE.false c.put_line.ensures
