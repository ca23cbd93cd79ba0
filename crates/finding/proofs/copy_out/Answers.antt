-- `finding::copy_out` meets its contract: reading decides, then the room.
use Rattle.std.proofs.Common.{refl}
use Rattle.std.proofs.lemmas.Result.{err_from_is_err_and}
use Rattle.finding.proofs.ReadLaws.{copies-refused, copies-5, copies-record}
use Rattle.finding.proofs.copy_out.Goals as goal

pub returns-in_err-bytes : goal.returns-in_err-bytes
returns-in_err-bytes c =
    let p = err_from_is_err_and c.from_residual.result c.from_residual.ensures.1 in
    rw (p.1, p.2) (copies-refused _ _ _ _ c.in_err-bytes.ensures.err)

pub returns-then-out-lt-RECORD_BYTES : goal.returns-then-out-lt-RECORD_BYTES
returns-then-out-lt-RECORD_BYTES c =
    rw c.into.ensures (copies-5 _ _ c.in_ok-bytes.ensures.ok.none _ c.if-out-lt-RECORD_BYTES.true)

pub returns : goal.returns
returns c =
    let stands = c.in_ok-bytes.ensures.ok in
    copies-record _ _ stands.none _ _ c.if-out-lt-RECORD_BYTES.false
    (rw (c.copy_from_slice.ensures.after, stands.bytes, rw stands.bytes at stands.whole) refl)
