-- `append::last_of` meets its contract: below a record's length there is no record, else the last bytes
-- of that length are the last record.
use mathlib.Core.Path.{sym}
use Rattle.append.proofs.LastLaws.{none-last, read-last}
use Rattle.append.proofs.last_of.Goals as goal

pub returns-in_err-bytes : goal.returns-in_err-bytes
returns-in_err-bytes c = rw c.from_residual.ensures (sym (none-last _ c.in_err-bytes.ensures.cases))

pub returns : goal.returns
returns c =
    let (some, whole) = c.in_ok-bytes.ensures.cases in
    rw c.pair.ensures (sym (read-last _ c.numbers_of.result some c.requires (rw whole.same at c.numbers_of.ensures)))
