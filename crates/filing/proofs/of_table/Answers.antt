-- `filing::of_table` meets its contract: a block that was matched is appended, and a refusal is told.
use Rattle.std.proofs.lemmas.Result.{err_from_is_err_and}
use Rattle.filing.proofs.FilingLaws.{files-block, files-unmatched}
use Rattle.filing.proofs.of_table.Goals as goal

pub returns-in_err-first_match : goal.returns-in_err-first_match
returns-in_err-first_match c =
    let p = err_from_is_err_and c.from_residual.result c.from_residual.ensures.1 in
    rw (p.1, p.2) (files-unmatched _ _ _ _ _ _ _ _ c.in_err-first_match.ensures)

pub returns : goal.returns
returns c = files-block _ _ _ _ _ _ _ _ _ _ c.in_ok-first_match.ensures c.append.ensures
