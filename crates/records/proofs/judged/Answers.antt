-- `records::judged` meets its contract: the numbers and the ten bytes behind them are the record.
use Rattle.std.proofs.lemmas.Result.{err_from_is_err_and}
use Rattle.records.proofs.WalkLaws.{follows-judged, stops-judged}
use Rattle.records.proofs.judged.Goals as goal

pub returns-in_err-judge-clause-err : goal.returns-in_err-judge-clause-err
returns-in_err-judge-clause-err c =
    let p = err_from_is_err_and c.from_residual.result c.from_residual.ensures.1 in
    rw (p.1, p.2)
    (stops-judged _ _ _ c.numbers_of-x.ensures _ _ (rw c.split_at.ensures.back at c.in_err-judge.ensures))

pub returns-clause-ok : goal.returns-clause-ok
returns-clause-ok c =
    rw c.pair.ensures
    (follows-judged _ _ _ c.numbers_of-x.ensures _ (rw c.split_at.ensures.back at c.in_ok-judge.ensures))
