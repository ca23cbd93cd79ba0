-- `append::decide` meets its contract: the used part is a sheet, the new record is judged after its
-- last, then the room is looked at.
use mathlib.Core.Path.{ap, ◌∙◌}
use native.Mathlib.Omega.{arith}
use Rattle.append.specs.Append.{no_room}
use Rattle.std.proofs.lemmas.Result.{err_from_is_err_and}
use Rattle.records.proofs.BoundLaws.{accepted-length, counted}
use Rattle.append.proofs.DecideLaws.{refuses-used, refuses-sheet, refuses-new, refuses-room, accepts}
use Rattle.append.proofs.decide.Goals as goal

pub returns-then-s-used-clause-err : goal.returns-then-s-used-clause-err
returns-then-s-used-clause-err c = rw c.into.ensures (refuses-used _ _ _ c.if-s-used.true)

pub returns-in_err-count-clause-err : goal.returns-in_err-count-clause-err
returns-in_err-count-clause-err c =
    let p = err_from_is_err_and c.from_residual.result c.from_residual.ensures.1 in
    rw (p.1, p.2)
    (refuses-sheet _ _ _ c.if-s-used.false _ (rw c.split_at.ensures.front at c.in_err-count.ensures))

pub last_of-requires : goal.last_of-requires
last_of-requires c = (accepted-length _ (counted _ _ c.in_ok-count.ensures).0).multiple

pub returns-in_err-judge-clause-err : goal.returns-in_err-judge-clause-err
returns-in_err-judge-clause-err c =
    let p = err_from_is_err_and c.from_residual-in_err-judge.result c.from_residual-in_err-judge.ensures.1 in
    rw (p.1, p.2)
    (refuses-new _ _ _ c.if-s-used.false _ (rw c.split_at.ensures.front at c.in_ok-count.ensures) _
    (rw c.split_at.ensures.front at c.last_of.ensures) _ c.in_err-judge.ensures)

pub returns-then-is_full-clause-err : goal.returns-then-is_full-clause-err
returns-then-is_full-clause-err c =
    rw c.into-then-is_full.ensures
    (refuses-room _ _ _ c.if-s-used.false _ (rw c.split_at.ensures.front at c.in_ok-count.ensures) _
    (rw c.split_at.ensures.front at c.last_of.ensures) c.in_ok-judge.ensures
    (c.if-is_full.ensures ∙ ap (λ k. no_room k c.in_ok-count.count) (omega (arith, c.split_at.ensures.back_len))))

pub returns-clause-ok : goal.returns-clause-ok
returns-clause-ok c =
    accepts _ _ _ c.if-s-used.false _ (rw c.split_at.ensures.front at c.in_ok-count.ensures) _
    (rw c.split_at.ensures.front at c.last_of.ensures) c.in_ok-judge.ensures
    (c.if-is_full.ensures ∙ ap (λ k. no_room k c.in_ok-count.count) (omega (arith, c.split_at.ensures.back_len)))
