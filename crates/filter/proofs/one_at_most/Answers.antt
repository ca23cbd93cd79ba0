-- `filter::one_at_most` meets its contract. Assumes nothing.
use mathlib.Core.Path.{sym}
use native.Mathlib.Omega.{arith}
use Rattle.filter.proofs.OneLaws.{one-empty, one-lowered}
use Rattle.filter.proofs.one_at_most.Goals as goal

pub returns-then-set-eq0 : goal.returns-then-set-eq0
returns-then-set-eq0 c =
    rw c.if-set-eq0.true (sym one-empty)

pub returns : goal.returns
returns c =
    one-lowered c.args.set (omega arith) c.if-set-eq0.false
