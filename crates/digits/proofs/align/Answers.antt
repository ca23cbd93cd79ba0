-- `digits::align` meets its contract: the column is filled from its last byte to its first. The
-- invariant: the bytes from `at` on are in place. Assumes nothing.
use Rattle.std.proofs.Common.{◌≡◌, ◌+◌, ◌-◌}
use native.Mathlib.Omega.{arith}
use Rattle.digits.proofs.ColumnLaws.{placed-start, placed-turn, placed_end}
use Rattle.digits.proofs.align.Goals as goal

pub loop-at-init : goal.loop-at-init
loop-at-init c = placed-start _ _

pub loop-at-preserved : goal.loop-at-preserved
loop-at-preserved c =
    let l = c.loop-at in
    let back : l.at - 1 + 1 ≡ l.at = omega arith in
    placed-turn _ l.at l.rest _ l.out _ l.invariant (omega arith) (rw back at c.symbol.ensures)

pub returns : goal.returns
returns c =
    let l = c.loop-at in
    let told = c.length_of.ensures in
    placed_end _ l.at l.rest _ l.out l.invariant c.loop-at-test.false (omega arith)
