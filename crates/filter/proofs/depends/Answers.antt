-- `filter::depends` meets its contract. The invariant: no row passed changes its value. Assumes
-- nothing.
use Prim.Native.Nat.{◌^◌}
use mathlib.Core.Path.{◌≡◌, sym, ◌∙◌}
use mathlib.Core.Bool.{not, beq}
use native.Mathlib.Omega.{arith}
use borrow.Author.Count.{below_more}
use Rattle.filter.proofs.SupportLaws.{changes_at, tested, one-changes, none-changes}
use Rattle.filter.proofs.depends.Goals as goal

pub returns-then-truth : goal.returns-then-truth
returns-then-truth c =
    let the-test : not (beq c.truth.result c.truth-in-loop-row.result) ≡ changes_at c.args.n c.args.t.now c.args.v c.loop-row.row =
    rw (c.truth.ensures, c.truth-in-loop-row.ensures, c.power-keep.ensures.0)
    (tested c.args.n c.args.t.now c.args.v c.requires.0 c.requires.1
    c.loop-row.row
    (omega (arith, c.power-end.ensures.0)))
    in
    let l = c.loop-row in
    sym
    (one-changes c.args.n c.args.t.now c.args.v l.row
    (omega (arith, c.power-end.ensures.0))
    (sym (the-test) ∙ c.if-truth.true))

pub loop-row-preserved : goal.loop-row-preserved
loop-row-preserved c =
    let the-test : not (beq c.truth.result c.truth-in-loop-row.result) ≡ changes_at c.args.n c.args.t.now c.args.v c.loop-row.row =
    rw (c.truth.ensures, c.truth-in-loop-row.ensures, c.power-keep.ensures.0)
    (tested c.args.n c.args.t.now c.args.v c.requires.0 c.requires.1
    c.loop-row.row
    (omega (arith, c.power-end.ensures.0)))
    in
    let l = c.loop-row in
    (omega arith, below_more _ _ l.invariant.1 (sym (the-test) ∙ c.if-truth.false))

pub returns : goal.returns
returns c =
    let l = c.loop-row in
    let a = c.args in
    let done : l.row ≡ 2 ^ a.n = omega (arith, c.power-end.ensures.0) in
    sym (none-changes a.n a.t.now a.v (rw done at l.invariant.1))
