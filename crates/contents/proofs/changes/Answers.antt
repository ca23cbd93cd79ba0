-- `contents::changes` meets its contract. The invariant: the rows below r are gathered. Assumes nothing.
use mathlib.Core.Path.{sym, ◌∙◌}
use Rattle.bits.proofs.TestLaws.{same_bool}
use Rattle.contents.proofs.GatherLaws.{gathered_none, gathered-same, gathered-more}
use Rattle.contents.proofs.changes.Goals as goal

pub loop-r-init : goal.loop-r-init
loop-r-init c = gathered_none c.args.t.now c.args.key c.args.keep

pub loop-r-preserved-then-truth : goal.loop-r-preserved-then-truth
loop-r-preserved-then-truth c =
    let args = c.args in
    let same = sym c.truth.ensures ∙ same_bool _ _ c.if-truth.true ∙ c.truth-in-loop-r.ensures in
    gathered-same args.t.now args.key args.keep c.loop-r.r c.loop-r.found c.loop-r.invariant same

pub loop-r-preserved : goal.loop-r-preserved
loop-r-preserved c =
    let args = c.args in
    let other = rw (c.truth.ensures, c.truth-in-loop-r.ensures) at c.if-truth.false in
    gathered-more args.t.now args.key args.keep c.loop-r.r c.loop-r.found c.loop-r.invariant other
    c.select.result c.select.ensures.0 c.select.ensures.1
