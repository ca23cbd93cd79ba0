-- `filter::useful` meets its contract. The invariant: the list of the first sets of the table, so
-- many, then zeros. Assumes nothing.
use mathlib.Core.Path.{◌≡◌, sym, ◌∙◌}
use mathlib.Core.Bool.{false}
use native.Mathlib.Omega.{arith}
use lib.ListN.{get_or}
use Rattle.subsets.specs.Masks.{masks}
use Rattle.filter.specs.Support.{inputs_of}
use Rattle.filter.specs.Choices.{contained, useful_to}
use Rattle.filter.proofs.ChoiceLaws.{gathered-start, gathered-past, gathered-contained}
use Rattle.filter.proofs.ChoiceLaws.{gathered-more, gathered-all, tested}
use Rattle.filter.proofs.useful.Goals as goal

pub loop-set-init : goal.loop-set-init
loop-set-init c = gathered-start (inputs_of c.args.n) c.args.within

pub loop-set-preserved-then-end-set : goal.loop-set-preserved-then-end-set
loop-set-preserved-then-end-set c =
    let l = c.loop-set in
    let past =
    rw (c.power-end.ensures.0, c.inputs.ensures.0, c.all.ensures) at c.if-end-set.true in
    gathered-past _ _ l.set-index l.sets l.many l.invariant past

pub loop-set-preserved : goal.loop-set-preserved
loop-set-preserved c =
    let l = c.loop-set in
    let all = c.all in
    let below =
    rw (c.power-end.ensures.0, c.inputs.ensures.0, all.ensures) at c.if-end-set.false in
    let told : contained c.args.within (useful_to (inputs_of c.args.n) c.args.within l.set-index) (get_or masks l.set-index 0) ≡ false =
    sym (tested _ _ l.set-index l.sets l.many l.invariant) ∙ sym (rw all.ensures at c.dominated.ensures) ∙ c.if-dominated.false in
    rw all.ensures (gathered-more _ _ l.set-index l.sets l.many l.invariant (omega arith) below told)

pub loop-set-preserved-then-dominated : goal.loop-set-preserved-then-dominated
loop-set-preserved-then-dominated c =
    let l = c.loop-set in
    gathered-contained _ _ l.set-index l.sets l.many l.invariant
    (sym (tested _ _ l.set-index l.sets l.many l.invariant)
    ∙ sym (rw c.all.ensures at c.dominated.ensures)
    ∙ c.if-dominated.true)

pub returns : goal.returns
returns c =
    let l = c.loop-set in
    let done : l.set-index ≡ 256 = omega arith in
    let all = gathered-all c.args.n c.args.within l.sets l.many (rw done at l.invariant) in
    record { sets = all.0; many = all.1 }
