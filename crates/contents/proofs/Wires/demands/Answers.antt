-- `contents::Wires::demands` meets its contract. The invariant: what the rows below r ask is marked. Assumes
-- nothing.
use mathlib.Core.Path.{refl, sym, ◌∙◌}
use lib.ListN.{length-set}
use Rattle.contents.proofs.GatherLaws.{asked-none, asked-one, asked-zero}
use Rattle.contents.proofs.Wires.demands.Goals as goal

pub loop-r-init : goal.loop-r-init
loop-r-init c = record { all = refl; so_far = asked-none c.args.t.now c.args.self }

pub loop-r-preserved-then-truth : goal.loop-r-preserved-then-truth
loop-r-preserved-then-truth c =
    let l = c.loop-r in
    let s = c.component-s in
    let e = c.slot-mark in
    record {
      all = simp length-set l.invariant.all;
      so_far =
          asked-one c.args.t.now c.args.self l.r l.asked l.invariant.all l.invariant.so_far s.result e.result
          s.ensures.0 s.ensures.1 e.ensures.0 e.ensures.1 (sym c.truth.ensures ∙ c.if-truth.true);
    }

pub loop-r-preserved : goal.loop-r-preserved
loop-r-preserved c =
    let l = c.loop-r in
    let s = c.component-s in
    let e = c.slot-mark in
    record {
      all = simp length-set l.invariant.all;
      so_far =
          asked-zero c.args.t.now c.args.self l.r l.asked l.invariant.all l.invariant.so_far s.result e.result
          s.ensures.0 s.ensures.1 e.ensures.0 e.ensures.1 (sym c.truth.ensures ∙ c.if-truth.false);
    }
