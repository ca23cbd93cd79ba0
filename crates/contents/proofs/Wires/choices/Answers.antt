-- `contents::Wires::choices` meets its contract. The invariant: the components below s have their
-- polarities. Assumes nothing.
use mathlib.Core.Path.{◌≡◌, ◌∙◌}
use native.Mathlib.Omega.{arith}
use Prim.Native.Nat.{◌<◌}
use lib.ListN.{length-set}
use Rattle.contents.specs.Code.{choice_at}
use Rattle.contents.proofs.PoleLaws.{choice-here, poles-more, poles-none, poles-all}
use Rattle.contents.proofs.Wires.choices.Goals as goal

pub loop-s-preserved : goal.loop-s-preserved
loop-s-preserved c =
    let args = c.args in
    let s = c.loop-s.s in
    let poles = c.loop-s.poles in
    let found = c.in_ok-poles.ensures.first ∙ choice-here args.self args.asked.now args.h s in
    let below = c.in_ok-poles.ensures.below in
    let fits : choice_at args.self args.asked.now args.h s < 16 = omega arith in
    record {
      all = simp length-set c.loop-s.invariant.all;
      poles =
          poles-more (choice_at args.self args.asked.now args.h) s poles c.loop-s.invariant.poles (omega arith) fits
          c.in_ok-poles.field-0 found;
    }

pub returns-in_err-poles : goal.returns-in_err-poles
returns-in_err-poles c =
    let args = c.args in
    rw c.from_residual.ensures
    (poles-none args.self args.asked.now args.h c.loop-s.s (omega arith) (c.in_err-poles.ensures.first ∙ choice-here args.self args.asked.now args.h c.loop-s.s))

pub returns : goal.returns
returns c =
    let args = c.args in
    let done : c.loop-s.s ≡ 16 = omega arith in
    poles-all args.self args.asked.now args.h c.loop-s.poles (rw done at c.loop-s.invariant.poles)
