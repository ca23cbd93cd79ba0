-- `contents::Wires::smallest` meets its contract. The invariant: the least of the contents with a table H
-- below h. Assumes nothing.
use mathlib.Core.Path.{refl, ◌∙◌}
use native.Mathlib.Omega.{arith}
use Rattle.contents.specs.Contents.{no_contents}
use Rattle.contents.specs.Code.{with_table, least_of}
use Rattle.contents.proofs.MinimumLaws.{least_of-less, least_of-same, least_of-most}
use Rattle.contents.proofs.Wires.smallest.Goals as goal
use Rattle.contents.proofs.Wires.smallest.Goals.{in-Some-best, in_default-best-2, in_default-best}

pub loop-h-init : goal.loop-h-init
unfolding least_of
loop-h-init c = record { least = refl; below = tt }

pub loop-h-preserved-in_default : goal.loop-h-preserved-in_default
loop-h-preserved-in_default c =
    let before = c.loop-h.invariant.least in
    let none = c.in_default.ensures.contents in
    let most = least_of-most no_contents (with_table c.args.self c.args.asked.now) c.loop-h.h in
    record {
      least =
          before
          ∙ least_of-same no_contents (with_table c.args.self c.args.asked.now) c.loop-h.h (omega arith);
      below = c.loop-h.invariant.below;
    }

pub loop-h-preserved : goal.loop-h-preserved
loop-h-preserved c =
    let with = with_table c.args.self c.args.asked.now in
    let h = c.loop-h.h in
    let found = c.in-Some.ensures.contents in
    let small = c.in-Some.ensures.below in
    elim c.match-best.branch [
      | in-Some-best w ↦
          let before = rw w.in-Some-best.is at c.loop-h.invariant.least in
          let below = rw w.in-Some-best.is at c.loop-h.invariant.below in
          rw w.best-is
          (record { least = before ∙ least_of-same no_contents with h (omega arith); below = below })
      | in_default-best-2 w ↦
          let before = rw w.in-Some-best.is at c.loop-h.invariant.least in
          rw w.best-is (record { least = found ∙ least_of-less no_contents with h (omega arith); below = small })
      | in_default-best w ↦
          let before = rw w.in_default-best.is at c.loop-h.invariant.least in
          rw w.best-is (record { least = found ∙ least_of-less no_contents with h (omega arith); below = small })
    ]
