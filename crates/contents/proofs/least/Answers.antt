-- `contents::least` meets its contract: where no table H passes the first test nothing computes the
-- table, and else the least of the contents that the test finds is the least of all. Assumes nothing.
use mathlib.Core.Path.{refl, sym, ◌∙◌}
use Rattle.contents.proofs.LeastLaws.{least-of-all, none-possible, is-least-none, weighs-tidy, weighs-refused}
use Rattle.contents.proofs.least.Goals as goal

pub returns-in_err-pins : goal.returns-in_err-pins
returns-in_err-pins c =
    rw c.from_residual.ensures
    (weighs-refused c.args.n c.args.t.now c.args.f c.args.g c.args.direct (c.in_err-pins.ensures.none refl))

pub returns-then-not-possible : goal.returns-then-not-possible
returns-then-not-possible c =
    let p = c.in_ok-pins.pins in
    let same = c.in_ok-pins.ensures.pins in
    rw (← same.0, ← same.1, ← same.2, ← same.3)
    (weighs-tidy p.inputs.n c.args.t.now p.f p.g p.direct _ p.tidy
    (is-least-none p.inputs.n c.args.t.now p.f p.g p.direct
    (none-possible p.inputs.n c.args.t.now p.f p.g p.direct p.tidy
    c.wires-wires.result c.wires-wires.ensures c.demands-asked.result c.demands-asked.ensures
    (sym c.possible.ensures ∙ c.if-not-possible.true))))

pub returns : goal.returns
returns c =
    let p = c.in_ok-pins.pins in
    let same = c.in_ok-pins.ensures.pins in
    rw (← same.0, ← same.1, ← same.2, ← same.3)
    (weighs-tidy p.inputs.n c.args.t.now p.f p.g p.direct _ p.tidy
    (record {
      least =
          rw c.smallest.ensures.least
          (least-of-all p.inputs.n c.args.t.now p.f p.g p.direct p.tidy
          c.wires-wires.result c.wires-wires.ensures c.demands-asked.result c.demands-asked.ensures);
      small = λ x is. rw is at c.smallest.ensures.below;
    }))
