-- `contents::Wires::possible` meets its contract. The invariant: no table H below h is possible. Assumes
-- nothing.
use mathlib.Core.Path.{sym, ◌∙◌}
use native.Mathlib.Omega.{arith}
use borrow.Author.Count.{below_more}
use Rattle.bits.proofs.SearchLaws.{some_in, none_in}
use Rattle.contents.specs.Code.{possible_by}
use Rattle.contents.proofs.WithTableLaws.{first-not, all-not, first-and-all}
use Rattle.contents.proofs.Wires.possible.Goals as goal

pub loop-h-preserved-then-not-served : goal.loop-h-preserved-then-not-served
loop-h-preserved-then-not-served c =
    let args = c.args in
    let start = c.component in
    let none = sym c.served.ensures ∙ c.if-not-served.true in (
      omega arith,
      below_more _ _ c.loop-h.invariant.1
          (first-not args.self args.asked.now c.loop-h.h start.result start.ensures.0 none),
    )

pub returns-then-is_some : goal.returns-then-is_some
returns-then-is_some c =
    let args = c.args in
    let start = c.component in
    let h = c.loop-h.h in
    let first = sym c.served.ensures ∙ c.if-not-served.false in
    let all = sym c.choices.ensures.holds ∙ sym c.is_some.ensures ∙ c.if-is_some.true in
    sym
    (some_in (possible_by args.self args.asked.now) 256 h (omega arith)
    (first-and-all args.self args.asked.now h start.result start.ensures.0 first all))

pub loop-h-preserved : goal.loop-h-preserved
loop-h-preserved c =
    let args = c.args in
    let start = c.component in
    let none = sym c.choices.ensures.holds ∙ sym c.is_some.ensures ∙ c.if-is_some.false in (
      omega arith,
      below_more _ _ c.loop-h.invariant.1
          (all-not args.self args.asked.now c.loop-h.h start.result start.ensures.0 none),
    )

pub returns : goal.returns
returns c =
    let args = c.args in
    sym (none_in (possible_by args.self args.asked.now) 256 (λ i l. c.loop-h.invariant.1 i (omega arith)))
