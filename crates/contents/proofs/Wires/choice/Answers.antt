-- `contents::Wires::choice` meets its contract. The invariant: no polarities below k serve. Assumes nothing.
use mathlib.Core.Path.{sym, ◌∙◌}
use native.Mathlib.Omega.{arith}
use Rattle.bits.proofs.SearchLaws.{first-at, first-none}
use Rattle.contents.specs.Code.{serves_by, choice_by}
use Rattle.contents.proofs.Wires.choice.Goals as goal

pub returns-then-served-clause-first : goal.returns-then-served-clause-first
unfolding choice_by
returns-then-served-clause-first c =
    let args = c.args in
    let serves = serves_by args.self args.h args.asked.ones args.asked.zeros in
    sym
    (first-at serves 16 c.loop-k.k (omega arith) (sym c.served.ensures ∙ c.if-served.true)
    c.loop-k.invariant.1)

pub returns-clause-first : goal.returns-clause-first
unfolding choice_by
returns-clause-first c =
    let args = c.args in
    let serves = serves_by args.self args.h args.asked.ones args.asked.zeros in
    sym (first-none serves 16 (λ i l. c.loop-k.invariant.1 i (omega arith)))
