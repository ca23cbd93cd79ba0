-- `contents::Wires::served` meets its contract. Assumes nothing.
use mathlib.Core.Path.{sym, ◌∙◌}
use native.Mathlib.Omega.{arith}
use Rattle.contents.proofs.TurnLaws.{serves-not, serves_by_lem}
use Rattle.contents.proofs.Wires.served.Goals as goal

pub returns-then-not-allowed : goal.returns-then-not-allowed
returns-then-not-allowed c =
    let args = c.args in
    serves-not args.self args.h args.asked.ones args.asked.zeros args.k 0
    (sym c.allowed.ensures ∙ c.if-not-allowed.true)

pub returns : goal.returns
returns c =
    let args = c.args in
    let m = c.moved-m.result in
    serves_by_lem args.self args.h args.asked.ones args.asked.zeros args.k m
    (sym c.allowed.ensures ∙ c.if-not-allowed.false) (omega arith) (omega arith)
    c.moved-m.ensures
