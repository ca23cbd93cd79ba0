-- `filter::two` meets its contract. The invariant: every index passed has the word of its base or of
-- its base's second. Assumes nothing.
use mathlib.Core.Path.{◌≡◌, sym}
use native.Mathlib.Omega.{arith}
use Rattle.filter.proofs.TwoLaws.{seen_first}
use Rattle.filter.proofs.TwoLaws.{seen-three, seen_all}
use Rattle.filter.proofs.two.Goals as goal

pub loop-a-preserved-then-second-eq0 : goal.loop-a-preserved-then-second-eq0
loop-a-preserved-then-second-eq0 c =
    let l = c.loop-a in
    (omega arith, seen_first _ _ _ _ l.invariant.1 (omega arith) c.if-word-words.false c.if-second-eq0.true)

pub returns-then-words-second : goal.returns-then-words-second
returns-then-words-second c =
    let l = c.loop-a in
    sym
    (seen-three _ _ _ _ l.invariant.1 (omega arith) c.if-word-words.false c.if-second-eq0.false
    c.if-words-second.true)

pub returns : goal.returns
returns c =
    let l = c.loop-a in
    let a = c.args in
    let done : l.a ≡ 16 = omega arith in
    sym (seen_all a.words.now a.key l.seconds (rw done at l.invariant.1))
