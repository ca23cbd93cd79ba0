-- `filter::word` meets its contract. The invariant: what the turns that are left make of the word is
-- the whole word. Assumes nothing.
use Prim.Native.Nat.{suc, ◌+◌, ◌-◌}
use mathlib.Core.Path.{◌≡◌, sym, ◌∙◌}
use native.Mathlib.Omega.{arith}
use Rattle.filter.proofs.WordLaws.{word-last, word-turn, word_end}
use Rattle.filter.proofs.word.Goals as goal

pub returns-then-y-eq0 : goal.returns-then-y-eq0
returns-then-y-eq0 c =
    let l = c.loop-k in
    let a = c.args in
    let left : 32 - l.k ≡ suc (31 - l.k) = omega arith in
    rw c.value.ensures.0
    (sym (word-last a.t.now a.from a.rest (31 - l.k) l.y l.w c.if-y-eq0.true)
    ∙ rw left at l.invariant.1)

pub loop-k-preserved : goal.loop-k-preserved
loop-k-preserved c =
    let l = c.loop-k in
    let a = c.args in
    let left : 32 - l.k ≡ suc (31 - l.k) = omega arith in
    let fewer : 32 - (l.k + 1) ≡ 31 - l.k = omega arith in (
      omega arith,
      rw (fewer, c.value.ensures.0)
          (sym (word-turn a.t.now a.from a.rest (31 - l.k) l.y l.w c.if-y-eq0.false)
          ∙ rw left at l.invariant.1),
    )

pub returns : goal.returns
returns c =
    let l = c.loop-k in
    let a = c.args in
    let done : 32 - l.k ≡ 0 = omega arith in
    sym (word_end a.t.now a.from a.rest l.y l.w) ∙ rw done at l.invariant.1
