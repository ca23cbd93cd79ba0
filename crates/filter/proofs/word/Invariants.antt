-- `filter::word` meets its contract. The invariant: what the turns that are left make of the word is
-- the whole word. Assumes nothing.
use Prim.Native.Nat.{◌-◌, ◌≤◌}
use mathlib.Core.Path.{◌≡◌}
use Rattle.filter.specs.Words.{word_from}
use Rattle.filter.proofs.word.Given as goal

abbrev pub invariant-loop-k : goal.invariant-loop-k
invariant-loop-k l =
    (l.k ≤ 32) × (word_from l.t l.from l.rest (32 - l.k) l.y l.w ≡ word_from l.t l.from l.rest 32 0 0)

abbrev pub decreases-loop-k : goal.decreases-loop-k
decreases-loop-k l = 32 - l.k
