-- `words::past`: from the place in hand on, the run ends where it does from `at` on.
use Rattle.std.proofs.Common.{ℕ, ◌≡◌, ◌-◌, Bool, length}
use Rattle.words.specs.Next.{past}
use Rattle.words.proofs.past.Given as goal

abbrev pub invariant-loop-i : goal.invariant-loop-i
invariant-loop-i g l =
    (p : ℕ → Bool) → ((b : ℕ) (r : Bool) → g.F.Fn.post l.test (b, tt) r → r ≡ p b) → past p l.s l.i ≡ past p l.s l.at

abbrev pub decreases-loop-i : goal.decreases-loop-i
decreases-loop-i g l = length l.s - l.i
