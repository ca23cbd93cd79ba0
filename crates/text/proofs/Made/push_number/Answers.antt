-- `text::Made::push_number` meets its contract: a number has twenty digits at most.
use mathlib.Core.Path.{ap, ◌∙◌}
use mathlib.Core.List.{List, ◌++◌}
use Prim.Native.Nat.{ℕ}
use native.Mathlib.Omega.{arith}
use Rattle.digits.specs.Digits.{decimal}
use Rattle.digits.proofs.DigitLaws.{decimal-u64}
use Rattle.text.proofs.NumberLaws.{number_put, taken_length}
use Rattle.text.proofs.Made.push_number.Goals as goal

pub returns : goal.returns
returns c =
    let few = decimal-u64 c.args.x (omega arith) in
    let used = taken_length _ _ _ c.self.view_is (omega (arith, c.self.invariant)) in
    number_put _ _ c.self.inside.used _ _ _ (omega arith) (omega arith) c.align.ensures
    ∙ ap (λ (s : List ℕ). s ++ decimal c.args.x) c.self.view_is
