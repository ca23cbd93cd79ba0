-- A set has at most one variable where `set & (set - 1)` is 0; else there is one besides any given
-- variable. Assumes nothing.
use mathlib.Core.Path.{◌≡◌, ap}
use mathlib.Core.Bool.{true, false}
use Prim.Native.Nat.{ℕ, ◌-◌, ◌^◌, ◌<◌}
use native.Mathlib.Omega.{arith}
use lib.Bits.{bit_and}
use lib.Dec.{eqb, leb}
use borrow.Author.Tests.{leb-false}
use Rattle.bits.specs.Bits.{has}
use Rattle.bits.specs.Tests.{count}
use Rattle.bits.proofs.CountLaws.{two-counted}
use Rattle.bits.proofs.OneBitLaws.{count_none, one_bit}
use Rattle.filter.specs.Support.{one_at_most}

pub one-lowered : (set : ℕ) → set < 2 ^ 16 → (set ≡ 0 → ⊥)
    → eqb (bit_and set (set - 1)) 0 ≡ one_at_most set
unfolding one_at_most
one-lowered set l some = one_bit 16 set l (omega arith)

pub one-empty : one_at_most 0 ≡ true
unfolding one_at_most
one-empty = ap (λ (k : ℕ). leb k 1) (count_none 16)

-- a set with more has a variable besides v, so no one pin carries all of it
pub one-besides : (set v : ℕ) → one_at_most set ≡ false → (u : ℕ) × (u ≡ v → ⊥) × (has set u ≡ true)
unfolding one_at_most
one-besides set v h = two-counted (has set) 16 v (leb-false (count (has set) 16) 1 h)
