-- Sets as masks of nine bits: what is left of one without another. Assumes nothing.
use mathlib.Core.Path.{◌≡◌, ap, ◌∙◌}
use mathlib.Core.Bool.{Bool, not}
use Prim.Native.Nat.{ℕ, ◌-◌, ◌^◌, ◌<◌, ◌≤◌}
use native.Mathlib.Omega.{arith}
use lib.Bits.{bit_and}
use Rattle.bits.specs.Bits.{has}
use Rattle.bits.proofs.SetLaws.{has-complement, masked_row}
use Rattle.wiring.specs.Wire.{without}

-- `r & (511 - x)` is row r with the variables of x cleared
pub and-rest : (n r x : ℕ) (set : ℕ → Bool) → n ≤ 9 → x < 512
    → ((v : ℕ) → v < n → has x v ≡ set v) → bit_and r (511 - x) < 2 ^ n
    → bit_and r (511 - x) ≡ without n set r
unfolding without
and-rest n r x set within small same bound =
    masked_row n r (511 - x) (λ v. not (set v)) bound
    (λ v l. has-complement 9 x v small (omega arith) ∙ ap not (same v l))
