-- The support, row by row and variable by variable. Assumes nothing.
use mathlib.Core.Path.{◌≡◌, sym, ◌∙◌}
use mathlib.Core.Bool.{Bool, true, false, not, beq}
use mathlib.Core.List.{List}
use Prim.Native.Nat.{ℕ, ◌-◌, ◌^◌, ◌<◌, ◌≤◌, min}
use native.Mathlib.Omega.{arith}
use lib.Bits.{bit_and, and_le_l}
use lib.Dec.{eqb, ltb}
use lib.Pow.{pow-lt}
use borrow.Author.Tests.{ltb-true, ltb-false}
use Rattle.bits.specs.Bits.{has}
use Rattle.bits.specs.Tests.{◌⊕◌}
use Rattle.bits.proofs.TestLaws.{eqb_comm}
use Rattle.bits.proofs.SearchLaws.{byBool, clash, some_in, none_in}
use Rattle.bits.proofs.XorLaws.{xor-beq}
use Rattle.bits.proofs.BitLaws.{has-pow, has-high, has-of_bits, of_bits-lt}
use Rattle.wiring.specs.Wire.{truth, without}
use Rattle.wiring.specs.Fits.{depends_on}
use Rattle.filter.specs.Support.{support_of}
use Rattle.filter.proofs.SetLaws.{and-rest}

-- row r changes its value when v is cleared
abbrev pub changes_at : (n : ℕ) (t : List ℕ) (v r : ℕ) → Bool
changes_at n t v r = truth t r ⊕ truth t (without n (eqb v) r)

module _ (n : ℕ) (t : List ℕ) (v : ℕ) (within : n ≤ 9) (variable : v < 9) where
  cleared : (r : ℕ) → r < 2 ^ n → bit_and r (511 - 2 ^ v) ≡ without n (eqb v) r
  cleared r l =
      let small : 2 ^ v < 2 ^ 9 = pow-lt variable in
      let le = and_le_l r (511 - 2 ^ v) in
      and-rest n r (2 ^ v) (eqb v) within (omega arith) (λ u m. has-pow v u ∙ eqb_comm u v)
      (omega arith)

  -- the code's test of row r
  pub tested : (r : ℕ) → r < 2 ^ n
      → not (beq (truth t r) (truth t (bit_and r (511 - 2 ^ v)))) ≡ changes_at n t v r
  tested r l = rw (cleared r l) (xor-beq (truth t r) (truth t (without n (eqb v) r)))

pub one-changes : (n : ℕ) (t : List ℕ) (v r : ℕ) → r < 2 ^ n → changes_at n t v r ≡ true
    → depends_on n t v ≡ true
unfolding depends_on
one-changes n t v r l h = some_in (changes_at n t v) (2 ^ n) r l h

pub none-changes : (n : ℕ) (t : List ℕ) (v : ℕ)
    → ((r : ℕ) → r < 2 ^ n → changes_at n t v r ≡ false) → depends_on n t v ≡ false
unfolding depends_on
none-changes n t v h = none_in (changes_at n t v) (2 ^ n) h

-- the support is of the n variables, and has those that the table depends on
module _ (n : ℕ) (t : List ℕ) (within : n ≤ 9) where
  cut : min n 9 ≡ n
  cut = omega arith

  pub support-lt : support_of n t < 2 ^ n
  unfolding support_of
  support-lt = rw cut (of_bits-lt n (depends_on n t))

  pub support-has : (v : ℕ) → v < n → has (support_of n t) v ≡ depends_on n t v
  unfolding support_of
  support-has v l = rw cut (has-of_bits n (depends_on n t) v l)

  pub support-on : (v : ℕ) → has (support_of n t) v ≡ true → (v < n) × (depends_on n t v ≡ true)
  support-on v h =
      byBool (ltb v n)
      (λ e. (ltb-true v n e, sym (support-has v (ltb-true v n e)) ∙ h))
      (λ e. clash h (has-high n (support_of n t) v support-lt (ltb-false v n e)))
