-- Masks of rows, row 0 in the highest bit: `x & y == x` says that every row of x is one of y, and
-- `x & y == 0` that none is. Assumes nothing.
use mathlib.Core.Path.{◌≡◌, refl, sym, ap, ap₂, ◌∙◌}
use mathlib.Core.Bool.{Bool, true, false, not, ◌&&◌, ◌||◌}
use Prim.Native.Nat.{ℕ, ◌-◌, ◌^◌, ◌<◌}
use native.Mathlib.Omega.{arith}
use lib.Bits.{bit_and, and_le_l}
use lib.Dec.{eqb}
use lib.Pow.{pow_pos}
use borrow.Author.Tests.{eq-eqb, eqb-true, not-true}
use Rattle.bits.specs.Bits.{bit, has, num, row_of}
use Rattle.bits.specs.Tests.{below, ◌⊕◌}
use Rattle.bits.proofs.TestLaws.{same_test, below_at, below_of, below-ext}
use Rattle.bits.proofs.XorLaws.{xor-no, xor-eq}
use Rattle.bits.proofs.BitLaws.{num-has, has-of-0, has-and, same_number}

-- two bits compared
pub same_bits : (x i y j : ℕ) → eqb (bit x i) (bit y j) ≡ not (has x i ⊕ has y j)
same_bits x i y j =
    rw (← num-has x i, ← num-has y j) (go (has x i) (has y j))
  where
    go : (p q : Bool) → eqb (num p) (num q) ≡ not (p ⊕ q)
    go true true = refl
    go true false = refl
    go false true = refl
    go false false = refl

zero_bit : (x i : ℕ) → eqb (bit x i) 0 ≡ not (has x i)
zero_bit x i = rw (← num-has x i) (go (has x i))
  where
    go : (p : Bool) → eqb (num p) 0 ≡ not p
    go true = refl
    go false = refl

-- two numbers are equal if all their rows are
same_rows : (w x y : ℕ) → x < 2 ^ w → y < 2 ^ w
    → eqb x y ≡ below (λ e. not (has x (w - 1 - e) ⊕ has y (w - 1 - e))) w
same_rows w x y small small' =
    same_test (eqb x y) (below alike w)
    (λ h.
    below_of alike w
    (λ e l.
    let same = ap (λ (z : ℕ). has z (w - 1 - e)) (eqb-true x y h) in
    rw (xor-eq (has x (w - 1 - e)) (has y (w - 1 - e)) same)))
    (λ h.
    eq-eqb x y
    (same_number w x y small small'
    (λ i l.
    let back : w - 1 - (w - 1 - i) ≡ i = omega arith in
    let at = rw back at (below_at alike w h (w - 1 - i) (omega arith)) in
    xor-no (has x i) (has y i) (not-true _ at))))
  where
    alike : ℕ → Bool
    alike e = not (has x (w - 1 - e) ⊕ has y (w - 1 - e))

-- row k is not both marked by the mask and set in x
abbrev pub clear : ℕ → ℕ → ℕ → ℕ → Bool
clear w x mask k = eqb (row_of w mask k) 0 || eqb (row_of w x k) 0

module _ (w x y : ℕ) (fits : x < 2 ^ w) where
  abbrev row : ℕ → ℕ
  row e = w - 1 - e

  less : bit_and x y < 2 ^ w
  less = omega (arith, and_le_l x y)

  pub subset-rows : eqb (bit_and x y) x ≡ below (λ e. not (has x (row e)) || has y (row e)) w
  subset-rows =
      same_rows w (bit_and x y) x less fits
      ∙ below-ext _ _ w (λ e l. rw (has-and x y (row e)) (go (has x (row e)) (has y (row e))))
    where
      go : (p q : Bool) → not ((p && q) ⊕ p) ≡ (not p || q)
      go true true = refl
      go true false = refl
      go false q = refl

  pub disjoint-rows : eqb (bit_and x y) 0 ≡ below (λ e. not (has y (row e)) || not (has x (row e))) w
  disjoint-rows =
      same_rows w (bit_and x y) 0 less (pow_pos w)
      ∙ below-ext _ _ w
      (λ e l. rw (has-and x y (row e), has-of-0 (row e)) (go (has x (row e)) (has y (row e))))
    where
      go : (p q : Bool) → not ((p && q) ⊕ false) ≡ (not q || not p)
      go true true = refl
      go true false = refl
      go false true = refl
      go false false = refl

  pub masked : eqb (bit_and x y) 0 ≡ below (clear w x y) w
  masked =
      disjoint-rows
      ∙ below-ext _ _ w (λ e l. ap₂ ◌||◌ (sym (zero_bit y (row e))) (sym (zero_bit x (row e))))
