-- Rows in one number under the code's operations, and the rows at which a variable is 1. Assumes
-- nothing.
use mathlib.Core.Path.{◌≡◌, refl, sym, ap, ap₂, ◌∙◌}
use mathlib.Core.Bool.{Bool, true, false, not, ◌&&◌, ◌||◌, and-true, and-false, or-false}
use mathlib.Core.List.{List, [], ◌∷◌}
use Prim.Native.Nat.{ℕ, zero, suc, ◌+◌, ◌-◌, ◌*◌, ◌^◌, ◌<◌}
use native.Mathlib.Omega.{arith}
use lib.Bits.{bit_and, bit_or, and_lt, or_lt}
use lib.Dec.{eqb}
use lib.ListN.{get_or}
use lib.Pow.{pow_pos}
use borrow.Author.Tests.{eqb-true}
use Rattle.bits.specs.Bits.{has, num, of_rows}
use Rattle.bits.specs.Tests.{below, pick}
use Rattle.bits.proofs.TestLaws.{below_at}
use Rattle.bits.proofs.BitLaws.{num-has, has-and, has-or, same_number}
use Rattle.bits.proofs.RowLaws.{of_rows-lt, of_rows-ext, is_row-of_rows}
use Rattle.block.specs.Table.{variable_at}
use Rattle.marks.specs.Marks.{either, digit_of, agrees}

-- an operation on numbers that does `test` to every bit does it to every row
module _ (by : ℕ → ℕ → ℕ) (test : Bool → Bool → Bool)
    (fits : (k a b : ℕ) → a < 2 ^ k → b < 2 ^ k → by a b < 2 ^ k)
    (has-by : (a b i : ℕ) → has (by a b) i ≡ test (has a i) (has b i))
    (w : ℕ) (f g : ℕ → Bool) where
  of_rows-by : by (of_rows w f) (of_rows w g) ≡ of_rows w (λ e. test (f e) (g e))
  of_rows-by =
      let made : ℕ → Bool = λ e. test (f e) (g e) in
      same_number w (by (of_rows w f) (of_rows w g)) (of_rows w made)
      (fits w (of_rows w f) (of_rows w g) (of_rows-lt w f) (of_rows-lt w g)) (of_rows-lt w made)
      (λ i l.
      let e = w - 1 - i in
      let back : w - 1 - e ≡ i = omega arith in
      let row : (h : ℕ → Bool) → has (of_rows w h) i ≡ h e =
      λ h. rw back at (is_row-of_rows w h e (omega arith)) in
      has-by (of_rows w f) (of_rows w g) i ∙ ap₂ test (row f) (row g) ∙ sym (row made))

pub of_rows-and : (w : ℕ) (f g : ℕ → Bool)
    → bit_and (of_rows w f) (of_rows w g) ≡ of_rows w (λ e. f e && g e)
of_rows-and w f g = of_rows-by bit_and ◌&&◌ and_lt has-and w f g

pub of_rows-or : (w : ℕ) (f g : ℕ → Bool)
    → bit_or (of_rows w f) (of_rows w g) ≡ of_rows w (λ e. f e || g e)
of_rows-or w f g = of_rows-by bit_or ◌||◌ or_lt has-or w f g

-- each row is in a number or in its complement
both-rows : (w : ℕ) (g : ℕ → Bool) → of_rows w g + of_rows w (λ e. not (g e)) ≡ 2 ^ w - 1
unfolding of_rows
both-rows zero g = refl
both-rows (suc w) g =
    let rest = both-rows w (λ e. g (suc e)) in
    let some = pow_pos w in
    let one : num (g 0) * 2 ^ w + num (not (g 0)) * 2 ^ w ≡ 2 ^ w = go (g 0) in
    omega arith
  where
    go : (b : Bool) → num b * 2 ^ w + num (not b) * 2 ^ w ≡ 2 ^ w
    go true = omega arith
    go false = omega arith

pub of_rows-not : (w : ℕ) (g : ℕ → Bool) → 2 ^ w - 1 - of_rows w g ≡ of_rows w (λ e. not (g e))
of_rows-not w g = let both = both-rows w g in omega arith

pub of_rows-none : (w : ℕ) → of_rows w (λ e. false) ≡ 0
unfolding of_rows
of_rows-none zero = refl
of_rows-none (suc w) = rw (of_rows-none w) (omega arith)

pub of_rows-all : (w : ℕ) → of_rows w (λ e. true) ≡ 2 ^ w - 1
of_rows-all w = let both = both-rows w (λ e. true) in let none = of_rows-none w in omega arith

pub of_rows-pick : (w : ℕ) (b : Bool) (g : ℕ → Bool)
    → pick b (of_rows w g) 0 ≡ of_rows w (λ e. b && g e)
of_rows-pick w true g = refl
of_rows-pick w false g = sym (of_rows-none w)

-- the rows of 64 at which variable i is 1
abbrev pub ones_of : (i : ℕ) → ℕ
ones_of i = of_rows 64 (λ e. has e i)

-- the code's table of them, tested whole
unfoldable pub ones : List ℕ
ones =
    6148914691236517205 ∷ 3689348814741910323 ∷ 1085102592571150095 ∷ 71777214294589695
    ∷ 281470681808895 ∷ 4294967295 ∷ []

abbrev is_ones : (i : ℕ) → Bool
is_ones i = eqb (get_or ones i 0) (ones_of i)

ones-computed : below is_ones 6 ≡ true
unfolding ones has of_rows
ones-computed = refl

pub ones-at : (i : ℕ) → i < 6 → get_or ones i 0 ≡ ones_of i
ones-at i l = eqb-true (get_or ones i 0) (ones_of i) (below_at is_ones 6 ones-computed i l)

-- a mark agrees with 1 by p, and with 0 by q
by_value : (p q v : Bool) → (p && v) || (q && not v) ≡ pick v p q
by_value p q true = simp (and-true, and-false, or-false)
by_value p q false = simp (and-true, and-false)

module _ (mark : ℕ) where
  abbrev with-1 : Bool
  with-1 = eqb mark either || eqb mark (digit_of 1)

  abbrev with-0 : Bool
  with-0 = eqb mark either || eqb mark (digit_of 0)

  agreement : (v : Bool) → pick v with-1 with-0 ≡ agrees mark (num v)
  agreement true = refl
  agreement false = refl

  pub mask-rows : (i : ℕ)
      → bit_or (pick with-1 (ones_of i) 0) (pick with-0 (2 ^ 64 - 1 - ones_of i) 0)
      ≡ of_rows 64 (λ e. agrees mark (variable_at e i))
  mask-rows i =
      let one : ℕ → Bool = λ e. has e i in
      ap₂ bit_or (of_rows-pick 64 with-1 one)
      (ap (λ (x : ℕ). pick with-0 x 0) (of_rows-not 64 one) ∙ of_rows-pick 64 with-0 (λ e. not (one e)))
      ∙ of_rows-or 64 (λ e. with-1 && one e) (λ e. with-0 && not (one e))
      ∙ of_rows-ext 64 _ _
      (λ e l. by_value with-1 with-0 (one e) ∙ agreement (one e) ∙ ap (agrees mark) (num-has e i))
