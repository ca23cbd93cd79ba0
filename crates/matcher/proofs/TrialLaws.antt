-- The tests of one wiring before it is weighed: each that fails shows that the wiring does not fit.
-- Assumes nothing.
use Rattle.std.specs.Prelude.{None, Option}
use mathlib.Core.Path.{◌≡◌, sym, ◌∙◌}
use mathlib.Core.Bool.{Bool, true, false, not, or-true}
use mathlib.Core.List.{List}
use Prim.Native.Nat.{ℕ}
use lib.Dec.{eqb, ltb}
use lib.Bits.{bit_and, bit_or}
use borrow.Author.Tests.{eq-eqb, eqb-false, ltb-true, ltb-false, not-true}
use Rattle.bits.specs.Bits.{has, split}
use Rattle.bits.proofs.TestLaws.{both_left, both_right, either-false}
use Rattle.bits.proofs.SearchLaws.{byBool, clash}
use Rattle.bits.proofs.BitLaws.{has-or, has-high}
use Rattle.block.specs.Value.{selected}
use Rattle.subsets.specs.Masks.{key_of}
use Rattle.wiring.specs.Fits.{Fits}
use Rattle.wiring.proofs.OnlyLaws.{has-without, without-lt}
use Rattle.wiring.proofs.FitsLaws.{fits-exchanged}
use Rattle.rows.proofs.KeyLaws.{key-pins}
use Rattle.filter.specs.Support.{one_at_most}
use Rattle.filter.specs.Words.{words_of, rest_of}
use Rattle.filter.specs.Two.{two_of}
use Rattle.filter.proofs.FitLaws.{two_fits}
use Rattle.filter.proofs.OneLaws.{one-besides}
use Rattle.filter.proofs.SupportLaws.{support-lt}
use Rattle.contents.specs.Contents.{is_choice, IsLeast, Weighs}
use Rattle.contents.proofs.ChoiceLaws.{choice-lt, choice-small, Pieces, pieces}
use Rattle.matcher.specs.Search.{direct_of, direct_set, Weighable, Uncovered}
use Rattle.matcher.proofs.WeighLaws.{rejected, never-missed, other-has}

module _ (n : ℕ) (t : List ℕ) (within : ℕ) (words : List ℕ) (f g k : ℕ)
    (given : Weighable n t within words f g k) where
  abbrev d : ℕ
  d = direct_of n k

  abbrev tests : Pieces n f g d
  tests = pieces n f g d given.wiring

  abbrev none : Type 0
  none = IsLeast n t f g d None

  -- a variable is missed
  pub rejects-missed : (direct : ℕ) (covered : Bool) → direct ≡ direct_set n k
      → covered ≡ eqb (bit_and within (bit_or (bit_or f g) direct)) within → covered ≡ false → none
  rejects-missed direct covered of-d of-cover wrong =
      rejected n t f g d given.wiring
      (never-missed n t given.inputs f g k given.choice
      (rw (given.support, of-d) at
      (eqb-false (bit_and within (bit_or (bit_or f g) direct)) within (sym of-cover ∙ wrong))))

  -- three words of one set, whatever F and G
  three : (set other : ℕ) → is_choice n set ≡ true
      → two_of (words_of t within set) (selected (split 4 (key_of set)) (bit_or other (direct_set n k)))
      ≡ false
      → Fits n t (has set) (has other) d → ⊥
  three set other choice wrong fits =
      let m = bit_or other (direct_set n k) in
      let key = selected (split 4 (key_of set)) m in
      clash
      (two_fits n t within set (has other) d key given.inputs (choice-small n set given.inputs choice)
      (choice-lt n set given.inputs choice) tests.direct m
      (λ v l h. other-has n t given.inputs other k v l ∙ rw h)
      (λ v l h. other-has n t given.inputs other k v l ∙ rw (eq-eqb v d h) (simp or-true))
      (rw (key-pins set)) (rw given.support (support-lt n t given.inputs)) fits)
      wrong

  -- the test of F's words, and of G's, as the code puts it
  pub rejects-f : (direct key index : ℕ) (two : Bool) → direct ≡ direct_set n k → key ≡ key_of f
      → index ≡ selected (split 4 key) (bit_or g direct) → two ≡ two_of words index → two ≡ false → none
  rejects-f direct key index two of-d of-key of-index of_two wrong =
      rejected n t f g d given.wiring
      (three f g tests.f-choice
      (rw (← given.of-f, ← of-d, ← of-key, ← of-index, ← of_two) wrong))

  pub rejects-g : (direct key index : ℕ) (others : List ℕ) (two : Bool) → direct ≡ direct_set n k
      → others ≡ words_of t within g → key ≡ key_of g → index ≡ selected (split 4 key) (bit_or f direct)
      → two ≡ two_of others index → two ≡ false → none
  rejects-g direct key index others two of-d of-g of-key of-index of_two wrong =
      rejected n t f g d given.wiring
      (λ fits.
      three g f tests.g-choice (rw (← of-g, ← of-d, ← of-key, ← of-index, ← of_two) wrong)
      (fits-exchanged n t (has f) (has g) d fits))

  pub weighs : (r : Option ℕ) → Weighs n t f g d r → IsLeast n t f g d r
  weighs r told = told.weighed given.wiring

-- two variables of `within` are in neither set
pub uncovered : (within f g : ℕ) → one_at_most (rest_of within (bit_or f g)) ≡ false → Uncovered within f g
uncovered within f g wrong v =
    let rest = rest_of within (bit_or f g) in
    let other = one-besides rest v wrong in
    let u = other.0 in
    let in-f-or-g = has (bit_or f g) u in
    byBool (ltb u 9)
    (λ e.
    let on = sym (has-without 9 (has (bit_or f g)) within u (ltb-true u 9 e)) ∙ other.2 in
    let out = sym (has-or f g u) ∙ not-true in-f-or-g (both_left (not in-f-or-g) _ on) in
    let both = either-false (has f u) (has g u) out in
    (u, other.1, both_right (not in-f-or-g) _ on, both.0, both.1))
    (λ e. clash other.2 (has-high 9 rest u (without-lt 9 (has (bit_or f g)) within) (ltb-false u 9 e)))
