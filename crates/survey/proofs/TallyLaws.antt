-- What the test of two sets says of each direct pin: the three tallies are counts of the numbers
-- below n, and digit and variables of the wiring go by them. Assumes nothing.
use mathlib.Core.Path.{◌≡◌, refl, sym, ◌∙◌}
use mathlib.Core.Bool.{Bool, true, false, not, ◌&&◌, ◌||◌, beq, and_assoc, or_assoc}
use mathlib.Core.List.{List, ◌∷◌}
use Prim.Native.Nat.{ℕ, zero, suc, ◌+◌, ◌-◌, ◌<◌, ◌≤◌}
use native.Mathlib.Nat.{add_assoc, add-zero, zero-add}
use native.Mathlib.Numerals.{add-one}
use native.Mathlib.Omega.{arith}
use lib.Dec.{eqb}
use borrow.Author.Tests.{ne_eqb}
use Rattle.bits.specs.Tests.{pick, count}
use Rattle.block.specs.declared.Letter.{Letter}
use Rattle.block.specs.declared.Letter.TheVariants.{A, B, C}
use Rattle.block.specs.Kind.{letter_by}
use Rattle.bits.proofs.TestLaws.{both_left, both_right}
use Rattle.survey.specs.Survey.{Within}
use Rattle.survey.proofs.CountLaws.{count_same, count-positive, times, times-past, times-once}
use Rattle.survey.proofs.CountLaws.{count-without, count-with}
use Rattle.survey.proofs.RowLaws.{within, within→Within}
use Rattle.survey.proofs.WiringTest.{marks, direct_within, tallied}

-- by whether each of two sets has a variable: just one has it, neither has it
abbrev just_one : Bool → Bool → Bool
just_one a b = not (beq a b)

abbrev neither_of : Bool → Bool → Bool
neither_of a b = not (a || b)

-- what one variable adds to the tallies
tallied-step : (a b : Bool) (s t : List Bool) (both one neither : ℕ)
    → tallied (a ∷ s) (b ∷ t) both one neither
    ≡ tallied s t (both + pick (a && b) 1 0) (one + pick (just_one a b) 1 0)
    (neither + pick (neither_of a b) 1 0)
tallied-step true true s t both one neither = simp (add-zero, add-one)
tallied-step true false s t both one neither = simp (add-zero, add-one)
tallied-step false true s t both one neither = simp (add-zero, add-one)
tallied-step false false s t both one neither = simp (add-zero, add-one)

-- either is both or just one
both-or-one : (a b : Bool) → pick (a && b) 1 0 + pick (just_one a b) 1 0 ≡ pick (a || b) 1 0
both-or-one true true = refl
both-or-one true false = refl
both-or-one false true = refl
both-or-one false false = refl

-- two tests, as f and g say what F and G carry
module _ (f g : ℕ → Bool) where
  abbrev in_both : ℕ → ℕ
  in_both n = count (λ v. f v && g v) n

  abbrev in_one : ℕ → ℕ
  in_one n = count (λ v. just_one (f v) (g v)) n

  abbrev in_neither : ℕ → ℕ
  in_neither n = count (λ v. neither_of (f v) (g v)) n

  tallied-marks : (n both one neither : ℕ)
      → tallied (marks f n) (marks g n) both one neither
      ≡ direct_within (both + in_both n) (one + in_one n) (neither + in_neither n)
  tallied-marks zero both one neither = rw (add-zero both, add-zero one, add-zero neither)
  tallied-marks (suc n) both one neither =
      tallied-step (f n) (g n) (marks f n) (marks g n) both one neither
      ∙ (tallied-marks n _ _ _ ∙ simp add_assoc)

  both-and-one : (n : ℕ) → in_both n + in_one n ≡ count (λ v. f v || g v) n
  both-and-one zero = refl
  both-and-one (suc n) = omega (arith, both-or-one (f n) (g n), both-and-one n)

-- what the test says of a direct pin that is open, or on a variable of neither set, of one, of both
record Direct (both one neither : ℕ) : Type 0 where
  opened : Within A both (both + one)
  on-neither : 1 ≤ neither → Within A both (both + one + 1)
  on_one : 1 ≤ one → Within B both (both + one)
  on_both : 1 ≤ both → Within C (both - 1) (both + one)

-- what is asked of a tally holds where the tally is not empty
asked : (k : ℕ) (a : Bool) → eqb k 0 || a ≡ true → 1 ≤ k → a ≡ true
asked k a h some = rw (ne_eqb k 0 (λ e. omega arith)) at h

direct : (both one neither : ℕ) → direct_within both one neither ≡ true → Direct both one neither
direct both one neither h =
    let all = both + one in
    let carried = both_right (within A both all) _ h in
    let shared = both_right (eqb neither 0 || within A both (all + 1)) _ carried in
    let last = both_right (eqb one 0 || within B both all) _ shared in
    record {
      opened = within→Within A _ _ (both_left _ _ h);
      on-neither = λ some. within→Within A _ _ (asked neither _ (both_left _ _ carried) some);
      on_one = λ some. within→Within B _ _ (asked one _ (both_left _ _ shared) some);
      on_both = λ some. within→Within C _ _ (asked both _ last some);
    }

-- the tallies from nothing are the counts
told : (f g : ℕ → Bool) (n : ℕ) → tallied (marks f n) (marks g n) 0 0 0 ≡ true
    → Direct (in_both f g n) (in_one f g n) (in_neither f g n)
told f g n h = direct _ _ _ (simp zero-add at (rw (tallied-marks f g n 0 0 0) at h))

-- and d is the direct pin
module _ (f g : ℕ → Bool) (d n : ℕ) where
  abbrev digit : ℕ
  digit = count (λ v. f v && (g v && not (eqb v d))) n

  abbrev variables : ℕ
  variables = count (λ v. f v || (g v || eqb v d)) n

  digit-both : digit + pick (f d && g d) (times d n) 0 ≡ in_both f g n
  digit-both =
      let turned = count_same _ (λ v. (f v && g v) && not (eqb v d)) (λ v. sym (and_assoc (f v) (g v) _)) n in
      rw turned (count-without (λ v. f v && g v) d n)

  variables-either : variables + pick (f d || g d) (times d n) 0 ≡ in_both f g n + in_one f g n + times d n
  variables-either =
      let turned = count_same _ (λ v. (f v || g v) || eqb v d) (λ v. sym (or_assoc (f v) (g v) _)) n in
      rw (both-and-one f g n, turned) (count-with (λ v. f v || g v) d n)

  as-told : (l : Letter) (x all : ℕ) → Within l x all → digit ≡ x → variables ≡ all
      → Within l digit variables
  as-told l x all told same-digit same-variables = rw (same-digit, same-variables) told

  module _ (h : tallied (marks f n) (marks g n) 0 0 0 ≡ true) where
    by-letter : (a b : Bool) → f d ≡ a → g d ≡ b → d < n
        → digit + pick (a && b) 1 0 ≡ in_both f g n
        → variables + pick (a || b) 1 0 ≡ in_both f g n + in_one f g n + 1
        → Within (letter_by a b) digit variables
    by-letter false false in_f in_g l x all =
        let some = count-positive (λ v. neither_of (f v) (g v)) d n (rw (in_f, in_g)) l in
        as-told A _ _ ((told f g n h).on-neither some) (omega arith) (omega arith)
    by-letter true false in_f in_g l x all =
        let some = count-positive (λ v. just_one (f v) (g v)) d n (rw (in_f, in_g)) l in
        as-told B _ _ ((told f g n h).on_one some) (omega arith) (omega arith)
    by-letter false true in_f in_g l x all =
        let some = count-positive (λ v. just_one (f v) (g v)) d n (rw (in_f, in_g)) l in
        as-told B _ _ ((told f g n h).on_one some) (omega arith) (omega arith)
    by-letter true true in_f in_g l x all =
        let some = count-positive (λ v. f v && g v) d n (rw (in_f, in_g)) l in
        as-told C _ _ ((told f g n h).on_both some) (omega arith) (omega arith)

    pub carried-within : d < n → Within (letter_by (f d) (g d)) digit variables
    carried-within l =
        let once = times-once d n l in
        by-letter (f d) (g d) refl refl l (rw once at digit-both) (rw once at variables-either)

    pub open-within : f d ≡ false → g d ≡ false → n ≤ d → Within (letter_by (f d) (g d)) digit variables
    open-within in_f in_g past =
        let x = rw in_f at digit-both in
        let all = rw (in_f, in_g, times-past d n past) at variables-either in
        rw (in_f, in_g) (as-told A _ _ (told f g n h).opened (omega (arith, x)) (omega (arith, all)))
