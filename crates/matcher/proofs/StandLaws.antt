-- Where the search stands: nothing is found, and no wiring that it passed fits. Each step keeps this,
-- and at its end it decides. Assumes nothing.
use Rattle.std.specs.Prelude.{None, Option, Some}
use mathlib.Core.Path.{◌≡◌, refl, sym, ◌∙◌}
use mathlib.Core.Bool.{true, false, ◌||◌}
use mathlib.Core.List.{List}
use Prim.Native.Nat.{ℕ, ◌+◌, ◌<◌, ◌≤◌}
use native.Mathlib.Omega.{arith}
use lib.Dec.{eqb}
use lib.ListN.{length, get_or}
use borrow.Author.Tests.{eqb-false}
use Rattle.bits.specs.Bits.{has}
use Rattle.bits.proofs.TestLaws.{either-false}
use Rattle.bits.proofs.SearchLaws.{byBool}
use Rattle.wiring.specs.Fits.{depends_on}
use Rattle.filter.specs.Support.{support_of}
use Rattle.filter.specs.Choices.{Listed, useful_of}
use Rattle.filter.specs.Words.{words_of}
use Rattle.filter.proofs.SupportLaws.{support-has}
use Rattle.filter.proofs.ListedLaws.{listed}
use Rattle.contents.specs.Contents.{is_choice, is_wiring, IsLeast}
use Rattle.contents.proofs.ChoiceLaws.{is-choice, wiring-of}
use Rattle.matcher.specs.declared.Place.{Place}
use Rattle.matcher.specs.Search.{direct_of, directs, Uncovered, Weighable, FirstPlace, Searched}
use Rattle.matcher.proofs.PlaceLaws.{place, NoneBefore, direct-fits}
use Rattle.matcher.proofs.PlaceLaws.{none-start, none-next, none-pair, none-choices, none-set}
use Rattle.matcher.proofs.PlaceLaws.{none-exchanged, never-untried}
use Rattle.matcher.proofs.WeighLaws.{never-fits, never-covered}
use Rattle.matcher.proofs.WiringLaws.{first-wiring, no-wiring}

pub record Standing (n : ℕ) (t : List ℕ) (within : ℕ) (sets : List ℕ) (many pins : ℕ) (found : Option Place)
    (p : ℕ) : Type 0 where
  pub inputs : n ≤ 9
  pub support : within ≡ support_of n t
  pub choices : Listed n within sets many
  pub pins-are : pins ≡ directs n
  pub nothing : found ≡ None
  pub passed : NoneBefore n t sets many p

pub stand-start : (n : ℕ) (t : List ℕ) (within : ℕ) (sets : List ℕ) (many pins : ℕ) → n ≤ 9
    → within ≡ support_of n t → sets ≡ useful_of n within → many ≡ length (useful_of n within)
    → pins ≡ directs n → Standing n t within sets many pins None (place 0 0 0)
stand-start n t within sets many pins inputs support same-sets same-many pins-are =
    let choices : Listed n within sets many = rw (same-sets, same-many) (listed n within inputs) in
    record {
      inputs = inputs;
      support = support;
      choices = choices;
      pins-are = pins-are;
      nothing = refl;
      passed = none-start n t sets many inputs choices.most;
    }

module _ (n : ℕ) (t : List ℕ) (within : ℕ) (sets : List ℕ) (many pins : ℕ) (found : Option Place) where
  abbrev Stands : ℕ → Type 0
  Stands p = Standing n t within sets many pins found p

  moved : (p q : ℕ) → Stands p → NoneBefore n t sets many q → Stands q
  moved p q s passed =
      record {
        inputs = s.inputs;
        support = s.support;
        choices = s.choices;
        pins-are = s.pins-are;
        nothing = s.nothing;
        passed = passed;
      }

  module _ (i j k p : ℕ) (s : Stands p) (li : i < many) (lj : j < many) (lk : k < pins) where
    few : k < directs n
    few = rw (← s.pins-are) lk

    choice-at : (m : ℕ) → m < many → is_choice n (get_or sets m 0) ≡ true
    choice-at m l = is-choice n (get_or sets m 0) (s.choices.below-n m l) (s.choices.small m l).four

    pub wiring-at : is_wiring n (get_or sets i 0) (get_or sets j 0) (direct_of n k) ≡ true
    wiring-at =
        wiring-of n (get_or sets i 0) (get_or sets j 0) (direct_of n k)
        (record {
          within = s.inputs;
          f-choice = choice-at i li;
          g-choice = choice-at j lj;
          direct = direct-fits n k few;
        })

    pub weighable : (words : List ℕ) → words ≡ words_of t within (get_or sets i 0)
        → Weighable n t within words (get_or sets i 0) (get_or sets j 0) k
    weighable words of-f =
        record {
          inputs = s.inputs;
          choice = few;
          wiring = wiring-at;
          support = s.support;
          of-f = of-f;
        }

  -- a choice of the direct pin that an earlier one serves for
  pub stand-untried : (i j k : ℕ) → i < many → j < many → k < pins → Stands (place i j k)
      → (eqb k 0 || has within k) ≡ false → Stands (place i j (k + 1))
  stand-untried i j k li lj lk s untried =
      let both = either-false (eqb k 0) (has within k) untried in
      let other = eqb-false k 0 both.0 in
      let few = few i j k (place i j k) s li lj lk in
      let below : k < n =
      byBool (eqb n 0) (λ z. absurd (let one = rw z at few in omega arith)) (λ z. rw z at few) in
      let free : depends_on n t k ≡ false =
      sym (support-has n t s.inputs k below) ∙ rw (← s.support) both.1 in
      moved (place i j k) (place i j (k + 1)) s
      (none-next n t sets many s.inputs s.choices.most i j k lj few s.passed
      (never-untried n t sets many s.inputs s.choices.most i j k li lj few s.passed other free))

  -- a wiring without contents
  pub stand-next : (i j k : ℕ) → i < many → j < many → k < pins → Stands (place i j k)
      → IsLeast n t (get_or sets i 0) (get_or sets j 0) (direct_of n k) None
      → Stands (place i j (k + 1))
  stand-next i j k li lj lk s none =
      let few = few i j k (place i j k) s li lj lk in
      moved (place i j k) (place i j (k + 1)) s
      (none-next n t sets many s.inputs s.choices.most i j k lj few s.passed
      (never-fits n t (get_or sets i 0) (get_or sets j 0) (direct_of n k)
      (wiring-at i j k (place i j k) s li lj lk) none))

  pub stand-pair : (i j k : ℕ) → j < many → pins ≤ k → Stands (place i j k) → Stands (place i (j + 1) 0)
  stand-pair i j k lj lk s =
      moved (place i j k) (place i (j + 1) 0) s
      (none-pair n t sets many s.inputs s.choices.most i j k lj (rw (← s.pins-are) lk) s.passed)

  -- two sets that no choice of the direct pin completes
  pub stand-hopeless : (i j : ℕ) → j < many → Stands (place i j 0)
      → Uncovered within (get_or sets i 0) (get_or sets j 0) → Stands (place i (j + 1) 0)
  stand-hopeless i j lj s missing =
      moved (place i j 0) (place i (j + 1) 0) s
      (none-choices n t sets many s.inputs s.choices.most i j lj s.passed
      (λ k l.
      never-covered n t s.inputs (get_or sets i 0) (get_or sets j 0) k l (rw s.support at missing)))

  pub stand-set : (i j : ℕ) → many ≤ j → Stands (place i j 0) → Stands (place (i + 1) 0 0)
  stand-set i j l s =
      moved (place i j 0) (place (i + 1) 0 0) s
      (none-set n t sets many s.inputs s.choices.most i j l s.passed)

  -- G's set begins at F's
  pub stand-exchanged : (i : ℕ) → i < many → Stands (place i 0 0) → Stands (place i i 0)
  stand-exchanged i l s =
      moved (place i 0 0) (place i i 0) s
      (none-exchanged n t sets many s.inputs s.choices.most i l s.passed)

  pub stand-found : (i j k x : ℕ) → i < many → j < many → k < pins → Stands (place i j k)
      → IsLeast n t (get_or sets i 0) (get_or sets j 0) (direct_of n k) (Some x)
      → (q : Place) → q.f ≡ get_or sets i 0 → q.g ≡ get_or sets j 0 → q.direct ≡ direct_of n k → q.contents ≡ x
      → FirstPlace n t q
  stand-found i j k x li lj lk s found q f g d c =
      let few = few i j k (place i j k) s li lj lk in
      record {
        wiring = rw (f, g, d) (wiring-at i j k (place i j k) s li lj lk);
        full = rw c (found.small x refl);
        least = rw (f, g, d, c) found.least;
        first =
            rw (f, g, d)
            (first-wiring n t s.inputs within sets many
            (λ v m. rw s.support (support-has n t s.inputs v m)) s.choices i j k lj few s.passed);
      }

  pub stand-none : (i : ℕ) → many ≤ i → i ≤ many → Stands (place i 0 0) → Searched n t found
  stand-none i above below s =
      let same : i ≡ many = omega arith in
      rw s.nothing
      (no-wiring n t s.inputs within sets many
      (λ v m. rw s.support (support-has n t s.inputs v m)) s.choices (rw same at s.passed))
