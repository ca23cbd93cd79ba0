-- The wirings that the search looks at decide all of them: each that fits has one no later that fits
-- and is looked at. Assumes nothing.
use mathlib.Core.Path.{◌≡◌, ◌∙◌}
use mathlib.Core.Bool.{true, ◌&&◌}
use mathlib.Core.List.{List}
use Prim.Native.Nat.{ℕ, ◌<◌, ◌≤◌}
use native.Mathlib.Omega.{arith}
use lib.Dec.{eqb, ltb}
use lib.ListN.{get_or}
use borrow.Author.Tests.{eqb-true, ltb-true, ltb-false, lt-ltb}
use Rattle.bits.specs.Bits.{has}
use Rattle.bits.proofs.TestLaws.{both_left, or_cases}
use Rattle.bits.proofs.SearchLaws.{byBool, clash}
use Rattle.block.specs.Block.{is_open}
use Rattle.block.specs.Tidy.{field_fits}
use Rattle.subsets.specs.Masks.{key_of}
use Rattle.rows.proofs.KeyLaws.{key_of-lt}
use Rattle.wiring.specs.Fits.{Fits, depends_on}
use Rattle.wiring.proofs.FitsLaws.{fits-within}
use Rattle.contents.specs.Contents.{is_choice, is_wiring}
use Rattle.contents.proofs.ChoiceLaws.{choice-lt, choice-small, pieces}
use Rattle.filter.specs.Choices.{Listed}
use Rattle.matcher.specs.Search.{direct_of, directs, wiring_number, FirstWiring, NoWiring}
use Rattle.matcher.proofs.PlaceLaws.{place, FitsAt, NoneBefore, directs-most, directs-some}

-- the choice of the direct pin that does what d does, and is no later
pub record Serving (n : ℕ) (t : List ℕ) (d : ℕ) : Type 0 where
  pub k : ℕ
  pub k_lt : k < directs n
  pub no-later : direct_of n k ≤ d
  pub serves : (v : ℕ) → v < n → depends_on n t v ≡ true → v ≡ d → v ≡ direct_of n k

serving : (n : ℕ) (t : List ℕ) (d : ℕ) → field_fits n d ≡ true → Serving n t d
serving n t d fit =
    byBool (eqb n 0)
    (λ z.
    let none : n ≡ 0 = eqb-true n 0 z in
    let opened : d ≡ 15 =
    or_cases (ltb d n) (is_open d) (d ≡ 15) fit (λ e. absurd (omega (arith, ltb-true d n e))) (eqb-true d 15) in
    record {
      k = 0;
      k_lt = directs-some n;
      no-later = rw z (omega arith);
      serves = λ v l e same. absurd (omega arith);
    })
    (λ z.
    byBool (ltb d n && depends_on n t d)
    (λ e.
    record {
      k = d;
      k_lt = rw z (ltb-true d n (both_left (ltb d n) (depends_on n t d) e));
      no-later = rw z (omega arith);
      serves = λ v l on same. rw z same;
    })
    (λ e.
    record {
      k = 0;
      k_lt = directs-some n;
      no-later = rw z (omega arith);
      serves = λ v l on same.
          clash (rw (lt-ltb v n l) on) (rw (← same) at e);
    }))

-- a place of the search that fits, no later than the wiring
pub record Earlier (n : ℕ) (t sets : List ℕ) (many p q d : ℕ) : Type 0 where
  pub i : ℕ
  pub j : ℕ
  pub k : ℕ
  pub i_lt : i < many
  pub j-lt : j < many
  pub k_lt : k < directs n
  pub fits : FitsAt n t sets i j k
  pub no-later : wiring_number (get_or sets i 0) (get_or sets j 0) (direct_of n k) ≤ wiring_number p q d

module _ (n : ℕ) (t : List ℕ) (within : n ≤ 9) (support : ℕ) (sets : List ℕ) (many : ℕ)
    (inside : (v : ℕ) → v < n → has support v ≡ depends_on n t v) (listed : Listed n support sets many) where
  pub earlier : (p q d : ℕ) → is_wiring n p q d ≡ true → Fits n t (has p) (has q) d
      → Earlier n t sets many p q d
  earlier p q d wiring fits =
      let told = pieces n p q d wiring in
      let f = found p told.f-choice in
      let g = found q told.g-choice in
      let e = serving n t d told.direct in
      record {
        i = f.0;
        j = g.0;
        k = e.k;
        i_lt = f.1;
        j-lt = g.1;
        k_lt = e.k_lt;
        fits =
            fits-within n t (has p) (has q) d fits (has (get_or sets f.0 0)) (has (get_or sets g.0 0))
            (direct_of n e.k) told.direct (λ v l on h. f.3 v h (inside v l ∙ on))
            (λ v l on h. g.3 v h (inside v l ∙ on)) e.serves;
        no-later = omega (arith, f.2, g.2, e.no-later);
      }
    where
      found : (m : ℕ) → is_choice n m ≡ true
          → (k : ℕ) × (k < many) × (key_of (get_or sets k 0) ≤ key_of m)
          × ((v : ℕ) → has m v ≡ true → has support v ≡ true → has (get_or sets k 0) v ≡ true)
      found m choice =
          listed.complete m (choice-small n m within choice) (choice-lt n m within choice)

  direct-rising : (k k' : ℕ) → k ≤ k' → direct_of n k ≤ direct_of n k'
  direct-rising k k' l = byBool (eqb n 0) (λ z. rw z (omega arith)) (λ z. rw z l)

  direct-lt : (k : ℕ) → k < directs n → direct_of n k < 16
  direct-lt k l =
      byBool (eqb n 0) (λ z. rw z (omega arith)) (λ z. let less : k < n = rw z at l in rw z (omega arith))

  -- later places have later wirings
  place-order : (i j k i' j' k' : ℕ) → i' < many → j' < many → j < many → k < directs n → k' < directs n
      → place i j k ≤ place i' j' k'
      → wiring_number (get_or sets i 0) (get_or sets j 0) (direct_of n k)
      ≤ wiring_number (get_or sets i' 0) (get_or sets j' 0) (direct_of n k')
  place-order i j k i' j' k' li' lj' lj lk lk' l =
      let few = directs-most n within in
      let most = listed.most in
      let dk = direct-lt k lk in
      let dk' = direct-lt k' lk' in
      let kj = key_of-lt (get_or sets j 0) in
      let kj' = key_of-lt (get_or sets j' 0) in
      byBool (ltb i i')
      (λ e. let above = listed.rises i i' (ltb-true i i' e) li' in omega arith)
      (λ e.
      let same-i : i ≡ i' = omega (arith, ltb-false i i' e) in
      byBool (ltb j j')
      (λ h.
      let above = listed.rises j j' (ltb-true j j' h) lj' in rw same-i (omega arith))
      (λ h.
      let same-j : j ≡ j' = omega (arith, ltb-false j j' h) in
      let less : k ≤ k' = omega arith in
      let order = direct-rising k k' less in rw (same-i, same-j) (omega arith)))

  -- what stands at a place before which none fits comes first
  pub first-wiring : (i j k : ℕ) → j < many → k < directs n → NoneBefore n t sets many (place i j k)
      → FirstWiring n t (get_or sets i 0) (get_or sets j 0) (direct_of n k)
  first-wiring i j k lj lk passed p q d wiring fits =
      let e = earlier p q d wiring fits in
      byBool (ltb (place e.i e.j e.k) (place i j k))
      (λ h.
      absurd
      (passed.none e.i e.j e.k e.i_lt e.j-lt e.k_lt
      (ltb-true (place e.i e.j e.k) (place i j k) h) e.fits))
      (λ h.
      let order =
      place-order i j k e.i e.j e.k e.i_lt e.j-lt lj lk e.k_lt
      (ltb-false (place e.i e.j e.k) (place i j k) h) in
      omega (arith, e.no-later))

  pub no-wiring : NoneBefore n t sets many (place many 0 0) → NoWiring n t
  no-wiring passed p q d wiring fits =
      let e = earlier p q d wiring fits in
      let few = directs-most n within in
      let most = listed.most in
      passed.none e.i e.j e.k e.i_lt e.j-lt e.k_lt
      (omega (arith, e.i_lt, e.j-lt, e.k_lt)) e.fits
