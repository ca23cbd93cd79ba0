-- The places of the search, in byte order of the wirings that stand there, and what it knows at a
-- place: no wiring that was passed fits. Assumes nothing.
use mathlib.Core.Path.{◌≡◌, ap, ◌∙◌}
use mathlib.Core.Bool.{Bool, true, false}
use mathlib.Core.List.{List}
use Prim.Native.Nat.{ℕ, ◌+◌, ◌*◌, ◌<◌, ◌≤◌}
use native.Mathlib.Omega.{arith}
use lib.Dec.{eqb, ltb}
use lib.ListN.{get_or}
use borrow.Author.Tests.{eqb-true, eqb-false, ltb-true, ltb-false, lt-ltb}
use Rattle.bits.specs.Bits.{has}
use Rattle.bits.proofs.SearchLaws.{byBool, clash}
use Rattle.block.specs.Tidy.{field_fits}
use Rattle.wiring.specs.Fits.{Fits, depends_on}
use Rattle.matcher.specs.Search.{direct_of, directs}
use Rattle.wiring.proofs.FitsLaws.{fits-exchanged, fits-within}

-- the place of set i for F, set j for G and choice k of the direct pin
abbrev pub place : (i j k : ℕ) → ℕ
place i j k = i * 4096 + j * 16 + k

-- the wiring at a place fits the table
abbrev pub FitsAt : (n : ℕ) (t sets : List ℕ) (i j k : ℕ) → Type 0
FitsAt n t sets i j k = Fits n t (has (get_or sets i 0)) (has (get_or sets j 0)) (direct_of n k)

-- no place before p has one
pub record NoneBefore (n : ℕ) (t sets : List ℕ) (many p : ℕ) : Type 0 where
  pub none : (i j k : ℕ) → i < many → j < many → k < directs n → place i j k < p
      → FitsAt n t sets i j k → ⊥

pub directs-most : (n : ℕ) → n ≤ 9 → directs n ≤ 9
directs-most n within =
    byBool (eqb n 0) (λ e. rw e (omega arith)) (λ e. rw e within)

pub directs-some : (n : ℕ) → 0 < directs n
directs-some n =
    byBool (eqb n 0) (λ e. rw e (omega arith))
    (λ e. let some = eqb-false n 0 e in rw e (omega arith))

pub direct-fits : (n k : ℕ) → k < directs n → field_fits n (direct_of n k) ≡ true
direct-fits n k l =
    byBool (eqb n 0) (λ e. rw (e, eqb-true n 0 e)) (λ e. rw (e, lt-ltb k n (rw e at l)))

module _ (n : ℕ) (t sets : List ℕ) (many : ℕ) (within : n ≤ 9) (most : many ≤ 256) where
  abbrev Passed : ℕ → Type 0
  Passed p = NoneBefore n t sets many p

  pub none-start : Passed 0
  none-start = record { none = λ i j k li lj lk before fits. omega arith }

  -- from one place to a later one, between which none fits
  none_more : (p q : ℕ) → Passed p
      → ((i j k : ℕ) → i < many → j < many → k < directs n → p ≤ place i j k → place i j k < q
      → FitsAt n t sets i j k → ⊥)
      → Passed q
  none_more p q passed between =
      record {
        none =
            λ i j k li lj lk before fits.
            byBool (ltb (place i j k) p)
            (λ e. passed.none i j k li lj lk (ltb-true (place i j k) p e) fits)
            (λ e. between i j k li lj lk (ltb-false (place i j k) p e) before fits);
      }

  -- one more place, at which the wiring does not fit
  pub none-next : (i j k : ℕ) → j < many → k < directs n → Passed (place i j k)
      → (FitsAt n t sets i j k → ⊥) → Passed (place i j (k + 1))
  none-next i j k lj lk passed never =
      none_more (place i j k) (place i j (k + 1)) passed
      (λ i' j' k' li' lj' lk' after before fits.
      let few = directs-most n within in
      let same-i : i' ≡ i = omega arith in
      let same-j : j' ≡ j = omega arith in
      let same-k : k' ≡ k = omega arith in
      never (rw (same-i, same-j, same-k) at fits))

  -- all choices of the direct pin are passed: the next set for G
  pub none-pair : (i j k : ℕ) → j < many → directs n ≤ k → Passed (place i j k) → Passed (place i (j + 1) 0)
  none-pair i j k lj lk passed =
      none_more (place i j k) (place i (j + 1) 0) passed
      (λ i' j' k' li' lj' lk' after before fits. let few = directs-most n within in omega arith)

  -- none of the choices fits
  pub none-choices : (i j : ℕ) → j < many → Passed (place i j 0)
      → ((k : ℕ) → k < directs n → FitsAt n t sets i j k → ⊥) → Passed (place i (j + 1) 0)
  none-choices i j lj passed never =
      none_more (place i j 0) (place i (j + 1) 0) passed
      (λ i' j' k' li' lj' lk' after before fits.
      let few = directs-most n within in
      let same-i : i' ≡ i = omega arith in
      let same-j : j' ≡ j = omega arith in
      never k' lk' (rw (same-i, same-j) at fits))

  -- all sets for G are passed: the next set for F
  pub none-set : (i j : ℕ) → many ≤ j → Passed (place i j 0) → Passed (place (i + 1) 0 0)
  none-set i j lj passed =
      none_more (place i j 0) (place (i + 1) 0 0) passed
      (λ i' j' k' li' lj' lk' after before fits. let few = directs-most n within in omega arith)

  -- exchange: with F's set after G's, the wiring fits where the two are exchanged, which is earlier
  pub none-exchanged : (i : ℕ) → i < many → Passed (place i 0 0) → Passed (place i i 0)
  none-exchanged i li passed =
      none_more (place i 0 0) (place i i 0) passed
      (λ i' j' k' li' lj' lk' after before fits.
      let few = directs-most n within in
      let same-i : i' ≡ i = omega arith in
      let less : j' < i = omega arith in
      passed.none j' i' k' lj' li' lk' (omega arith)
      (fits-exchanged n t (has (get_or sets i' 0)) (has (get_or sets j' 0)) (direct_of n k') fits))

  -- a direct pin on which the function does not depend does no more than the first choice
  pub never-untried : (i j k : ℕ) → i < many → j < many → k < directs n → Passed (place i j k)
      → (k ≡ 0 → ⊥) → depends_on n t k ≡ false → FitsAt n t sets i j k → ⊥
  never-untried i j k li lj lk passed other free fits =
      passed.none i j 0 li lj (directs-some n) (omega arith)
      (fits-within n t f g (direct_of n k) fits f g (direct_of n 0) (direct-fits n k lk) (λ v l e h. h)
      (λ v l e h. h) alone)
    where
      f : ℕ → Bool
      f = has (get_or sets i 0)

      g : ℕ → Bool
      g = has (get_or sets j 0)

      alone : (v : ℕ) → v < n → depends_on n t v ≡ true → v ≡ direct_of n k → v ≡ direct_of n 0
      alone v l e same =
          byBool (eqb n 0) (λ z. absurd (omega (arith, eqb-true n 0 z)))
          (λ z. let k-is : v ≡ k = rw z at same in clash e (ap (depends_on n t) k-is ∙ free))
