-- The order by the first number that differs is a strict order. Assumes nothing.
use mathlib.Core.Path.{◌≡◌, refl, ◌∙◌}
use mathlib.Core.Bool.{true, false, ◌&&◌, false≢true}
use mathlib.Core.List.{List, [], ◌∷◌}
use Prim.Native.Nat.{ℕ, ◌<◌, ◌≤◌}
use native.Mathlib.Omega.{arith}
use lib.Dec.{eqb, ltb}
use borrow.Author.Tests.{ltb-true, eqb-true, lt-ltb, le-ltb, eq-eqb}
use Rattle.bits.proofs.TestLaws.{both_left, both_right, or_cases}
use Rattle.codec.specs.Order.{before}

pub before-irreflexive : (s : List ℕ) → before s s ≡ false
before-irreflexive [] = refl
before-irreflexive (x ∷ s) = rw (le-ltb x x (omega arith), eq-eqb x x refl) (before-irreflexive s)

-- the first numbers decide, or, where those are the same, the rest
before-cases : (x y : ℕ) (s t : List ℕ) (P : Type 0) → before (x ∷ s) (y ∷ t) ≡ true
    → (x < y → P) → (x ≡ y → before s t ≡ true → P) → P
before-cases x y s t P h less same =
    or_cases (ltb x y) (eqb x y && before s t) P h
    (λ l. less (ltb-true x y l))
    (λ e. same (eqb-true x y (both_left (eqb x y) (before s t) e)) (both_right (eqb x y) (before s t) e))

before-first : (x y : ℕ) (s t : List ℕ) → x < y → before (x ∷ s) (y ∷ t) ≡ true
before-first x y s t l = rw (lt-ltb x y l)

before-rest : (x y : ℕ) (s t : List ℕ) → x ≡ y → before s t ≡ true → before (x ∷ s) (y ∷ t) ≡ true
before-rest x y s t e h = rw (le-ltb x y (omega arith), eq-eqb x y e, h)

before-le : (x y : ℕ) (s t : List ℕ) → before (x ∷ s) (y ∷ t) ≡ true → x ≤ y
before-le x y s t h = before-cases x y s t (x ≤ y) h (λ l. omega arith) (λ e rest. omega arith)

pub before-trans : (s t u : List ℕ) → before s t ≡ true → before t u ≡ true → before s u ≡ true
before-trans s t [] p q = q
before-trans [] t (z ∷ u) p q = refl
before-trans (x ∷ s) [] (z ∷ u) p q = absurd (false≢true p)
before-trans (x ∷ s) (y ∷ t) (z ∷ u) p q =
    let not-above = before-le y z t u q in
    before-cases x y s t (before (x ∷ s) (z ∷ u) ≡ true) p
    (λ l. before-first x z s u (omega arith))
    (λ d first. before-cases y z t u (before (x ∷ s) (z ∷ u) ≡ true) q
    (λ l. before-first x z s u (omega arith))
    (λ e rest. before-rest x z s u (d ∙ e) (before-trans s t u first rest)))
