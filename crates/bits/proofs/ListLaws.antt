-- What the tests of a whole list say of its entries. Assumes nothing.
use mathlib.Core.Path.{◌≡◌, refl, sym, ap, ◌∙◌}
use mathlib.Core.Bool.{Bool, true, ◌&&◌, false≢true, and_assoc, or-true}
use mathlib.Core.List.{List, [], ◌∷◌, ◌++◌}
use Prim.Native.Nat.{ℕ, zero, suc, suc-le-suc, ◌<◌}
use native.Mathlib.Nat.{not-suc-le-zero, zero-lt-suc, le_of_suc-le-suc, lt_trans}
use lib.Dec.{eqb, ltb}
use lib.ListN.{length, get_or}
use borrow.Author.Tests.{eq-eqb, eqb-true, ltb-true}
use Rattle.bits.specs.Tests.{every, member, alike}
use Rattle.bits.proofs.TestLaws.{both_left, both_right, or_cases}

pub every-at : (f : ℕ → Bool) (s : List ℕ) → every f s ≡ true → (k : ℕ) → k < length s
    → f (get_or s k 0) ≡ true
every-at f [] h k l = absurd (not-suc-le-zero l)
every-at f (x ∷ s) h zero l = both_left (f x) (every f s) h
every-at f (x ∷ s) h (suc k) l = every-at f s (both_right (f x) (every f s) h) k (le_of_suc-le-suc l)

pub every_append : (f : ℕ → Bool) (xs ys : List ℕ) → every f (xs ++ ys) ≡ every f xs && every f ys
every_append f [] ys = refl
every_append f (x ∷ xs) ys = rw (every_append f xs ys) (sym (and_assoc (f x) (every f xs) (every f ys)))

pub every-after : (f : ℕ → Bool) (s t : List ℕ) → every f (s ++ t) ≡ true → every f t ≡ true
every-after f [] t h = h
every-after f (x ∷ s) t h = every-after f s t (both_right (f x) (every f (s ++ t)) h)

pub every-before : (f : ℕ → Bool) (s t : List ℕ) → every f (s ++ t) ≡ true → every f s ≡ true
every-before f s t h = both_left _ _ (rw (every_append f s t) at h)

pub every-implied : (f g : ℕ → Bool) → ((x : ℕ) → f x ≡ true → g x ≡ true)
    → (s : List ℕ) → every f s ≡ true → every g s ≡ true
every-implied f g implies [] h = refl
every-implied f g implies (x ∷ s) h =
    rw (implies x (both_left _ _ h)) (every-implied f g implies s (both_right (f x) _ h))

-- x stands in the list at some place
abbrev pub Stands : ℕ → List ℕ → Type 0
Stands x s = (k : ℕ) × (k < length s) × (get_or s k 0 ≡ x)

pub member-at : (v : ℕ) (s : List ℕ) → member v s ≡ true → Stands v s
member-at v [] h = absurd (false≢true h)
member-at v (x ∷ s) h =
    or_cases (eqb v x) (member v s) (Stands v (x ∷ s)) h
    (λ here. let same : v ≡ x = eqb-true v x here in (0, zero-lt-suc (length s), cc))
    (λ there. let rest = member-at v s there in (suc rest.0, suc-le-suc rest.1, rest.2))

pub at-member : (s : List ℕ) (k : ℕ) → k < length s → member (get_or s k 0) s ≡ true
at-member [] k l = absurd (not-suc-le-zero l)
at-member (x ∷ s) zero l = rw (eq-eqb x x refl)
at-member (x ∷ s) (suc k) l = rw (at-member s k (le_of_suc-le-suc l)) (simp or-true)

pub every-member : (f : ℕ → Bool) (s : List ℕ) → every f s ≡ true
    → (x : ℕ) → member x s ≡ true → f x ≡ true
every-member f s h x inside =
    let at = member-at x s inside in ap f (sym at.2) ∙ every-at f s h at.0 at.1

pub every_of : (f : ℕ → Bool) (s : List ℕ) → ((x : ℕ) → member x s ≡ true → f x ≡ true)
    → every f s ≡ true
every_of f [] h = refl
every_of f (x ∷ s) h =
    rw (
      h x (rw (eq-eqb x x refl)),
      every_of f s (λ y inside. h y (rw inside (simp or-true))),
    )

-- f strictly rises along the list, and is above low
module _ (f : ℕ → ℕ) where
  abbrev pub rises : ℕ → List ℕ → Bool
  rises low [] = true
  rises low (x ∷ s) = ltb low (f x) && rises (f x) s

  first_above : (low x : ℕ) (s : List ℕ) → rises low (x ∷ s) ≡ true → low < f x
  first_above low x s h = ltb-true low (f x) (both_left (ltb low (f x)) (rises (f x) s) h)

  rest-rises : (low x : ℕ) (s : List ℕ) → rises low (x ∷ s) ≡ true → rises (f x) s ≡ true
  rest-rises low x s h = both_right (ltb low (f x)) (rises (f x) s) h

  above : (low : ℕ) (s : List ℕ) → rises low s ≡ true → (k : ℕ) → k < length s → low < f (get_or s k 0)
  above low [] h k l = absurd (not-suc-le-zero l)
  above low (x ∷ s) h zero l = first_above low x s h
  above low (x ∷ s) h (suc k) l =
      lt_trans (first_above low x s h) (above (f x) s (rest-rises low x s h) k (le_of_suc-le-suc l))

  pub rises-at : (low : ℕ) (s : List ℕ) → rises low s ≡ true
      → (i j : ℕ) → i < j → j < length s → f (get_or s i 0) < f (get_or s j 0)
  rises-at low [] h i j l m = absurd (not-suc-le-zero m)
  rises-at low (x ∷ s) h i zero l m = absurd (not-suc-le-zero l)
  rises-at low (x ∷ s) h zero (suc j) l m = above (f x) s (rest-rises low x s h) j (le_of_suc-le-suc m)
  rises-at low (x ∷ s) h (suc i) (suc j) l m =
      rises-at (f x) s (rest-rises low x s h) i j (le_of_suc-le-suc l) (le_of_suc-le-suc m)

pub alike-eq : (s t : List ℕ) → alike s t ≡ true → s ≡ t
alike-eq [] [] h = refl
alike-eq [] (y ∷ t) h = cc
alike-eq (x ∷ s) [] h = cc
alike-eq (x ∷ s) (y ∷ t) h =
    let heads = eqb-true x y (both_left (eqb x y) (alike s t) h) in
    cc (heads, alike-eq s t (both_right (eqb x y) (alike s t) h))

pub alike_self : (s : List ℕ) → alike s s ≡ true
alike_self [] = refl
alike_self (x ∷ s) = rw (eq-eqb x x refl, alike_self s)
