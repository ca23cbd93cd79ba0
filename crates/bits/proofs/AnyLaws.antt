-- A test of some element and of every element of a list: where the element stands and how often does
-- not matter. Assumes nothing.
use mathlib.Core.Path.{◌≡◌, refl, sym, ap, ◌∙◌}
use mathlib.Core.Bool.{Bool, true, false, ◌&&◌, ◌||◌, and_assoc, or_assoc, or-true}
use mathlib.Core.List.Memᴰ
use mathlib.Core.List.{List, [], ◌∷◌, ◌++◌, map, Memᴰ}
use mathlib.Core.Logic.{⊎_elim}
use Rattle.bits.specs.Tests.{all, any}
use Rattle.bits.specs.Elements.{Among, SameElements}
use Rattle.bits.proofs.TestLaws.{both_left, both_right, or_cases, same_test}
use Rattle.bits.proofs.SearchLaws.{clash}

module _ {A : Type 0} (test : A → Bool) where
  pub any_append : (xs ys : List A) → any test (xs ++ ys) ≡ any test xs || any test ys
  any_append [] ys = refl
  any_append (x ∷ xs) ys = rw (any_append xs ys) (sym (or_assoc (test x) (any test xs) (any test ys)))

  pub all_append : (xs ys : List A) → all test (xs ++ ys) ≡ all test xs && all test ys
  all_append [] ys = refl
  all_append (x ∷ xs) ys = rw (all_append xs ys) (sym (and_assoc (test x) (all test xs) (all test ys)))

  pub any-in : (xs : List A) (x : A) → Memᴰ x xs → test x ≡ true → any test xs ≡ true
  any-in [] x stands h = absurd (Memᴰ.not-nil stands)
  any-in (y ∷ xs) x stands h =
      ⊎_elim (λ (e : x ≡ y). let holds : test y ≡ true = cc in rw holds)
      (λ rest. rw (any-in xs x rest h) (or-true (test y)))
      (Memᴰ.cases_cons stands)

  pub any_out : (xs : List A) → any test xs ≡ true → (x : A) × Memᴰ x xs × (test x ≡ true)
  any_out [] h = clash h refl
  any_out (y ∷ xs) h =
      or_cases (test y) (any test xs) ((x : A) × Memᴰ x (y ∷ xs) × (test x ≡ true)) h
      (λ here. (y, Memᴰ.head refl, here))
      (λ there.
      let found = any_out xs there in (found.0, Memᴰ.tail found.1, found.2))

  pub all-out : (xs : List A) → all test xs ≡ true → (x : A) → Memᴰ x xs → test x ≡ true
  all-out [] h x stands = absurd (Memᴰ.not-nil stands)
  all-out (y ∷ xs) h x stands =
      ⊎_elim (λ e. ap test e ∙ both_left (test y) (all test xs) h)
      (λ rest. all-out xs (both_right (test y) (all test xs) h) x rest)
      (Memᴰ.cases_cons stands)

  pub all_in : (xs : List A) → ((x : A) → Memᴰ x xs → test x ≡ true) → all test xs ≡ true
  all_in [] h = refl
  all_in (y ∷ xs) h =
      rw (h y (Memᴰ.head refl)) (all_in xs (λ x stands. h x (Memᴰ.tail stands)))

  pub any_none : (xs : List A) → ((x : A) → Memᴰ x xs → test x ≡ false) → any test xs ≡ false
  any_none [] h = refl
  any_none (y ∷ xs) h =
      rw (h y (Memᴰ.head refl)) (any_none xs (λ x stands. h x (Memᴰ.tail stands)))

  pub any-among : (xs ys : List A) → Among xs ys → any test xs ≡ true → any test ys ≡ true
  any-among xs ys among h =
      let found = any_out xs h in any-in ys found.0 (among found.0 found.1) found.2

  pub all_among : (xs ys : List A) → Among ys xs → all test xs ≡ true → all test ys ≡ true
  all_among xs ys among h = all_in ys (λ x stands. all-out xs h x (among x stands))

  pub any_same : (xs ys : List A) → SameElements xs ys → any test xs ≡ any test ys
  any_same xs ys same =
      same_test _ _ (any-among xs ys same.0) (any-among ys xs same.1)

  pub all_same : (xs ys : List A) → SameElements xs ys → all test xs ≡ all test ys
  all_same xs ys same =
      same_test _ _ (all_among xs ys same.1) (all_among ys xs same.0)

-- the test of what stands at each element
module _ {A B : Type 0} (test : B → Bool) (f : A → B) where
  pub any-map : (xs : List A) → any test (map f xs) ≡ any (λ x. test (f x)) xs
  any-map [] = refl
  any-map (x ∷ xs) = rw (any-map xs)

  pub all_map : (xs : List A) → all test (map f xs) ≡ all (λ x. test (f x)) xs
  all_map [] = refl
  all_map (x ∷ xs) = rw (all_map xs)

-- tests that agree on the elements
module _ {A : Type 0} (f g : A → Bool) where
  pub any-ext : (xs : List A) → ((x : A) → Memᴰ x xs → f x ≡ g x) → any f xs ≡ any g xs
  any-ext [] same = refl
  any-ext (y ∷ xs) same =
      rw (
        same y (Memᴰ.head refl),
        any-ext xs (λ x stands. same x (Memᴰ.tail stands)),
      )

  pub all-ext : (xs : List A) → ((x : A) → Memᴰ x xs → f x ≡ g x) → all f xs ≡ all g xs
  all-ext [] same = refl
  all-ext (y ∷ xs) same =
      rw (
        same y (Memᴰ.head refl),
        all-ext xs (λ x stands. same x (Memᴰ.tail stands)),
      )
