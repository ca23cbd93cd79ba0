-- Tests that compute. Assumes nothing.
use Rattle.std.specs.Prelude.{ℕ, zero, suc, ◌+◌, Bool, true, false, not, ◌&&◌, ◌||◌, List, [], ◌∷◌, eqb}

-- a if the test holds, else b
abbrev pub pick : {A : Type 0} → Bool → A → A → A
pick true a b = a
pick false a b = b

infixl 40 ◌⊕◌
-- one of the two and not the other
abbrev pub ◌⊕◌ : Bool → Bool → Bool
true ⊕ b = not b
false ⊕ b = b

-- f holds of every number below n
abbrev pub below : (ℕ → Bool) → ℕ → Bool
below f zero = true
below f (suc n) = f n && below f n

-- f holds of some number below n
unfoldable pub some : (ℕ → Bool) → ℕ → Bool
some f zero = false
some f (suc n) = f n || some f n

-- the first number below n that f holds of, or n
unfoldable pub first : (ℕ → Bool) → ℕ → ℕ
first f zero = zero
first f (suc n) = pick (f 0) 0 (suc (first (λ i. f (suc i)) n))

-- how many numbers below n f holds of
abbrev pub count : (ℕ → Bool) → ℕ → ℕ
count f zero = 0
count f (suc n) = pick (f n) 1 0 + count f n

-- f holds of every number of the list
abbrev pub every : (ℕ → Bool) → List ℕ → Bool
every f [] = true
every f (x ∷ xs) = f x && every f xs

-- v is in the list
abbrev pub member : ℕ → List ℕ → Bool
member v [] = false
member v (x ∷ xs) = eqb v x || member v xs

-- two lists have the same entries
abbrev pub alike : List ℕ → List ℕ → Bool
alike [] [] = true
alike [] (y ∷ t) = false
alike (x ∷ s) [] = false
alike (x ∷ s) (y ∷ t) = eqb x y && alike s t

-- the test holds of every element
abbrev pub all : {A : Type 0} (test : A → Bool) → List A → Bool
all test [] = true
all test (x ∷ xs) = test x && all test xs

-- the test holds of some element
abbrev pub any : {A : Type 0} (test : A → Bool) → List A → Bool
any test [] = false
any test (x ∷ xs) = test x || any test xs
