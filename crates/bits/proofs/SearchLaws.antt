-- Some number, the first number, of which a test holds; and the two cases of a test. Assumes nothing.
use mathlib.Core.Path.{◌≡◌, refl, ap, ◌∙◌}
use mathlib.Core.Bool.{Bool, true, false, ◌&&◌, ◌||◌, and-false}
use mathlib.Core.Logic.{⊎_elim}
use Prim.Native.Nat.{ℕ, zero, suc, ◌+◌, ◌<◌, ◌≤◌, suc-le-suc}
use native.Mathlib.Nat.{not-suc-le-zero, eq-or-lt_of_le, le_of_suc-le-suc}
use native.Mathlib.Numerals.{add-one}
use native.Mathlib.Omega.{arith}
use lib.Dec.{eqb}
use borrow.Author.Tests.{eq-eqb, eqb-true}
use Rattle.bits.specs.Tests.{some, first}
use Rattle.bits.proofs.TestLaws.{both_left, both_right}

-- the two cases of a test, each with its equation
pub byBool {ℓ} : {C : Type ℓ} (b : Bool) → (b ≡ true → C) → (b ≡ false → C) → C
byBool true t f = t refl
byBool false t f = f refl

-- a test that is both proves anything
pub clash {ℓ} : {C : Type ℓ} {b : Bool} → b ≡ true → b ≡ false → C
clash p q = absurd (let z : ◌≡◌ {A = ℕ} 0 1 = cc in omega arith)

pub some_in : (p : ℕ → Bool) (n i : ℕ) → i < n → p i ≡ true → some p n ≡ true
unfolding some
some_in p zero i l h = absurd (not-suc-le-zero l)
some_in p (suc n) i l h =
    byBool (p n) (λ e. rw e)
    (λ e.
    rw e
    (⊎_elim (λ q. clash h (ap p q ∙ e)) (λ m. some_in p n i m h) (eq-or-lt_of_le (le_of_suc-le-suc l))))

pub some_out : (p : ℕ → Bool) (n : ℕ) → some p n ≡ true → (i : ℕ) × (i < n) × (p i ≡ true)
unfolding some
some_out p zero h = clash h refl
some_out p (suc n) h =
    byBool (p n) (λ e. (n, omega arith, e))
    (λ e. let w = some_out p n (rw e at h) in (w.0, omega arith, w.2))

pub none_out : (p : ℕ → Bool) (n : ℕ) → some p n ≡ false → (i : ℕ) → i < n → p i ≡ false
none_out p n h i l = byBool (p i) (λ e. clash (some_in p n i l e) h) (λ e. e)

pub none_in : (p : ℕ → Bool) (n : ℕ) → ((i : ℕ) → i < n → p i ≡ false) → some p n ≡ false
none_in p n h =
    byBool (some p n) (λ e. let w = some_out p n e in clash w.2 (h w.0 w.1)) (λ e. e)

-- some number with f of it x, and what the test says of those
module _ (f : ℕ → ℕ) (x : ℕ) (p : ℕ → Bool) (n : ℕ) where
  pub some-where : some (λ i. eqb (f i) x && p i) n ≡ true
      → (i : ℕ) × (i < n) × (f i ≡ x) × (p i ≡ true)
  some-where h =
      let found = some_out (λ i. eqb (f i) x && p i) n h in
      let i = found.0 in
      let here = both_left (eqb (f i) x) (p i) found.2 in
      (i, found.1, eqb-true (f i) x here, both_right (eqb (f i) x) (p i) found.2)

  pub none-where : some (λ i. eqb (f i) x && p i) n ≡ false
      → (i : ℕ) → i < n → f i ≡ x → p i ≡ false
  none-where h i l e = rw (eq-eqb (f i) x e) at (none_out (λ i. eqb (f i) x && p i) n h i l)

pub some-ext : (n : ℕ) (p q : ℕ → Bool) → ((i : ℕ) → i < n → p i ≡ q i) → some p n ≡ some q n
unfolding some
some-ext zero p q h = refl
some-ext (suc n) p q h = rw (h n (omega arith), some-ext n p q (λ i l. h i (omega arith)))

pub some_more : (p : ℕ → Bool) (n : ℕ) → some p (n + 1) ≡ p n || some p n
unfolding some
some_more p n = rw (add-one n)

pub some-and : (p : ℕ → Bool) (y : Bool) (n : ℕ) → some (λ i. p i && y) n ≡ (some p n && y)
unfolding some
some-and p y zero = refl
some-and p y (suc n) =
    byBool (p n)
    (λ e. rw e (byBool y (λ h. rw h) (λ h. rw (some-and p y n, h) (simp and-false))))
    (λ e. rw e (some-and p y n))

pub first-in : (p : ℕ → Bool) (n : ℕ) → first p n ≤ n
unfolding first
first-in p zero = omega arith
first-in p (suc n) =
    byBool (p 0) (λ e. rw e (omega arith)) (λ e. rw e (suc-le-suc (first-in (λ i. p (suc i)) n)))

pub first-is : (p : ℕ → Bool) (n : ℕ) → first p n < n → p (first p n) ≡ true
unfolding first
first-is p zero = λ l. absurd (not-suc-le-zero l)
first-is p (suc n) =
    byBool (p 0) (λ e. rw e (λ l. e))
    (λ e. rw e (λ l. first-is (λ i. p (suc i)) n (le_of_suc-le-suc l)))

pub first-le : (p : ℕ → Bool) (n i : ℕ) → i < n → p i ≡ true → first p n ≤ i
unfolding first
first-le p zero i l h = absurd (not-suc-le-zero l)
first-le p (suc n) zero l h = rw h (omega arith)
first-le p (suc n) (suc i) l h =
    byBool (p 0) (λ e. rw e (omega arith))
    (λ e. rw e (suc-le-suc (first-le (λ i. p (suc i)) n i (omega arith) h)))

-- a number that is the first of which the test holds
pub first-at : (p : ℕ → Bool) (n k : ℕ) → k < n → p k ≡ true → ((i : ℕ) → i < k → p i ≡ false)
    → first p n ≡ k
first-at p n k l h before =
    let most = first-le p n k l h in
    let least : first p n < k → ⊥ = λ m. clash (first-is p n (omega arith)) (before (first p n) m) in
    omega arith

pub first-none : (p : ℕ → Bool) (n : ℕ) → ((i : ℕ) → i < n → p i ≡ false) → first p n ≡ n
first-none p n none =
    let most = first-in p n in
    let least : first p n < n → ⊥ = λ m. clash (first-is p n m) (none (first p n) m) in
    omega arith

pub first-ext : (n : ℕ) (p q : ℕ → Bool) → ((i : ℕ) → i < n → p i ≡ q i) → first p n ≡ first q n
unfolding first
first-ext zero p q h = refl
first-ext (suc n) p q h =
    rw (
      h 0 (omega arith),
      first-ext n (λ i. p (suc i)) (λ i. q (suc i)) (λ i l. h (suc i) (omega arith)),
    )
