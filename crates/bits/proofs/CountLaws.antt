-- How many numbers a test holds of. Assumes nothing.
use mathlib.Core.Path.{◌≡◌, refl, sym, ap}
use mathlib.Core.Bool.{Bool, true, false, ◌||◌}
use mathlib.Core.List.{List, [], ◌∷◌}
use mathlib.Core.Logic.{⊎_elim}
use Prim.Native.Nat.{ℕ, zero, suc, ◌+◌, ◌<◌, ◌≤◌}
use native.Mathlib.Nat.{eq-or-lt_of_le}
use native.Mathlib.Numerals.{add-one}
use native.Mathlib.Omega.{arith}
use lib.Dec.{eqb}
use lib.ListN.{length}
use borrow.Author.Tests.{eqb-true, eqb-false, ne_eqb}
use Rattle.bits.specs.Tests.{pick, count, member}
use Rattle.bits.proofs.SearchLaws.{byBool}

pub count_most : (p : ℕ → Bool) (n : ℕ) → count p n ≤ n
count_most p zero = omega arith
count_most p (suc n) =
    let most = count_most p n in byBool (p n) (λ e. rw e (omega arith)) (λ e. rw e (omega arith))

pub count-found : (f : ℕ → Bool) (n : ℕ) → f n ≡ true → count f (n + 1) ≡ count f n + 1
count-found f n e = rw (add-one, e) (omega arith)

pub count-passed : (f : ℕ → Bool) (n : ℕ) → f n ≡ false → count f (n + 1) ≡ count f n
count-passed f n e = rw (add-one, e) (omega arith)

pub count-ext : (p q : ℕ → Bool) (n : ℕ) → ((v : ℕ) → v < n → p v ≡ q v) → count p n ≡ count q n
count-ext p q zero same = refl
count-ext p q (suc n) same =
    rw (same n (omega arith), count-ext p q n (λ v l. same v (omega arith)))

-- numbers of which the test does not hold add nothing
pub count_past : (p : ℕ → Bool) (n m : ℕ) → n ≤ m → ((v : ℕ) → n ≤ v → p v ≡ false)
    → count p m ≡ count p n
count_past p n zero l none = let e : 0 ≡ n = omega arith in ap (count p) e
count_past p n (suc m) l none =
    ⊎_elim (λ (e : n ≡ suc m). ap (count p) (sym e))
    (λ (k : n < suc m).
    let fewer = count_past p n m (omega arith) none in rw (none m (omega arith)) (omega arith))
    (eq-or-lt_of_le l)

pub count-within : (p q : ℕ → Bool) (n : ℕ) → ((v : ℕ) → v < n → p v ≡ true → q v ≡ true)
    → count p n ≤ count q n
count-within p q zero h = omega arith
count-within p q (suc n) h =
    let rest = count-within p q n (λ v l. h v (omega arith)) in
    byBool (p n) (λ e. rw (e, h n (omega arith) e) (omega arith))
    (λ e. byBool (q n) (λ y. rw (e, y) (omega arith)) (λ y. rw (e, y) (omega arith)))

pub count-either : (p q : ℕ → Bool) (n : ℕ) → count (λ v. p v || q v) n ≤ count p n + count q n
count-either p q zero = omega arith
count-either p q (suc n) =
    let rest = count-either p q n in
    byBool (p n)
    (λ e. byBool (q n) (λ y. rw (e, y) (omega arith)) (λ y. rw (e, y) (omega arith)))
    (λ e. byBool (q n) (λ y. rw (e, y) (omega arith)) (λ y. rw (e, y) (omega arith)))

count_none : (x n : ℕ) → n ≤ x → count (λ v. eqb v x) n ≡ 0
count_none x zero l = refl
count_none x (suc n) l = rw (ne_eqb n x (omega arith), count_none x n (omega arith))

pub count-one : (x n : ℕ) → count (λ v. eqb v x) n ≤ 1
count-one x zero = omega arith
count-one x (suc n) =
    byBool (eqb n x)
    (λ e. rw (e, count_none x n (omega (arith, eqb-true n x e))) (omega arith))
    (λ e. let rest = count-one x n in rw e (omega arith))

-- a list has at most as many numbers as it is long
pub count-member : (s : List ℕ) (n : ℕ) → count (λ v. member v s) n ≤ length s
count-member [] zero = omega arith
count-member [] (suc n) = omega (arith, count-member [] n)
count-member (x ∷ s) n =
    omega (arith, count-either (λ v. eqb v x) (λ v. member v s) n, count-one x n, count-member s n)

-- the first one apart
pub count-first : (g : ℕ → Bool) (n : ℕ) → count g (suc n) ≡ pick (g 0) 1 0 + count (λ i. g (suc i)) n
count-first g zero = refl
count-first g (suc n) = let rest = count-first g n in omega arith

some-counted : (g : ℕ → Bool) (n : ℕ) → 0 < count g n → (u : ℕ) × (u < n) × (g u ≡ true)
some-counted g zero l = absurd (omega arith)
some-counted g (suc n) l =
    byBool (g n) (λ e. (n, omega arith, e))
    (λ e.
    let counted = rw e at l in
    let rest = some-counted g n (omega arith) in
    (rest.0, omega (arith, rest.1), rest.2))

-- of two that are counted, one is not v
pub two-counted : (g : ℕ → Bool) (n v : ℕ) → 1 < count g n → (u : ℕ) × (u ≡ v → ⊥) × (g u ≡ true)
two-counted g zero v l = absurd (omega arith)
two-counted g (suc n) v l =
    byBool (g n)
    (λ e.
    let counted = rw e at l in
    byBool (eqb n v)
    (λ same.
    let here = eqb-true n v same in
    let rest = some-counted g n (omega arith) in
    (rest.0, λ q. omega (arith, rest.1), rest.2))
    (λ other. (n, eqb-false n v other, e)))
    (λ e. let counted = rw e at l in two-counted g n v (omega arith))
