-- The least of many numbers, taken one by one. Assumes nothing.
use mathlib.Core.Path.{◌≡◌}
use Prim.Native.Nat.{ℕ, zero, suc, ◌+◌, ◌<◌, ◌≤◌}
use native.Mathlib.Numerals.{add-one}
use native.Mathlib.Omega.{arith}
use lib.Dec.{ltb}
use borrow.Author.Tests.{ltb-true, ltb-false}
use Rattle.bits.proofs.SearchLaws.{byBool}
use Rattle.contents.specs.Code.{least_of}

pub least_of-less : (most : ℕ) (f : ℕ → ℕ) (n : ℕ) → f n < least_of most f n → f n ≡ least_of most f (n + 1)
unfolding least_of
least_of-less most f n l = rw (add-one n) (omega arith)

pub least_of-same : (most : ℕ) (f : ℕ → ℕ) (n : ℕ) → least_of most f n ≤ f n
    → least_of most f n ≡ least_of most f (n + 1)
unfolding least_of
least_of-same most f n l = rw (add-one n) (omega arith)

pub least_of-most : (most : ℕ) (f : ℕ → ℕ) (n : ℕ) → least_of most f n ≤ most
unfolding least_of
least_of-most most f zero = omega arith
least_of-most most f (suc n) = omega (arith, least_of-most most f n)

pub least_of-le : (most : ℕ) (f : ℕ → ℕ) (n i : ℕ) → i < n → least_of most f n ≤ f i
unfolding least_of
least_of-le most f zero i l = absurd (omega arith)
least_of-le most f (suc n) i l =
    byBool (ltb i n) (λ e. omega (arith, least_of-le most f n i (ltb-true i n e)))
    (λ e.
    let above = ltb-false i n e in
    let last : i ≡ n = omega arith in
    rw last (omega arith))

pub least_of-is : (most : ℕ) (f : ℕ → ℕ) (n : ℕ) → least_of most f n < most
    → (i : ℕ) × (i < n) × (least_of most f n ≡ f i)
unfolding least_of
least_of-is most f zero l = absurd (omega arith)
least_of-is most f (suc n) l =
    byBool (ltb (f n) (least_of most f n))
    (λ e. let less = ltb-true (f n) (least_of most f n) e in (n, omega arith, omega arith))
    (λ e.
    let more = ltb-false (f n) (least_of most f n) e in
    let found = least_of-is most f n (omega arith) in
    (found.0, omega arith, omega (arith, found.2)))
