-- A number other than 0 has one bit just if `x & (x - 1)`, which takes its lowest bit away, is 0.
-- Assumes nothing.
use mathlib.Core.Path.{◌≡◌, refl, sym, ◌∙◌}
use mathlib.Core.Bool.{Bool, true, false}
use Prim.Native.Nat.{ℕ, zero, suc, ◌+◌, ◌-◌, ◌*◌, ◌/◌, ◌%◌, ◌^◌, ◌<◌}
use native.Mathlib.Omega.{arith}
use lib.Dec.{eqb, leb}
use lib.Bits.{bit_and, and_step, and_self}
use borrow.Author.Tests.{eq-eqb, ne_eqb, eqb-true, eqb-false, le-leb, lt-leb}
use Rattle.bits.specs.Bits.{has}
use Rattle.bits.specs.Tests.{pick, count}
use Rattle.bits.proofs.SearchLaws.{byBool}
use Rattle.bits.proofs.CountLaws.{count-ext, count-first}
use Rattle.bits.proofs.BitLaws.{has-zero, has-suc, has-of-0}

-- the units bit apart
count-half : (x n : ℕ) → count (has x) (suc n) ≡ x % 2 + count (has (x / 2)) n
count-half x n =
    let rest = count-ext (λ i. has x (suc i)) (has (x / 2)) n (λ i l. has-suc x i) in
    let units : pick (has x 0) 1 0 ≡ x % 2 = rw (has-zero x) (last (eqb (x % 2) 1) refl) in
    count-first (has x) n ∙ rw (units, rest)
  where
    last : (b : Bool) → eqb (x % 2) 1 ≡ b → pick b 1 0 ≡ x % 2
    last true e = sym (eqb-true (x % 2) 1 e)
    last false e = let other = eqb-false (x % 2) 1 e in omega arith

pub count_none : (n : ℕ) → count (has 0) n ≡ 0
count_none zero = refl
count_none (suc n) = rw (has-of-0 n, count_none n)

count-some : (n x : ℕ) → x < 2 ^ n → 0 < x → 0 < count (has x) n
count-some zero x l p = absurd (omega arith)
count-some (suc n) x l p =
    rw (count-half x n)
    (byBool (eqb (x % 2) 1) (λ e. let odd = eqb-true (x % 2) 1 e in omega arith)
    (λ e.
    let even = eqb-false (x % 2) 1 e in
    let rest = count-some n (x / 2) (omega arith) (omega arith) in
    omega arith))

-- twice a number is 0 where the number is
doubled : (x y : ℕ) → x ≡ y * 2 → eqb x 0 ≡ eqb y 0
doubled x y twice =
    byBool (eqb y 0)
    (λ e. let none = eqb-true y 0 e in rw e (eq-eqb x 0 (omega arith)))
    (λ e. let some = eqb-false y 0 e in rw e (ne_eqb x 0 (omega arith)))

-- one bit and the rest, which is 0 or has a bit more
one-and : (n q : ℕ) → q < 2 ^ n → eqb q 0 ≡ leb (1 + count (has q) n) 1
one-and n q l =
    byBool (eqb q 0)
    (λ e.
    let none = eqb-true q 0 e in
    let empty : count (has q) n ≡ 0 = rw none (count_none n) in
    rw e (sym (le-leb (1 + count (has q) n) 1 (omega arith))))
    (λ e.
    let more = eqb-false q 0 e in
    let some = count-some n q l (omega arith) in
    rw e (sym (lt-leb (1 + count (has q) n) 1 (omega arith))))

-- the lowest bit of an odd number is its units bit
and-odd : (x : ℕ) → x % 2 ≡ 1 → bit_and x (x - 1) ≡ x / 2 * 2
and-odd x odd =
    let half : (x - 1) / 2 ≡ x / 2 = omega arith in
    let even : (x - 1) % 2 ≡ 0 = omega arith in
    let halves = rw (half, even, odd, and_self (x / 2)) at (and_step x (x - 1)) in
    omega (arith, halves)

-- that of an even one is that of its half
and-even : (x : ℕ) → 0 < x → x % 2 ≡ 0 → bit_and x (x - 1) ≡ bit_and (x / 2) (x / 2 - 1) * 2
and-even x p even =
    let half : (x - 1) / 2 ≡ x / 2 - 1 = omega arith in
    let halves = rw (half, even) at (and_step x (x - 1)) in
    omega (arith, halves)

pub one_bit : (n x : ℕ) → x < 2 ^ n → 0 < x → eqb (bit_and x (x - 1)) 0 ≡ leb (count (has x) n) 1
one_bit zero x l p = absurd (omega arith)
one_bit (suc n) x l p =
    let less : x / 2 < 2 ^ n = omega arith in
    rw (count-half x n)
    (byBool (eqb (x % 2) 1)
    (λ e.
    let odd = eqb-true (x % 2) 1 e in
    rw odd (doubled (bit_and x (x - 1)) (x / 2) (and-odd x odd) ∙ one-and n (x / 2) less))
    (λ e.
    let other = eqb-false (x % 2) 1 e in
    let even : x % 2 ≡ 0 = omega arith in
    let none : 0 + count (has (x / 2)) n ≡ count (has (x / 2)) n = omega arith in
    rw (even, none)
    (doubled (bit_and x (x - 1)) (bit_and (x / 2) (x / 2 - 1)) (and-even x p even)
    ∙ one_bit n (x / 2) less (omega arith))))
