-- Numbers and bytes as text, digit by digit; a number in its column. Assumes nothing.
use mathlib.Core.Path.{◌≡◌, refl, sym, ap, ◌∙◌}
use mathlib.Core.Bool.{Bool}
use mathlib.Core.List.{List, [], ◌∷◌, ◌++◌}
use Prim.Native.Nat.{ℕ, zero, suc, ◌+◌, ◌-◌, ◌*◌, ◌/◌, ◌%◌, ◌^◌, ◌<◌, ◌≤◌}
use native.Mathlib.Omega.{arith}
use lib.Dec.{ltb}
use lib.ListN.{length, get_or, length-append, length-replicate}
use borrow.Author.Tests.{lt-ltb, le-ltb, ltb-true, ltb-false, le-leb}
use Rattle.bits.specs.Bits.{nibble}
use Rattle.bits.proofs.SearchLaws.{byBool}
use Rattle.digits.specs.Digits.{digit_code, hexadecimal, decimal_in, decimal, column, Aligns}

pub hexadecimal-length : (s : List ℕ) → length (hexadecimal s) ≡ 2 * length s
unfolding hexadecimal
hexadecimal-length [] = refl
hexadecimal-length (x ∷ s) = let rest = hexadecimal-length s in omega arith

-- digit i is of field i
pub hexadecimal-at : (s : List ℕ) (i : ℕ) → i < 2 * length s
    → get_or (hexadecimal s) i 0 ≡ digit_code (nibble s i)
unfolding hexadecimal
hexadecimal-at [] i l = absurd (omega arith)
hexadecimal-at (x ∷ s) zero l = refl
hexadecimal-at (x ∷ s) (suc zero) l = let same : x / 1 ≡ x = omega arith in rw same
hexadecimal-at (x ∷ s) (suc (suc i)) l =
    let place : suc (suc i) / 2 ≡ suc (i / 2) = omega arith in
    let half : suc (suc i) % 2 ≡ i % 2 = omega arith in
    rw (place, half) (hexadecimal-at s i (omega arith))

-- a number has at most as many digits as one more than itself
pub digits-enough : (x : ℕ) → x < 10 ^ suc x
digits-enough zero = omega arith
digits-enough (suc x) = let less = digits-enough x in omega arith

-- any two bounds that are enough give the same digits
same_digits : (v w x : ℕ) → x < 10 ^ suc v → x < 10 ^ suc w → decimal_in (suc v) x ≡ decimal_in (suc w) x
unfolding decimal_in
same_digits zero w x l m = rw (lt-ltb x 10 (omega arith))
same_digits (suc v) zero x l m = rw (lt-ltb x 10 (omega arith))
same_digits (suc v) (suc w) x l m =
    byBool (ltb x 10) (λ e. rw e)
    (λ e.
    rw e
    (ap (λ (s : List ℕ). s ++ (digit_code (x % 10) ∷ []))
    (same_digits v w (x / 10) (omega arith) (omega arith))))

decimal-in : (w x : ℕ) → x < 10 ^ suc w → decimal_in (suc w) x ≡ decimal x
unfolding decimal
decimal-in w x l = same_digits w x x l (digits-enough x)

-- a number of one digit, of more, and of two
pub decimal-one : (x : ℕ) → x < 10 → decimal x ≡ digit_code x ∷ []
unfolding decimal decimal_in
decimal-one x small = let same : x % 10 ≡ x = omega arith in rw (lt-ltb x 10 small, same)

pub decimal-more : (x : ℕ) → 10 ≤ x → decimal x ≡ decimal (x / 10) ++ (digit_code (x % 10) ∷ [])
unfolding decimal decimal_in
decimal-more zero large = absurd (omega arith)
decimal-more (suc x) large =
    let enough = digits-enough x in
    rw (le-ltb (suc x) 10 large)
    (ap (λ (s : List ℕ). s ++ (digit_code (suc x % 10) ∷ [])) (decimal-in x (suc x / 10) (omega arith)))

pub decimal-two : (x : ℕ) → 10 ≤ x → x < 100
    → decimal x ≡ digit_code (x / 10 % 10) ∷ digit_code (x % 10) ∷ []
decimal-two x large small =
    let same : x / 10 % 10 ≡ x / 10 = omega arith in
    decimal-more x large ∙ rw (decimal-one (x / 10) (omega arith), same)

pub decimal-longer : (x : ℕ) → 10 ≤ x → length (decimal x) ≡ length (decimal (x / 10)) + 1
decimal-longer x large =
    ap length (decimal-more x large) ∙ length-append (decimal (x / 10)) (digit_code (x % 10) ∷ [])

pub decimal-some : (x : ℕ) → 1 ≤ length (decimal x)
decimal-some x =
    byBool (ltb x 10)
    (λ e. omega (arith, ap length (decimal-one x (ltb-true x 10 e))))
    (λ e. omega (arith, decimal-longer x (ltb-false x 10 e)))

-- so many digits are enough for what is below that power of ten
pub decimal-short : (w x : ℕ) → x < 10 ^ suc w → length (decimal x) ≤ suc w
decimal-short zero x l = omega (arith, ap length (decimal-one x (omega arith)))
decimal-short (suc w) x l =
    byBool (ltb x 10)
    (λ e. omega (arith, ap length (decimal-one x (ltb-true x 10 e))))
    (λ e.
    let rest = decimal-short w (x / 10) (omega arith) in
    omega (arith, decimal-longer x (ltb-false x 10 e)))

pub decimal-u64 : (x : ℕ) → x < 2 ^ 64 → length (decimal x) ≤ 20
decimal-u64 x l = decimal-short 19 x (omega arith)

pub column-length : (w x : ℕ) → length (decimal x) ≤ w → length (column w x) ≡ w
unfolding column
column-length w x room = simp (length-append, length-replicate) (omega arith)

pub column-exact : (x : ℕ) → column (length (decimal x)) x ≡ decimal x
unfolding column
column-exact x = let none : length (decimal x) - length (decimal x) ≡ 0 = omega arith in rw none

-- the promise of a column, where there is room for it; and it leaves one answer and one buffer
pub aligns-column : (x : ℕ) (before after : List ℕ) (r : Bool) → Aligns x before after r
    → length (decimal x) ≤ length before → after ≡ column (length before) x
aligns-column x before after r aligned room =
    aligned.kept ∙ rw (le-leb (length (decimal x)) (length before) room)

pub aligns-unique : (x : ℕ) (before after after' : List ℕ) (r q : Bool) → Aligns x before after r
    → Aligns x before after' q → (r ≡ q) × (after ≡ after')
aligns-unique x before after after' r q p p' = (p.told ∙ sym p'.told, p.kept ∙ sym p'.kept)
