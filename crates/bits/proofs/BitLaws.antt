-- A number and its bits, the units bit being bit 0. Assumes nothing.
use mathlib.Core.Path.{◌≡◌, refl, sym, ap, ap₂, ◌∙◌}
use mathlib.Core.Bool.{Bool, true, false, ◌&&◌, ◌||◌, and-false, and-true}
use Prim.Native.Nat.{ℕ, zero, suc, ◌+◌, ◌-◌, ◌*◌, ◌/◌, ◌%◌, ◌^◌, ◌<◌, ◌≤◌, min, max}
use native.Mathlib.Nat.{not-suc-le-zero, div-eq_of_lt}
use native.Mathlib.Omega.{arith}
use borrow.Author.Tests.{eq-eqb, ne_eqb, eqb-true, eqb-false}
use lib.Dec.{eqb, eqb-suc-zero, eqb-zero-suc, eqb-suc-suc}
use lib.Bits.{bit_and, bit_or, and_step, or_step, and_shr, or_shr}
use mir.Val.{bool_byte}
use lib.Pow.{shr-shr, pow_mono, field, mod-mod-pow}
use Rattle.bits.specs.Bits.{bit, has, num, of_bits}
use Rattle.bits.proofs.SearchLaws.{byBool, clash}

abbrev odd : ℕ → Bool
odd x = eqb (x % 2) 1

odd_is : (x : ℕ) (v : Bool) → x % 2 ≡ num v → odd x ≡ v
odd_is x true e = eq-eqb (x % 2) 1 e
odd_is x false e = ne_eqb (x % 2) 1 (omega arith)

num-odd : (x : ℕ) → x % 2 ≡ num (odd x)
num-odd x =
    byBool (odd x) (λ e. rw e (eqb-true (x % 2) 1 e))
    (λ e. let z = eqb-false (x % 2) 1 e in rw e (omega arith))

odd-num : (x : ℕ) (v : Bool) → odd (x * 2 + num v) ≡ v
odd-num x true = eq-eqb ((x * 2 + 1) % 2) 1 (omega arith)
odd-num x false = ne_eqb ((x * 2 + 0) % 2) 1 (omega arith)

half-num : (x : ℕ) (v : Bool) → (x * 2 + num v) / 2 ≡ x
half-num x true = omega arith
half-num x false = omega arith

pub num-le : (v : Bool) → num v ≤ 1
num-le true = omega arith
num-le false = omega arith

pub byte-num : (b : Bool) → bool_byte b ≡ num b
byte-num true = refl
byte-num false = refl

pub num-injective : (x y : Bool) → num x ≡ num y → x ≡ y
num-injective true true e = refl
num-injective true false e = absurd (omega arith)
num-injective false true e = absurd (omega arith)
num-injective false false e = refl

-- a bit as a number
pub num-has : (x i : ℕ) → num (has x i) ≡ bit x i
unfolding has
num-has x i = sym (num-odd (x / 2 ^ i))

pub has-suc : (x i : ℕ) → has x (suc i) ≡ has (x / 2) i
unfolding has
has-suc x i = let e : 1 + i ≡ suc i = omega arith in ap odd (sym (rw e at (shr-shr x 1 i)))

pub has-zero : (x : ℕ) → has x 0 ≡ odd x
unfolding has
has-zero x = let e : x / 1 ≡ x = omega arith in ap odd e

-- the last bit of a number, and those before it
pub has_last : (x : ℕ) (v : Bool) → has (x * 2 + num v) 0 ≡ v
has_last x v = has-zero (x * 2 + num v) ∙ odd-num x v

pub has-next : (x i : ℕ) (v : Bool) → has (x * 2 + num v) (suc i) ≡ has x i
has-next x i v = has-suc (x * 2 + num v) i ∙ ap (λ (y : ℕ). has y i) (half-num x v)

pub has-num : (v : Bool) → has (num v) 0 ≡ v
unfolding has
has-num true = refl
has-num false = refl

-- a number below 2 ^ n has no bit from n on
pub has-high : (n x i : ℕ) → x < 2 ^ n → n ≤ i → has x i ≡ false
unfolding has
has-high n x i l h =
    let m = pow_mono h in let e : x / 2 ^ i ≡ 0 = div-eq_of_lt (omega arith) in rw e

pub has-of-0 : (i : ℕ) → has 0 i ≡ false
has-of-0 i = has-high 0 0 i (omega arith) (omega arith)

pub of_bits-lt : (n : ℕ) (g : ℕ → Bool) → of_bits n g < 2 ^ n
unfolding of_bits
of_bits-lt zero g = omega arith
of_bits-lt (suc n) g =
    let h = of_bits-lt n (λ i. g (suc i)) in omega (arith, num-le (g 0))

pub of_bits-ext : (n : ℕ) (g h : ℕ → Bool) → ((i : ℕ) → i < n → g i ≡ h i) → of_bits n g ≡ of_bits n h
unfolding of_bits
of_bits-ext zero g h e = refl
of_bits-ext (suc n) g h e =
    rw (
      of_bits-ext n (λ i. g (suc i)) (λ i. h (suc i)) (λ i l. e (suc i) (omega arith)),
      e 0 (omega arith),
    )

pub has-of_bits : (n : ℕ) (g : ℕ → Bool) (i : ℕ) → i < n → has (of_bits n g) i ≡ g i
unfolding of_bits
has-of_bits zero g i l = absurd (not-suc-le-zero l)
has-of_bits (suc n) g zero l = has_last (of_bits n (λ j. g (suc j))) (g 0)
has-of_bits (suc n) g (suc i) l =
    has-next (of_bits n (λ j. g (suc j))) i (g 0) ∙ has-of_bits n (λ j. g (suc j)) i (omega arith)

odd-mod : (x y : ℕ) → odd x ≡ odd y → x % 2 ≡ y % 2
odd-mod x y e = num-odd x ∙ ap num e ∙ sym (num-odd y)

-- a number is its bits
pub same_number : (n x y : ℕ) → x < 2 ^ n → y < 2 ^ n → ((i : ℕ) → i < n → has x i ≡ has y i) → x ≡ y
same_number zero x y p q h = omega arith
same_number (suc n) x y p q h =
    let high =
    same_number n (x / 2) (y / 2) (omega arith) (omega arith)
    (λ i l. sym (has-suc x i) ∙ h (suc i) (omega arith) ∙ has-suc y i) in
    let low = odd-mod x y (sym (has-zero x) ∙ h 0 (omega arith) ∙ has-zero y) in
    omega arith

-- clearing bits never raises a number, and clearing one that was set lowers it
num-mono : (x y : Bool) → (y ≡ false → x ≡ false) → num x ≤ num y
num-mono true true h = omega arith
num-mono true false h = clash refl (h refl)
num-mono false true h = omega arith
num-mono false false h = omega arith

pub of_bits-mono : (k : ℕ) (g h : ℕ → Bool) → ((j : ℕ) → j < k → h j ≡ false → g j ≡ false)
    → of_bits k g ≤ of_bits k h
unfolding of_bits
of_bits-mono zero g h e = omega arith
of_bits-mono (suc k) g h e =
    omega (
      arith,
      of_bits-mono k (λ i. g (suc i)) (λ i. h (suc i)) (λ j l. e (suc j) (omega arith)),
      num-mono (g 0) (h 0) (e 0 (omega arith)),
    )

min-num : (x y : Bool) → min (num x) (num y) ≡ num (x && y)
min-num true true = omega arith
min-num true false = omega arith
min-num false true = omega arith
min-num false false = omega arith

max-num : (x y : Bool) → max (num x) (num y) ≡ num (x || y)
max-num true true = omega arith
max-num true false = omega arith
max-num false true = omega arith
max-num false false = omega arith

-- an operation on numbers that does `low` to their last bits does `test` to every bit
module _ (by low : ℕ → ℕ → ℕ) (test : Bool → Bool → Bool)
    (step : (a b : ℕ) → by a b ≡ by (a / 2) (b / 2) * 2 + low (a % 2) (b % 2))
    (shift : (a b i : ℕ) → by a b / 2 ^ i ≡ by (a / 2 ^ i) (b / 2 ^ i))
    (low-num : (x y : Bool) → low (num x) (num y) ≡ num (test x y)) where
  odd-by : (a b : ℕ) → odd (by a b) ≡ test (odd a) (odd b)
  odd-by a b =
      let last = ap₂ low (num-odd a) (num-odd b) ∙ low-num (odd a) (odd b) in
      rw (step a b, last) (odd-num (by (a / 2) (b / 2)) (test (odd a) (odd b)))

  has-by : (a b i : ℕ) → has (by a b) i ≡ test (has a i) (has b i)
  unfolding has
  has-by a b i = ap odd (shift a b i) ∙ odd-by (a / 2 ^ i) (b / 2 ^ i)

pub has-and : (a b i : ℕ) → has (bit_and a b) i ≡ (has a i && has b i)
has-and = has-by bit_and min ◌&&◌ and_step and_shr min-num

pub has-or : (a b i : ℕ) → has (bit_or a b) i ≡ (has a i || has b i)
has-or = has-by bit_or max ◌||◌ or_step or_shr max-num

-- `1 << k`
pub has-pow : (k j : ℕ) → has (2 ^ k) j ≡ eqb j k
has-pow zero zero = has-zero 1
has-pow zero (suc j) = has-suc 1 j ∙ has-of-0 j ∙ sym (eqb-suc-zero j)
has-pow (suc k) zero =
    let e : 2 ^ suc k % 2 ≡ 0 = omega arith in
    has-zero (2 ^ suc k) ∙ odd_is (2 ^ suc k) false e ∙ sym (eqb-zero-suc k)
has-pow (suc k) (suc j) =
    let e : 2 ^ suc k / 2 ≡ 2 ^ k = omega arith in
    has-suc (2 ^ suc k) j ∙ ap (λ (x : ℕ). has x j) e ∙ has-pow k j ∙ sym (eqb-suc-suc j k)

pub has-set : (m k j : ℕ) → has (bit_or m (2 ^ k)) j ≡ (has m j || eqb j k)
has-set m k j = has-or m (2 ^ k) j ∙ ap (λ (v : Bool). has m j || v) (has-pow k j)

-- a remainder by 2 ^ k has the k low bits
pub bit-low : (k x i : ℕ) → i < k → bit (x % 2 ^ k) i ≡ bit x i
bit-low k x i l =
    let j = k - i - 1 in
    let e : k ≡ j + 1 + i = omega arith in
    rw e (rw (field x (j + 1) i) (mod-mod-pow (x / 2 ^ i) j 1))

pub has-low : (k x i : ℕ) → i < k → has (x % 2 ^ k) i ≡ has x i
unfolding has
has-low k x i l = ap (λ (y : ℕ). eqb y 1) (bit-low k x i l)

-- a bit moved up by k
pub has-moved : (b : Bool) (k j : ℕ) → has (num b * 2 ^ k) j ≡ (eqb j k && b)
has-moved true k j = let e : 1 * 2 ^ k ≡ 2 ^ k = omega arith in rw (e, has-pow k j) (sym (and-true (eqb j k)))
has-moved false k j =
    let e : 0 * 2 ^ k ≡ 0 = omega arith in
    ap (λ (x : ℕ). has x j) e ∙ has-of-0 j ∙ sym (and-false (eqb j k))
