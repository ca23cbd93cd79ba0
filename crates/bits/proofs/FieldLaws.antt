-- Fields of four bits into bytes and numbers, and out again; lists of four and of ten. Assumes nothing.
use mathlib.Core.Path.{◌≡◌, refl, ap}
use mathlib.Core.List.{List, [], ◌∷◌, ◌++◌}
use Prim.Native.Nat.{ℕ, zero, suc, ◌+◌, ◌*◌, ◌/◌, ◌%◌, ◌^◌, ◌<◌}
use native.Mathlib.Nat.{pow-succ', one-le-pow, add-mul, mul_assoc}
use native.Mathlib.Omega.{arith}
use lib.Arith.{mod-mul}
use lib.Bits.{bit_and, bit_or, and_mask, or_shifted}
use lib.ListN.{length, get_or, drop, drop_of_length-le}
use lib.Pow.{shl_exact}
use lib.Seq.{drop-cons}
use Rattle.bits.specs.Bits.{nibble, joined, split}

-- a field is of four bits
pub field_lt : (x : ℕ) → x % 16 < 16
field_lt x = omega arith

pub nibble-lt : (s : List ℕ) (i : ℕ) → nibble s i < 16
nibble-lt s i = omega arith

-- fields and bytes joined by a shift and `|`: what is shifted has no bit in common with the other
pub joined-fields : (high low : ℕ)
    → bit_or ((bit_and high 15 * 16) % 256) (bit_and low 15) ≡ high % 16 * 16 + low % 16
joined-fields high low =
    let small : high % 16 < 16 = omega arith in
    rw (and_mask high 4, and_mask low 4, shl_exact 4 4 8 small (omega arith))
    (or_shifted (high % 16) 4 (low % 16) (omega arith))

pub joined_bytes : (high low : ℕ) → high < 256 → low < 256
    → bit_or ((high * 256) % 65536) low ≡ high * 256 + low
joined_bytes high low h l = rw (shl_exact 8 8 16 h (omega arith)) (or_shifted high 8 low l)

-- two fields in a byte
pub high-field : (a b : ℕ) → a < 16 → b < 16 → (a * 16 + b) / 16 % 16 ≡ a
high-field a b la lb = omega arith

pub low_field : (a b : ℕ) → b < 16 → (a * 16 + b) / 1 % 16 ≡ b
low_field a b lb = omega arith

-- a byte of its two fields
pub same_byte : (x : ℕ) → x < 256 → x / 16 % 16 * 16 + x / 1 % 16 ≡ x
same_byte x l = omega arith

-- the lowest fields of a number, joined below what stands above them
pub joined-split : (k high x : ℕ) → joined high (split k x) ≡ high * 16 ^ k + x % 16 ^ k
joined-split zero high x = omega arith
joined-split (suc k) high x =
    let p = 16 ^ k in
    let digit = x / p % 16 in
    let above = high * 16 + digit in
    let rest : joined above (split k x) ≡ above * p + x % p = joined-split k above x in
    let top : x % (16 * p) ≡ digit * p + x % p = mod-mul x (omega arith) (one-le-pow k 16 (omega arith)) in
    let sum : above * p ≡ high * (16 * p) + digit * p = rw (add-mul, mul_assoc) in
    rw (pow-succ' 16 k, top) (omega arith)

pub split-four : (a b c d : ℕ) → a < 16 → b < 16 → c < 16 → d < 16
    → split 4 (joined 0 (a ∷ b ∷ c ∷ d ∷ [])) ≡ a ∷ b ∷ c ∷ d ∷ []
split-four a b c d la lb lc ld =
    let first : joined 0 (a ∷ b ∷ c ∷ d ∷ []) / 4096 % 16 ≡ a = omega arith in
    let second : joined 0 (a ∷ b ∷ c ∷ d ∷ []) / 256 % 16 ≡ b = omega arith in
    let third : joined 0 (a ∷ b ∷ c ∷ d ∷ []) / 16 % 16 ≡ c = omega arith in
    let fourth : joined 0 (a ∷ b ∷ c ∷ d ∷ []) / 1 % 16 ≡ d = omega arith in
    rw (first, second, third, fourth)

pub split-two : (a b : ℕ) → a < 16 → b < 16 → split 2 (joined 0 (a ∷ b ∷ [])) ≡ a ∷ b ∷ []
split-two a b la lb = ap (drop 2) (split-four 0 0 a b (omega arith) (omega arith) la lb)

-- lists of four and of ten, element by element
pub four-of : (l : List ℕ) → length l ≡ 4 → l ≡ get_or l 0 0 ∷ get_or l 1 0 ∷ get_or l 2 0 ∷ get_or l 3 0 ∷ []
four-of l n =
    cc (
      drop-cons l 0 0 (omega arith),
      drop-cons l 1 0 (omega arith),
      drop-cons l 2 0 (omega arith),
      drop-cons l 3 0 (omega arith),
      drop_of_length-le l {i = 4} (omega arith),
    )

pub ten-of : (l : List ℕ) → length l ≡ 10
    → l
    ≡ get_or l 0 0 ∷ get_or l 1 0 ∷ get_or l 2 0 ∷ get_or l 3 0 ∷ get_or l 4 0
    ∷ get_or l 5 0 ∷ get_or l 6 0 ∷ get_or l 7 0 ∷ get_or l 8 0 ∷ get_or l 9 0 ∷ []
ten-of l n =
    cc (
      drop-cons l 0 0 (omega arith),
      drop-cons l 1 0 (omega arith),
      drop-cons l 2 0 (omega arith),
      drop-cons l 3 0 (omega arith),
      drop-cons l 4 0 (omega arith),
      drop-cons l 5 0 (omega arith),
      drop-cons l 6 0 (omega arith),
      drop-cons l 7 0 (omega arith),
      drop-cons l 8 0 (omega arith),
      drop-cons l 9 0 (omega arith),
      drop_of_length-le l {i = 10} (omega arith),
    )

pub joined-append : (high : ℕ) (xs ys : List ℕ) → joined high (xs ++ ys) ≡ joined (joined high xs) ys
joined-append high [] ys = refl
joined-append high (x ∷ xs) ys = joined-append (high * 16 + x) xs ys

pub joined-four : (high : ℕ) (l : List ℕ) → length l ≡ 4 → joined high l ≡ high * 65536 + joined 0 l
joined-four high l n = rw (four-of l n) (omega arith)
