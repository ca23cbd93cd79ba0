-- Sets of numbers as masks, number v in bit v: one number alone, all others, a part, one number more.
-- Assumes nothing.
use mathlib.Core.Path.{◌≡◌, refl, sym, ap, ◌∙◌}
use mathlib.Core.Bool.{Bool, true, false, not, ◌&&◌, and_comm, or-false}
use Prim.Native.Nat.{ℕ, zero, suc, ◌+◌, ◌-◌, ◌*◌, ◌/◌, ◌%◌, ◌^◌, ◌<◌, ◌≤◌}
use native.Mathlib.Nat.{not-suc-le-zero, mod-lt}
use native.Mathlib.Numerals.{add-one}
use native.Mathlib.Omega.{arith}
use lib.Bits.{bit_and, bit_or, or_lt}
use lib.Dec.{eqb, ltb}
use lib.Pow.{pow_pos, pow_mono, shl_exact}
use borrow.Author.Tests.{eq-eqb, ne_eqb, eqb-true, eqb-false, ltb-true, ltb-false}
use Rattle.bits.specs.Bits.{has, of_bits}
use Rattle.bits.proofs.SearchLaws.{byBool}
use Rattle.bits.proofs.BitLaws.{has-zero, has-suc, has-high, has-low, has-and, has-set}
use Rattle.bits.proofs.BitLaws.{has-of_bits, of_bits-lt, of_bits-mono, same_number}

-- `1 << k`
pub one_shifted : (k w : ℕ) → k < w → (1 * 2 ^ k) % 2 ^ w ≡ 2 ^ k
one_shifted k w l =
    let one : 1 * 2 ^ k ≡ 2 ^ k = omega arith in
    shl_exact 1 k w (omega arith) (omega arith) ∙ one

odd-complement : (n x : ℕ) → x < 2 ^ suc n → eqb ((2 ^ suc n - 1 - x) % 2) 1 ≡ not (eqb (x % 2) 1)
odd-complement n x l =
    byBool (eqb (x % 2) 1)
    (λ e. let o = eqb-true (x % 2) 1 e in rw e (ne_eqb ((2 ^ suc n - 1 - x) % 2) 1 (omega arith)))
    (λ e. let z = eqb-false (x % 2) 1 e in rw e (eq-eqb ((2 ^ suc n - 1 - x) % 2) 1 (omega arith)))

pub has-complement : (n x i : ℕ) → x < 2 ^ n → i < n → has (2 ^ n - 1 - x) i ≡ not (has x i)
has-complement zero x i l m = absurd (not-suc-le-zero m)
has-complement (suc n) x zero l m =
    has-zero (2 ^ suc n - 1 - x) ∙ odd-complement n x l ∙ ap not (sym (has-zero x))
has-complement (suc n) x (suc i) l m =
    let half : (2 ^ suc n - 1 - x) / 2 ≡ 2 ^ n - 1 - x / 2 = omega arith in
    has-suc (2 ^ suc n - 1 - x) i
    ∙ ap (λ (y : ℕ). has y i) half
    ∙ has-complement n (x / 2) i (omega arith) (omega arith)
    ∙ ap not (sym (has-suc x i))

-- the numbers below n of r that the mask keeps
pub masked_row : (n r mask : ℕ) (kept : ℕ → Bool) → bit_and r mask < 2 ^ n
    → ((v : ℕ) → v < n → has mask v ≡ kept v)
    → bit_and r mask ≡ of_bits n (λ v. kept v && has r v)
masked_row n r mask kept l same =
    same_number n (bit_and r mask) (of_bits n (λ v. kept v && has r v)) l
    (of_bits-lt n (λ v. kept v && has r v))
    (λ v m.
    has-and r mask v
    ∙ ap (λ (b : Bool). has r v && b) (same v m)
    ∙ and_comm (has r v) (kept v)
    ∙ sym (has-of_bits n (λ v. kept v && has r v) v m))

-- a number whose bits are among those of z is at most z
pub bits-le : (k : ℕ) (g : ℕ → Bool) (z : ℕ) → z < 2 ^ k
    → ((j : ℕ) → j < k → has z j ≡ false → g j ≡ false) → of_bits k g ≤ z
bits-le k g z l h =
    let whole = same_number k (of_bits k (has z)) z (of_bits-lt k (has z)) l (has-of_bits k (has z)) in
    let le = of_bits-mono k g (has z) h in
    omega arith

-- a set without numbers from n on is below 2 ^ n
pub low-set : (n k x : ℕ) → n ≤ k → x < 2 ^ k → ((v : ℕ) → n ≤ v → v < k → has x v ≡ false) → x < 2 ^ n
low-set n k x within small none =
    let cut = x % 2 ^ n in
    let below : cut < 2 ^ n = mod-lt x (pow_pos n) in
    let less : cut < 2 ^ k = omega (arith, pow_mono {i = n} {j = k} within) in
    let same : x ≡ cut =
    same_number k x cut small less
    (λ v l.
    byBool (ltb v n) (λ e. sym (has-low n x v (ltb-true v n e)))
    (λ e.
    none v (ltb-false v n e) l ∙ sym (has-high n cut v below (ltb-false v n e)))) in
    rw same below

-- the numbers up to k, from those below k
module _ (k : ℕ) (g : ℕ → Bool) where
  longer : (x : ℕ) → x < 2 ^ suc k → ((i : ℕ) → i < k → has x i ≡ g i) → has x k ≡ g k
      → x ≡ of_bits (k + 1) g
  longer x l low last =
      rw (add-one k)
      (same_number (suc k) x (of_bits (suc k) g) l (of_bits-lt (suc k) g)
      (λ i m.
      byBool (eqb i k)
      (λ e.
      let same = eqb-true i k e in rw same (last ∙ sym (has-of_bits (suc k) g k (omega arith))))
      (λ e.
      let other = eqb-false i k e in
      low i (omega arith) ∙ sym (has-of_bits (suc k) g i m))))

  last_none : has (of_bits k g) k ≡ false
  last_none = has-high k (of_bits k g) k (of_bits-lt k g) (omega arith)

  pub with-last : g k ≡ true → bit_or (of_bits k g) (2 ^ k) ≡ of_bits (k + 1) g
  with-last h =
      let small = of_bits-lt k g in
      longer (bit_or (of_bits k g) (2 ^ k))
      (or_lt (suc k) (of_bits k g) (2 ^ k) (omega arith) (omega arith))
      (λ i l.
      has-set (of_bits k g) k i
      ∙ rw (ne_eqb i k (omega arith), has-of_bits k g i l) (or-false (g i)))
      (has-set (of_bits k g) k k ∙ rw (last_none, eq-eqb k k refl) (sym h))

  pub without-last : g k ≡ false → of_bits k g ≡ of_bits (k + 1) g
  without-last h =
      let small = of_bits-lt k g in
      longer (of_bits k g) (omega arith) (λ i l. has-of_bits k g i l) (last_none ∙ sym h)
