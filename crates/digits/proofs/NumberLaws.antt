-- A number read digit by digit. Assumes nothing.
use Rattle.std.specs.Prelude.{None, Some}
use mathlib.Core.Path.{◌≡◌, refl, sym, ap, ◌∙◌}
use mathlib.Core.Bool.{true, false, and-false}
use mathlib.Core.List.{[], ◌∷◌}
use Prim.Native.Nat.{ℕ, ◌+◌, ◌-◌, ◌*◌, ◌<◌, ◌≤◌, min}
use native.Mathlib.Nat.{min-eq_left}
use native.Mathlib.Numerals.{add-one}
use native.Mathlib.Omega.{arith}
use lib.Dec.{leb}
use lib.ListN.{length, get_or, drop, drop_of_length-le}
use lib.Seq.{drop-cons}
use borrow.Author.Tests.{lt-ltb, leb-true, leb-false}
use Rattle.bits.specs.Tests.{every}
use Rattle.bits.proofs.SearchLaws.{byBool}
use Rattle.bits.proofs.TestLaws.{both_left}
use Rattle.words.specs.Text.{Word}
use Rattle.words.proofs.ByteLaws.{every-on, every-stop, every-end}
use Rattle.digits.specs.Spelled.{within, is_digit, decimal_told, is_number, number_after, number_in, spelled_number, most_number}

pub within-from : (low high c : ℕ) → within low high c ≡ true → low ≤ c
within-from low high c inside = leb-true low c (both_left (leb low c) (leb c high) inside)

-- what is told of a byte says whether it is a digit
pub digit_told : (c d : ℕ) → Some d ≡ decimal_told c → (is_digit c ≡ true) × (d ≡ c - 48)
digit_told c d e = byBool (is_digit c) (λ is. (is, (let h = rw is at e in cc))) (λ no. (let h = rw no at e in cc))

pub digit_untold : (c : ℕ) → None ≡ decimal_told c → is_digit c ≡ false
digit_untold c e = byBool (is_digit c) (λ is. (let h = rw is at e in cc)) (λ no. no)

-- digits only add to a number
number-grows : (word : Word) (x : ℕ) → x ≤ number_after x word
unfolding number_after
number-grows [] x = omega arith
number-grows (c ∷ word) x = let rest = number-grows word (x * 10 + (c - 48)) in omega arith

-- so a number that is cut on the way is cut alike in the end
number_cut : (word : Word) (x most : ℕ)
    → min (number_after (min x most) word) most ≡ min (number_after x word) most
number_cut word x most =
    byBool (leb x most)
    (λ e. rw (min-eq_left {n = x} {m = most} (leb-true x most e)))
    (λ e.
    let over = leb-false x most e in
    let cut : min x most ≡ most = omega arith in
    rw cut (omega (arith, number-grows word most, number-grows word x)))

-- the bytes from i on are left to read: they decide whether it is a number, and which
pub record Reading (word : Word) (most value i : ℕ) : Type 0 where
  pub small : value ≤ most
  pub digits : every is_digit (drop i word) ≡ every is_digit word
  pub number : min (number_after value (drop i word)) most ≡ min (number_in word) most

pub reading-turn : (word : Word) (most value i next : ℕ) → Reading word most value i → i < length word
    → is_digit (get_or word i 0) ≡ true → next ≡ min (value * 10 + (get_or word i 0 - 48)) most
    → Reading word most next (i + 1)
unfolding number_after
reading-turn word most value i next reading l digit told =
    let c = get_or word i 0 in
    record {
      small = omega arith;
      digits = every-on is_digit word i l digit ∙ reading.digits;
      number =
          rw (told, number_cut (drop (i + 1) word) (value * 10 + (c - 48)) most)
          (ap (λ (n : ℕ). min n most) (rw (drop-cons word i 0 l, add-one i) refl) ∙ reading.number);
    }

-- a byte that is no digit
pub spells-none : (word : Word) (value i : ℕ) → Reading word most_number value i → i < length word
    → is_digit (get_or word i 0) ≡ false → None ≡ spelled_number word
unfolding spelled_number is_number
spells-none word value i reading l other =
    rw (sym reading.digits ∙ every-stop is_digit word i l other, and-false)

pub spells-empty : (word : Word) → length word ≡ 0 → None ≡ spelled_number word
unfolding spelled_number is_number
spells-empty word none = rw none

-- no byte is left
pub spells-number : (word : Word) (value i : ℕ) → Reading word most_number value i → length word ≤ i
    → (length word ≡ 0 → ⊥) → Some value ≡ spelled_number word
unfolding spelled_number is_number number_after
spells-number word value i reading over some =
    let none : drop i word ≡ [] = drop_of_length-le word over in
    let digits : every is_digit word ≡ true = sym reading.digits ∙ every-end is_digit word i over in
    let read : min value most_number ≡ min (number_in word) most_number = rw none at reading.number in
    let same : value ≡ min (number_in word) most_number = omega (arith, read, reading.small) in
    rw (lt-ltb 0 (length word) (omega arith), digits) (ap Some same)
