-- Numbers put into a text, by what stands at its start. Assumes nothing.
use mathlib.Core.Path.{◌≡◌, sym, ap, ◌∙◌}
use mathlib.Core.Bool.{Bool}
use mathlib.Core.List.{List, [], ◌∷◌, ◌++◌, append_assoc, append-nil}
use Prim.Native.Nat.{ℕ, ◌+◌, ◌-◌, ◌*◌, ◌/◌, ◌%◌, ◌^◌, ◌<◌, ◌≤◌}
use native.Mathlib.Numerals.{add-one}
use native.Mathlib.Omega.{arith}
use borrow.Rule.Slice.PartMut.{put_mid}
use lib.ListN.{length, take, drop, get_or, length-append, length-drop, drop_of_length-le}
use lib.Seq.{drop-cons, take_at, length-take-le}
use Rattle.block.specs.declared.Refusal.{Refusal}
use Rattle.block.specs.Refusal.{number_of}
use Rattle.block.proofs.RefusalLaws.{two_digits}
use Rattle.digits.specs.Digits.{digit_code, hexadecimal, decimal, Aligns}
use Rattle.digits.proofs.DigitLaws.{hexadecimal-length, decimal-short, decimal-u64, aligns-column, column-exact}
use Rattle.text.specs.Line.{placed_line, count_line}

-- a number in the part that it fills
pub number_put : (text made : List ℕ) (at end x : ℕ) (r : Bool) → end ≡ at + length (decimal x)
    → end ≤ length text → Aligns x (take (end - at) (drop at text)) made r
    → take end (put_mid at (end - at) text made) ≡ take at text ++ decimal x
number_put text made at end x r is room aligned =
    let size : end - at ≡ length (decimal x) = omega arith in
    let part : length (take (end - at) (drop at text)) ≡ length (decimal x) =
    length-take-le (end - at) (drop at text) (omega (arith, length-drop at text)) ∙ size in
    let whole : made ≡ decimal x =
    aligns-column x _ made r aligned (omega arith) ∙ rw part (column-exact x) in
    let front : length (take at text ++ decimal x) ≡ end =
    length-append (take at text) (decimal x)
    ∙ rw (length-take-le at text (omega arith)) (sym is) in
    rw (whole, ← append_assoc (take at text) (decimal x) _) (take_at (take at text ++ decimal x) _ end front)

-- a number has twenty digits at most, a refusal's two
pub number_few : (x : ℕ) → x < 2 ^ 64 → length (decimal x) ≤ 20
number_few = decimal-u64

pub number_short : (k : Refusal) → length (decimal (number_of k)) ≤ 2
number_short k = decimal-short 1 (number_of k) (omega (arith, two_digits k))

-- the longest of these lines: a number of two digits, and a place or a count of twenty
pub placed-length : (k : Refusal) (place : ℕ) → place < 2 ^ 64 → length (placed_line (number_of k) place) ≤ 26
unfolding placed_line
placed-length k place fits =
    let number = number_short k in
    let digits = decimal-u64 place fits in
    simp length-append (omega arith)

pub count-length : (count : ℕ) → count < 2 ^ 64 → length (count_line count) ≤ 26
unfolding count_line
count-length count fits = let digits = decimal-u64 count fits in simp length-append (omega arith)

-- what is in use of a buffer
pub taken_length : (bytes made : List ℕ) (used : ℕ) → take used bytes ≡ made → used ≤ length bytes → length made ≡ used
taken_length bytes made used is within = rw (← is) (length-take-le used bytes within)

-- capitals of the bytes from place i on are still to come
module _ (made line s : List ℕ) (i : ℕ) (so_far : made ++ hexadecimal (drop i s) ≡ line ++ hexadecimal s) where
  pub capitals-room : length line + 2 * length s ≡ length made + 2 * (length s - i)
  capitals-room =
      let parts = length-append made (hexadecimal (drop i s)) in
      let whole = length-append line (hexadecimal s) in
      let all = ap length so_far in
      omega (arith, hexadecimal-length s, hexadecimal-length (drop i s), length-drop i s)

  pub capitals-next : (high low : ℕ) → i < length s → high ≡ digit_code (get_or s i 0 / 16 % 16)
      → low ≡ digit_code (get_or s i 0 % 16)
      → ((made ++ (high ∷ [])) ++ (low ∷ [])) ++ hexadecimal (drop (i + 1) s) ≡ line ++ hexadecimal s
  unfolding hexadecimal
  capitals-next high low l e f =
      rw (append_assoc (made ++ (high ∷ [])) (low ∷ []) _, append_assoc made (high ∷ []) _, e, f, add-one i)
      (rw (drop-cons s i 0 l) at so_far)

  pub capitals-all : length s ≤ i → made ≡ line ++ hexadecimal s
  unfolding hexadecimal
  capitals-all l = rw (drop_of_length-le s l, append-nil made) at so_far
