-- The marks of a row cover that row and no other. Assumes nothing.
use mathlib.Core.Path.{◌≡◌, refl, sym, ap, ◌∙◌}
use mathlib.Core.Bool.{true}
use Prim.Native.Nat.{ℕ, zero, suc, ◌+◌, ◌^◌, ◌<◌}
use native.Mathlib.Omega.{arith}
use lib.Dec.{eqb}
use lib.ListN.{length}
use borrow.Author.Tests.{lt-ltb, eq-eqb, ne_eqb, eqb-true}
use Rattle.bits.specs.Bits.{bit, has}
use Rattle.bits.specs.Tests.{every}
use Rattle.bits.proofs.TestLaws.{both_left, both_right, same_test}
use Rattle.bits.proofs.BitLaws.{same_number}
use Rattle.marks.specs.Marks.{digit_of, is_mark, agrees, covers_from, covers}
use Rattle.layout.specs.Written.{row_marks}
use Rattle.words.proofs.PlainLaws.{plain}

pub marks-length : (r i count : ℕ) → length (row_marks r i count) ≡ count
unfolding row_marks
marks-length r i zero = refl
marks-length r i (suc count) = ap suc (marks-length r (suc i) count)

pub marks-plain : (r i count : ℕ) → every plain (row_marks r i count) ≡ true
unfolding row_marks
marks-plain r i zero = refl
marks-plain r i (suc count) =
    rw (lt-ltb 35 (48 + bit r i) (omega arith)) (marks-plain r (suc i) count)

digit-mark : (v : ℕ) → v < 2 → is_mark (digit_of v) ≡ true
digit-mark zero l = refl
digit-mark (suc zero) l = refl
digit-mark (suc (suc v)) l = absurd (omega arith)

pub marks-marks : (r i count : ℕ) → every is_mark (row_marks r i count) ≡ true
unfolding row_marks
marks-marks r i zero = refl
marks-marks r i (suc count) = rw (digit-mark (bit r i) (omega arith)) (marks-marks r (suc i) count)

digit-agrees : (v w : ℕ) → agrees (digit_of v) w ≡ eqb v w
digit-agrees v w =
    rw (ne_eqb (48 + v) 45 (omega arith))
    (same_test (eqb (48 + v) (48 + w)) (eqb v w)
    (λ e. let same = eqb-true (48 + v) (48 + w) e in eq-eqb v w (omega arith))
    (λ e. let same = eqb-true v w e in eq-eqb (48 + v) (48 + w) (omega arith)))

pub covers-own : (r i count : ℕ) → covers_from i (row_marks r i count) r ≡ true
unfolding row_marks covers_from
covers-own r i zero = refl
covers-own r i (suc count) =
    rw (digit-agrees (bit r i) (bit r i), eq-eqb (bit r i) (bit r i) refl) (covers-own r (suc i) count)

-- marks that cover a row have its bits
covered-bit : (q r i count : ℕ) → covers_from i (row_marks q i count) r ≡ true
    → (k : ℕ) → k < count → bit q (k + i) ≡ bit r (k + i)
unfolding row_marks covers_from
covered-bit q r i zero h k l = absurd (omega arith)
covered-bit q r i (suc count) h zero l =
    let here = both_left (agrees (digit_of (bit q i)) (bit r i)) _ h in
    let e : 0 + i ≡ i = omega arith in
    rw e (eqb-true (bit q i) (bit r i) (sym (digit-agrees (bit q i) (bit r i)) ∙ here))
covered-bit q r i (suc count) h (suc k) l =
    let later = both_right (agrees (digit_of (bit q i)) (bit r i)) _ h in
    let e : suc k + i ≡ k + suc i = omega arith in
    rw e (covered-bit q r (suc i) count later k (omega arith))

same_row : (n q r : ℕ) → q < 2 ^ n → r < 2 ^ n → covers (row_marks q 0 n) r ≡ true → q ≡ r
unfolding has
same_row n q r l m h =
    same_number n q r l m
    (λ k below.
    let e : k + 0 ≡ k = omega arith in
    ap (λ (v : ℕ). eqb v 1) (rw e at (covered-bit q r 0 n h k below)))

pub covers-row : (n q r : ℕ) → q < 2 ^ n → r < 2 ^ n → covers (row_marks q 0 n) r ≡ eqb q r
covers-row n q r l m =
    same_test (covers (row_marks q 0 n) r) (eqb q r) (λ h. eq-eqb q r (same_row n q r l m h))
    (λ e. rw (eqb-true q r e) (covers-own r 0 n))
