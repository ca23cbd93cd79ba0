-- A number put into its column from the last digit on. Assumes nothing.
use mathlib.Core.Path.{◌≡◌, refl, sym, ap, ◌∙◌}
use mathlib.Core.Bool.{Bool, true, false, ◌||◌, or-true}
use mathlib.Core.List.{List, [], ◌∷◌, ◌++◌, append-nil, append_assoc}
use Prim.Native.Nat.{ℕ, zero, suc, ◌+◌, ◌-◌, ◌/◌, ◌%◌, ◌<◌, ◌≤◌}
use native.Mathlib.Omega.{arith}
use lib.Dec.{eqb, ltb}
use lib.ListN.{length, drop, take, set, replicate, length-append, length-set}
use lib.Seq.{append_snoc, set_split, drop_at, drop-length, length-take-le}
use borrow.Author.Tests.{lt-ltb, ltb-true, ltb-false, le-leb, eq-eqb, ne_eqb}
use Rattle.bits.specs.Tests.{pick}
use Rattle.bits.proofs.SearchLaws.{byBool}
use Rattle.words.specs.Text.{blank}
use Rattle.digits.specs.Digits.{digit_code, decimal, column, Aligns}
use Rattle.digits.proofs.DigitLaws.{decimal-one, decimal-more, column-length}

-- the last byte of a column, where x is left of the number: a blank where nothing is and a digit
-- stands after it
abbrev pub symbol_of : (last : Bool) (x : ℕ) → ℕ
symbol_of last x = pick (last || ltb 0 x) (digit_code (x % 10)) blank

-- what stands in the first w bytes
unfoldable pub column_of : (last : Bool) (w x : ℕ) → List ℕ
column_of last w x = pick (last || ltb 0 x) (column w x) (replicate w blank)

blanks-more : (w : ℕ) → replicate (suc w) blank ≡ replicate w blank ++ (blank ∷ [])
blanks-more zero = refl
blanks-more (suc w) = ap (λ (s : List ℕ). blank ∷ s) (blanks-more w)

column-one : (w x : ℕ) → x < 10 → column (suc w) x ≡ replicate w blank ++ (digit_code (x % 10) ∷ [])
unfolding column
column-one w x small =
    let same : x % 10 ≡ x = omega arith in
    let less : suc w - 1 ≡ w = omega arith in
    rw (decimal-one x small, same, less)

column-more : (w x : ℕ) → 10 ≤ x → column (suc w) x ≡ column w (x / 10) ++ (digit_code (x % 10) ∷ [])
unfolding column
column-more w x large =
    let last = digit_code (x % 10) ∷ [] in
    let front = decimal (x / 10) in
    let less : suc w - length (front ++ last) ≡ w - length front =
    omega (arith, length-append front last) in
    rw (decimal-more x large, less) (sym (append_assoc (replicate (w - length front) blank) front last))

-- the last byte, and what stands before it
column_of-more : (last : Bool) (w x : ℕ)
    → column_of last (suc w) x ≡ column_of false w (x / 10) ++ (symbol_of last x ∷ [])
unfolding column_of
column_of-more last w x =
    byBool (ltb x 10)
    (λ e.
    let small = ltb-true x 10 e in
    let none : x / 10 ≡ 0 = omega arith in
    rw none
    (byBool (last || ltb 0 x) (λ d. rw d (column-one w x small)) (λ d. rw d (blanks-more w))))
    (λ e.
    let large = ltb-false x 10 e in
    rw (lt-ltb 0 x (omega arith), lt-ltb 0 (x / 10) (omega arith), or-true last) (column-more w x large))

drop-set : (s : List ℕ) (i a : ℕ) → i < length s → drop i (set s i a) ≡ a ∷ drop (suc i) s
drop-set s i a l =
    rw (set_split s i a l)
    (drop_at (take i s) (a ∷ drop (suc i) s) i (length-take-le i s (omega arith)))

empty-is : (s : List ℕ) → length s ≡ 0 → s ≡ []
empty-is [] none = refl
empty-is (x ∷ s) none = absurd (omega arith)

-- the bytes from `at` on are in place
pub record Placed (x at rest : ℕ) (before out : List ℕ) : Type 0 where
  pub within : at ≤ length before
  pub long : length out ≡ length before
  pub so_far : column (length before) x ≡ column_of (eqb at (length before)) at rest ++ drop at out

pub placed-start : (x : ℕ) (out : List ℕ) → Placed x (length out) x out out
unfolding column_of
placed-start x out =
    record {
      within = omega arith;
      long = refl;
      so_far =
          rw (eq-eqb (length out) (length out) refl, drop-length out)
          (sym (append-nil (column (length out) x)));
    }

pub placed-turn : (x at rest : ℕ) (before out : List ℕ) (symbol : ℕ) → Placed x at rest before out
    → 0 < at → symbol ≡ symbol_of (eqb at (length out)) rest
    → Placed x (at - 1) (rest / 10) before (set out (at - 1) symbol)
placed-turn x zero rest before out symbol w some told = absurd (omega arith)
placed-turn x (suc at) rest before out symbol w some told =
    let n = length before in
    let back : suc at - 1 ≡ at = omega arith in
    let other : eqb at n ≡ false = ne_eqb at n (λ e. omega arith) in
    let here : symbol ≡ symbol_of (eqb (suc at) n) rest = rw w.long at told in
    rw back
    (record {
      within = omega arith;
      long = simp length-set w.long;
      so_far =
          rw (other, drop-set out at symbol (omega arith))
          (w.so_far
          ∙ rw (column_of-more (eqb (suc at) n) at rest, ← here)
          (append_snoc (column_of false at (rest / 10)) symbol (drop (suc at) out)));
    })

pub placed_end : (x at rest : ℕ) (before out : List ℕ) → Placed x at rest before out → at ≤ 0
    → length (decimal x) ≤ length before → Aligns x before out true
placed_end x zero rest before out w done room =
    let n = length before in
    let front = column_of (eqb 0 n) 0 rest in
    let sizes : length (column n x) ≡ length front + length out =
    ap length w.so_far ∙ length-append front out in
    let none : front ≡ [] = empty-is front (omega (arith, column-length n x room, w.long)) in
    record {
      told = sym (le-leb (length (decimal x)) n room);
      kept = rw (le-leb (length (decimal x)) n room) (sym (w.so_far ∙ rw none));
    }
placed_end x (suc at) rest before out w done room = absurd (omega arith)
