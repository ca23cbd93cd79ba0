-- Marks in a row: one mark more, and the marks of a word's rows apart from those of the words. Assumes
-- nothing.
use mathlib.Core.Path.{◌≡◌, refl, sym, ap, ap₂, ◌∙◌}
use mathlib.Core.Bool.{Bool, ◌&&◌, and_assoc, and-true}
use mathlib.Core.List.{List, [], ◌∷◌, ◌++◌}
use Prim.Native.Nat.{ℕ, suc, ◌+◌, ◌-◌, ◌/◌, ◌%◌, ◌^◌, ◌<◌, ◌≤◌}
use native.Mathlib.Numerals.{add-one}
use native.Mathlib.Omega.{arith}
use lib.Bits.{bit_and}
use lib.Dec.{ltb}
use lib.Pow.{shr-shr}
use lib.ListN.{length, take, drop, get_or, take-append-drop, length-take, length-drop, drop_of_length-le}
use lib.Seq.{take-suc, take_all, length-take-le}
use borrow.Author.Tests.{ltb-true, ltb-false}
use Rattle.bits.specs.Bits.{of_rows}
use Rattle.bits.proofs.SearchLaws.{byBool}
use Rattle.bits.proofs.BitLaws.{bit-low}
use Rattle.bits.proofs.RowLaws.{of_rows-ext}
use Rattle.block.specs.Table.{variable_at}
use Rattle.marks.specs.Marks.{agrees, covers_from, covers}
use Rattle.marks.proofs.MaskLaws.{of_rows-and, of_rows-all}

pub covers-append : (i : ℕ) (xs ys : List ℕ) (r : ℕ)
    → covers_from i (xs ++ ys) r ≡ covers_from i xs r && covers_from (i + length xs) ys r
unfolding covers_from
covers-append i [] ys r = let e : i + 0 ≡ i = omega arith in rw e
covers-append i (x ∷ xs) ys r =
    let e : i + suc (length xs) ≡ suc i + length xs = omega arith in
    rw (e, covers-append (suc i) xs ys r) (sym (and_assoc (agrees x (variable_at r i)) _ _))

-- one mark more
pub covers_more : (marks : List ℕ) (i r : ℕ) → i < length marks
    → covers (take (i + 1) marks) r
    ≡ covers (take i marks) r && agrees (get_or marks i 0) (variable_at r i)
unfolding covers_from
covers_more marks i r l =
    let before : 0 + length (take i marks) ≡ i = omega (arith, length-take-le i marks (omega arith)) in
    rw (add-one i, take-suc marks i 0 l)
    (covers-append 0 (take i marks) (get_or marks i 0 ∷ []) r
    ∙ rw before (ap (λ (b : Bool). covers (take i marks) r && b) (and-true _)))

-- as the code takes marks in, 64 rows at once
pub rows_start : (marks : List ℕ) → 2 ^ 64 - 1 ≡ of_rows 64 (covers (take 0 marks))
unfolding covers_from
rows_start marks = sym (of_rows-all 64)

pub rows_more : (marks : List ℕ) (i : ℕ) → i < length marks
    → bit_and (of_rows 64 (covers (take i marks)))
    (of_rows 64 (λ e. agrees (get_or marks i 0) (variable_at e i)))
    ≡ of_rows 64 (covers (take (i + 1) marks))
rows_more marks i l =
    of_rows-and 64 (covers (take i marks)) (λ e. agrees (get_or marks i 0) (variable_at e i))
    ∙ of_rows-ext 64 _ (covers (take (i + 1) marks)) (λ e m. sym (covers_more marks i e l))

-- the variables 0 to 5 of row r are those of its row in the word, the others those of the word
low-variable : (r i : ℕ) → i < 6 → variable_at r i ≡ variable_at (r % 64) i
low-variable r i l = sym (bit-low 6 r i l)

high-variable : (r i : ℕ) → variable_at r (6 + i) ≡ variable_at (r / 64) i
high-variable r i = ap (λ (x : ℕ). x % 2) (sym (shr-shr r 6 i))

low-covers : (i : ℕ) (marks : List ℕ) (r : ℕ) → i + length marks ≤ 6
    → covers_from i marks r ≡ covers_from i marks (r % 64)
unfolding covers_from
low-covers i [] r l = refl
low-covers i (mark ∷ marks) r l =
    ap₂ ◌&&◌ (ap (agrees mark) (low-variable r i (omega arith)))
    (low-covers (suc i) marks r (omega arith))

high-covers : (i : ℕ) (marks : List ℕ) (r : ℕ)
    → covers_from (6 + i) marks r ≡ covers_from i marks (r / 64)
unfolding covers_from
high-covers i [] r = refl
high-covers i (mark ∷ marks) r =
    let e : suc (6 + i) ≡ 6 + suc i = omega arith in
    rw e (ap₂ ◌&&◌ (ap (agrees mark) (high-variable r i)) (high-covers (suc i) marks r))

-- the marks after the first six, as those of the words
rest-covers : (marks : List ℕ) (r : ℕ)
    → covers_from (0 + length (take 6 marks)) (drop 6 marks) r ≡ covers (drop 6 marks) (r / 64)
unfolding covers_from
rest-covers marks r =
    byBool (ltb (length marks) 6)
    (λ e.
    let short = ltb-true (length marks) 6 e in
    rw (drop_of_length-le marks {i = 6} (omega arith)) refl)
    (λ e.
    let long = ltb-false (length marks) 6 e in
    let six : 0 + length (take 6 marks) ≡ 6 + 0 = omega (arith, length-take-le 6 marks long) in
    rw six (high-covers 0 (drop 6 marks) r))

pub covers-split : (marks : List ℕ) (r : ℕ) → length marks ≤ 9
    → covers (take 6 marks) (r % 64) && covers (take 6 (drop 6 marks)) (r / 64) ≡ covers marks r
covers-split marks r few =
    let all : take 6 (drop 6 marks) ≡ drop 6 marks =
    take_all 6 (drop 6 marks) (simp length-drop (omega arith)) in
    let low = low-covers 0 (take 6 marks) r (simp length-take (omega arith)) in
    let parts = rw (take-append-drop 6 marks) at (covers-append 0 (take 6 marks) (drop 6 marks) r) in
    rw all (sym (parts ∙ ap₂ ◌&&◌ low (rest-covers marks r)))
