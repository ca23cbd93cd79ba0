-- The cover lines of a table: each is a cover line with output `value`, and together they cover exactly
-- the rows at which the table is `value`. Assumes nothing.
use mathlib.Core.Path.{◌≡◌, refl, sym, ap, ◌∙◌}
use mathlib.Core.Bool.{Bool, true, false, not, ◌&&◌, ◌||◌, and-false, or-false, or-true}
use mathlib.Core.List.{List, [], ◌∷◌, Memᴰ}
use mathlib.Core.Logic.{⊎_elim}
use Prim.Native.Nat.{ℕ, zero, suc, ◌+◌, ◌<◌, ◌≤◌}
use native.Mathlib.Omega.{arith}
use lib.Dec.{eqb}
use lib.ListN.{length}
use borrow.Author.Tests.{lt-ltb, eq-eqb, ne_eqb, eqb-true, eqb-false}
use Rattle.bits.specs.Tests.{all, any}
use Rattle.bits.proofs.TestLaws.{same_test}
use Rattle.bits.proofs.SearchLaws.{byBool}
use Rattle.bits.proofs.AnyLaws.{any-in, any_out, any_none, all_in, any-map, all_map, any-ext}
use Rattle.block.specs.Table.{table_rows, table_bit}
use Rattle.words.specs.Text.{Word}
use Rattle.marks.specs.Marks.{digit_of, covers}
use Rattle.blif.specs.Part.{marks_of, output_of, gives, is_cover_line, both_outputs}
use Rattle.blif.specs.Cover.{covered, value_at}
use Rattle.layout.specs.Written.{row_marks, row_line, rows_from, row_lines, HasRow}
use Rattle.layout.proofs.TextLaws.{is_written}
use Rattle.layout.proofs.MarkLaws.{marks-length, marks-plain, marks-marks, covers-row}

-- the line of a row
line-marks : (value n r : ℕ) → marks_of (row_line value n r) ≡ row_marks r 0 n
unfolding row_marks
line-marks value zero r = refl
line-marks value (suc n) r = refl

line-output : (value n r : ℕ) → output_of (row_line value n r) ≡ digit_of value ∷ []
line-output value zero r = refl
line-output value (suc n) r = refl

line_gives : (value n r : ℕ) → gives value (row_line value n r) ≡ true
line_gives value n r = rw (line-output value n r, eq-eqb (digit_of value) (digit_of value) refl)

line_other : (value n r other : ℕ) → (value ≡ other → ⊥) → gives other (row_line value n r) ≡ false
line_other value n r other apart =
    rw (line-output value n r, ne_eqb (digit_of value) (digit_of other) (λ e. apart (omega arith)))

line-fits : (value n r : ℕ) → value < 2
    → gives 1 (row_line value n r) || gives 0 (row_line value n r) ≡ true
line-fits zero n r two = rw (line_gives 0 n r) (or-true (gives 1 (row_line 0 n r)))
line-fits (suc zero) n r two = rw (line_gives 1 n r)
line-fits (suc (suc value)) n r two = absurd (omega arith)

line-covers : (value n r : ℕ) → value < 2 → is_cover_line n (row_line value n r) ≡ true
unfolding is_cover_line
line-covers value zero r two = line-fits value zero r two
line-covers value (suc n) r two =
    rw (
      ne_eqb (suc n) 0 (omega arith),
      eq-eqb (length (row_marks r 0 (suc n))) (suc n) (marks-length r 0 (suc n)),
      marks-marks r 0 (suc n),
    )
    (line-fits value (suc n) r two)

line-written : (value n r : ℕ) → is_written (row_line value n r) ≡ true
line-written value zero r = rw (lt-ltb 35 (48 + value) (omega arith))
line-written value (suc n) r =
    rw (
      marks-length r 0 (suc n),
      lt-ltb 0 (suc n) (omega arith),
      marks-plain r 0 (suc n),
      lt-ltb 35 (48 + value) (omega arith),
    )

-- the rows at which the table is `value`
module _ (value : ℕ) (t : List ℕ) where
  abbrev Has : (below r : ℕ) → Type 0
  Has below r = (r < below) × (table_bit t r ≡ value)

  rows_out : (s count r : ℕ) → Memᴰ r (rows_from value t s count) → Has (s + count) r
  unfolding rows_from
  rows_out s zero r stands = absurd (mathlib.Core.List.Memᴰ.not-nil stands)
  rows_out s (suc count) r stands =
      let e : suc s + count ≡ s + suc count = omega arith in
      let rest : Memᴰ r (rows_from value t (suc s) count) → Has (s + suc count) r =
      λ later. rw e at (rows_out (suc s) count r later) in
      byBool (eqb (table_bit t s) value)
      (λ one.
      let here : table_bit t s ≡ value = eqb-true (table_bit t s) value one in
      ⊎_elim (λ (same : r ≡ s). (omega arith, ap (table_bit t) same ∙ here)) rest
      (mathlib.Core.List.Memᴰ.cases_cons (rw one at stands)))
      (λ other. rest (rw other at stands))

  rows_in : (s count r : ℕ) → s ≤ r → r < s + count → table_bit t r ≡ value
      → Memᴰ r (rows_from value t s count)
  unfolding rows_from
  rows_in s zero r l m one = absurd (omega arith)
  rows_in s (suc count) r l m one =
      byBool (eqb s r)
      (λ e.
      let same = eqb-true s r e in
      rw (eq-eqb (table_bit t s) value (ap (table_bit t) same ∙ one)) (mathlib.Core.List.Memᴰ.head (sym same)))
      (λ e.
      let other = eqb-false s r e in
      let rest = rows_in (suc s) count r (omega arith) (omega arith) one in
      byBool (eqb (table_bit t s) value) (λ h. rw h (mathlib.Core.List.Memᴰ.tail rest)) (λ h. rw h rest))

  stands-row : (rows r : ℕ) → r < rows
      → any (λ q. eqb q r) (rows_from value t 0 rows) ≡ eqb (table_bit t r) value
  stands-row rows r l =
      let listed = rows_from value t 0 rows in
      same_test (any (λ q. eqb q r) listed) (eqb (table_bit t r) value)
      (λ h.
      let found = any_out (λ q. eqb q r) listed h in
      let has = (rows_out 0 rows found.0 found.1).1 in
      eq-eqb (table_bit t r) value (ap (table_bit t) (sym (eqb-true found.0 r found.2)) ∙ has))
      (λ e.
      any-in (λ q. eqb q r) listed r
      (rows_in 0 rows r (omega arith) (omega arith) (eqb-true (table_bit t r) value e)) (eq-eqb r r refl))

-- the cover lines of the table
module _ (value n : ℕ) (t : List ℕ) where
  abbrev listed : List ℕ
  listed = rows_from value t 0 (table_rows n)

  abbrev lines : List (List Word)
  lines = row_lines value n t

  all_lines : (test : List Word → Bool) → ((r : ℕ) → test (row_line value n r) ≡ true)
      → all test lines ≡ true
  all_lines test h =
      all_map test (row_line value n) listed
      ∙ all_in (λ r. test (row_line value n r)) listed (λ r stands. h r)

  no_line : (test : List Word → Bool) → ((r : ℕ) → test (row_line value n r) ≡ false)
      → any test lines ≡ false
  no_line test h =
      any-map test (row_line value n) listed
      ∙ any_none (λ r. test (row_line value n r)) listed (λ r stands. h r)

  pub lines-cover : value < 2 → all (is_cover_line n) lines ≡ true
  lines-cover two = all_lines (is_cover_line n) (λ r. line-covers value n r two)

  pub lines-written : all is_written lines ≡ true
  lines-written = all_lines is_written (line-written value n)

  -- no line has another output
  pub lines_other : (other : ℕ) → (value ≡ other → ⊥) → any (gives other) lines ≡ false
  lines_other other apart = no_line (gives other) (λ r. line_other value n r other apart)

  -- some line has this one
  lines-some : HasRow value n t → any (gives value) lines ≡ true
  lines-some (r, l, has) =
      any-map (gives value) (row_line value n) listed
      ∙ any-in (λ q. gives value (row_line value n q)) listed r
      (rows_in value t 0 (table_rows n) r (omega arith) (omega arith) has) (line_gives value n r)

  -- a row is covered exactly if the table is `value` there
  lines-covered : (r : ℕ) → r < table_rows n → covered value lines r ≡ eqb (table_bit t r) value
  lines-covered r l =
      any-map (λ line. gives value line && covers (marks_of line) r) (row_line value n) listed
      ∙ any-ext (λ q. gives value (row_line value n q) && covers (marks_of (row_line value n q)) r)
      (λ q. eqb q r) listed
      (λ q stands.
      let m = (rows_out value t 0 (table_rows n) q stands).0 in
      rw (line_gives value n q, line-marks value n q) (covers-row n q r (omega arith) l))
      ∙ stands-row value t (table_rows n) r l

  none-covered : (other : ℕ) → (value ≡ other → ⊥) → (r : ℕ) → covered other lines r ≡ false
  none-covered other apart r =
      no_line (λ line. gives other line && covers (marks_of line) r)
      (λ q. rw (line_other value n q other apart))

-- the lines' value at a row is the table's
bit-two : (t : List ℕ) (r : ℕ) → table_bit t r < 2
unfolding table_bit
bit-two t r = omega arith

bit-other : (v : ℕ) → v < 2 → not (eqb v 0) ≡ eqb v 1
bit-other zero two = refl
bit-other (suc zero) two = refl
bit-other (suc (suc v)) two = absurd (omega arith)

pub lines-value : (value n : ℕ) (t : List ℕ) → value < 2 → (value ≡ 0 → HasRow 0 n t)
    → (r : ℕ) → r < table_rows n → value_at (row_lines value n t) r ≡ eqb (table_bit t r) 1
unfolding value_at
lines-value zero n t two some r l =
    rw (
      none-covered 0 n t 1 (λ e. omega arith) r,
      lines-some 0 n t (some refl),
      lines-covered 0 n t r l,
    )
    (bit-other (table_bit t r) (bit-two t r))
lines-value (suc zero) n t two some r l =
    rw (lines-covered 1 n t r l, lines_other 1 n t 0 (λ e. omega arith))
    (or-false (eqb (table_bit t r) 1))
lines-value (suc (suc value)) n t two some r l = absurd (omega arith)

-- they are not of both outputs
pub lines-one-sided : (value n : ℕ) (t : List ℕ) → value < 2 → both_outputs (row_lines value n t) ≡ false
unfolding both_outputs
lines-one-sided zero n t two = rw (lines_other 0 n t 1 (λ e. omega arith))
lines-one-sided (suc zero) n t two =
    rw (lines_other 1 n t 0 (λ e. omega arith)) (and-false (any (gives 1) (row_lines 1 n t)))
lines-one-sided (suc (suc value)) n t two = absurd (omega arith)
