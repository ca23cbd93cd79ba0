-- No row selects a table row that an open pin makes unreadable, so a table with its unreadable rows 0
-- loses nothing by it. Assumes nothing.
use mathlib.Core.Path.{◌≡◌, refl, sym, ap, ◌∙◌}
use mathlib.Core.Bool.{Bool, true, false, not, ◌&&◌, ◌||◌}
use mathlib.Core.List.{List, [], ◌∷◌}
use Prim.Native.Nat.{ℕ, ◌^◌, ◌<◌}
use lib.Dec.{eqb}
use lib.ListN.{length}
use borrow.Author.Tests.{eq-eqb}
use Rattle.bits.specs.Bits.{bit, num, of_rows, row_of}
use Rattle.bits.proofs.TestLaws.{below_of}
use Rattle.bits.proofs.SearchLaws.{byBool}
use Rattle.bits.proofs.BitLaws.{num-has}
use Rattle.bits.proofs.RowLaws.{is_row, of_rows-lt, is_row-of_rows, row_of-of_rows}
use Rattle.block.specs.Block.{is_open}
use Rattle.block.specs.Value.{open_level}
use Rattle.block.specs.Tidy.{unreadable, quiet}
use Rattle.block.proofs.PinLaws.{pin_value-open}
use Rattle.wiring.proofs.ReadLaws.{pin_value-num}
use Rattle.wiring.proofs.ShownLaws.{Ends, ends-cons}

-- a table row that needs of an open pin the level it does not have is selected by no row
pub readable : (pins : List ℕ) (r x : ℕ) → Ends pins r x → unreadable pins x ≡ false
unfolding unreadable
readable [] r x ends = refl
readable (pin ∷ pins) r x ends =
    let here = ends-cons pin pins r x ends in
    let rest = readable pins r x here.1 in
    byBool (is_open pin)
    (λ e.
    let level : bit x (length pins) ≡ open_level =
    sym (num-has x (length pins)) ∙ ap num here.0 ∙ sym (pin_value-num pin r) ∙ pin_value-open pin r e in
    rw (rest, e, eq-eqb (bit x (length pins)) open_level level))
    (λ e. rw (rest, e))

pub quiet_of : (w : ℕ) (pins : List ℕ) (value : ℕ → Bool)
    → ((x : ℕ) → unreadable pins x ≡ true → value x ≡ false) → quiet w (of_rows w value) pins ≡ true
unfolding quiet
quiet_of w pins value low =
    below_of (λ x. not (unreadable pins x) || eqb (row_of w (of_rows w value) x) 0) w
    (λ x l.
    byBool (unreadable pins x) (λ e. rw (e, row_of-of_rows w value x l, low x e)) (λ e. rw e))

-- so many rows with the values given, but 0 where they are unreadable
unfoldable pub quiet_rows : (w : ℕ) (pins : List ℕ) (value : ℕ → Bool) → ℕ
quiet_rows w pins value = of_rows w (λ x. not (unreadable pins x) && value x)

module _ (w : ℕ) (pins : List ℕ) (value : ℕ → Bool) where
  pub quiet_rows-lt : quiet_rows w pins value < 2 ^ w
  unfolding quiet_rows
  quiet_rows-lt = of_rows-lt w _

  pub quiet_rows-quiet : quiet w (quiet_rows w pins value) pins ≡ true
  unfolding quiet_rows
  quiet_rows-quiet = quiet_of w pins (λ x. not (unreadable pins x) && value x) (λ x e. rw e)

  -- a row x that ends in what the pins select is readable
  pub quiet_rows-row : (r x : ℕ) → x < w → Ends pins r x → is_row w (quiet_rows w pins value) x ≡ value x
  unfolding quiet_rows
  quiet_rows-row r x l ends =
      is_row-of_rows w (λ x. not (unreadable pins x) && value x) x l ∙ rw (readable pins r x ends)
