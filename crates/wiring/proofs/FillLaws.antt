-- A fit fills the tables of any pins that carry its sets, and leaves every unreadable row 0. What a table
-- holds at row x is what the fit's function makes of the row that shows x. Assumes nothing.
use mathlib.Core.Path.{◌≡◌, ap, ◌∙◌}
use mathlib.Core.Bool.{Bool, true}
use mathlib.Core.List.{List, [], ◌∷◌, ◌++◌}
use Prim.Native.Nat.{ℕ, ◌^◌, ◌<◌, ◌≤◌}
use native.Mathlib.Omega.{arith}
use lib.ListN.{length}
use Rattle.bits.specs.Bits.{has}
use Rattle.block.specs.Block.{Block, Device}
use Rattle.block.specs.Table.{most_inputs}
use Rattle.block.specs.Value.{selected, Computes}
use Rattle.block.specs.Tidy.{field_fits, fields_fit, quiet, rows_quiet}
use Rattle.block.specs.Kind.{carries}
use Rattle.wiring.specs.Wire.{Wiring, Wired, block_on, reads, only, shown}
use Rattle.wiring.specs.Fits.{Fits}
use Rattle.bits.proofs.ListLaws.{every_append}
use Rattle.bits.proofs.BitLaws.{num-le}
use Rattle.bits.proofs.RowLaws.{is_row}
use Rattle.wiring.proofs.ReadLaws.{pin_value-num}
use Rattle.wiring.proofs.SelectLaws.{selected-four}
use Rattle.wiring.proofs.ShownLaws.{Ends, ends-selected, shown-selected}
use Rattle.wiring.proofs.QuietLaws.{quiet_rows, quiet_rows-lt, quiet_rows-quiet, quiet_rows-row}
use Rattle.wiring.proofs.BlockLaws.{place, place-lt, has-place, h_of, gives→computes}

-- the rows of F, G and H on the wiring's pins, each table with its unreadable rows 0, that compute t
pub record Filled (n : ℕ) (t : List ℕ) (w : Wiring) : Type 0 where
  pub f : ℕ
  pub g : ℕ
  pub h : ℕ
  pub f_lt : f < 2 ^ 16
  pub g-lt : g < 2 ^ 16
  pub h-lt : h < 2 ^ 8
  pub f-quiet : quiet 16 f w.f ≡ true
  pub g-quiet : quiet 16 g w.g ≡ true
  pub h-quiet : quiet 8 h (w.direct ∷ []) ≡ true
  pub computes : Computes n t (block_on w f g h)

-- what a function makes of the row that shows table row x to the pins
abbrev shown_to : (n : ℕ) (pins : List ℕ) (made : ℕ → Bool) (x : ℕ) → Bool
shown_to n pins made x = made (shown n pins x)

-- F, and likewise G
filled_at : (n : ℕ) (pins : List ℕ) (made : ℕ → Bool) (r : ℕ) → n ≤ most_inputs → length pins ≡ 4
    → is_row 16 (quiet_rows 16 pins (shown_to n pins made)) (selected pins r) ≡ made (only n (carries pins) r)
filled_at n pins made r within four =
    quiet_rows-row 16 pins (shown_to n pins made) r (selected pins r) (selected-four pins four r)
    (ends-selected pins r)
    ∙ ap made (shown-selected n pins r within)

-- what a function makes of the bits that select row k of H
abbrev split : (made : Bool → Bool → Bool → Bool) (k : ℕ) → Bool
split made k = made (has k 2) (has k 1) (has k 0)

filled-h : (direct : ℕ) (made : Bool → Bool → Bool → Bool) (x y : Bool) (r : ℕ)
    → h_of (quiet_rows 8 (direct ∷ []) (split made)) x y (reads direct r) ≡ made x y (reads direct r)
unfolding selected has
filled-h direct made x y r =
    let z = reads direct r in
    let k = place x y z in
    let ends : Ends (direct ∷ []) r k = rw (pin_value-num direct r) (omega (arith, num-le z)) in
    let is = has-place x y z in
    quiet_rows-row 8 (direct ∷ []) (split made) r k (place-lt x y z) ends ∙ rw (is.0, is.1, is.2)

module _ (n : ℕ) (t : List ℕ) (w : Wiring) (wired : Wired n w)
    (fits : Fits n t (carries w.f) (carries w.g) w.direct) where
  abbrev f : ℕ
  f = quiet_rows 16 w.f (shown_to n w.f fits.of-f)

  abbrev g : ℕ
  g = quiet_rows 16 w.g (shown_to n w.g fits.of-g)

  abbrev h : ℕ
  h = quiet_rows 8 (w.direct ∷ []) (split fits.of-h)

  computed : Computes n t (block_on w f g h)
  computed =
      gives→computes n t w wired f g h
      (λ r row.
      let in_f = fits.of-f (only n (carries w.f) r) in
      let in_g = fits.of-g (only n (carries w.g) r) in
      rw (
        filled_at n w.f fits.of-f r wired.within wired.f-four,
        filled_at n w.g fits.of-g r wired.within wired.g-four,
        filled-h w.direct fits.of-h in_f in_g r,
      )
      (fits.every-row r row))

  pub block-of-fits : Filled n t w
  block-of-fits =
      record {
        f = f;
        g = g;
        h = h;
        f_lt = quiet_rows-lt 16 w.f _;
        g-lt = quiet_rows-lt 16 w.g _;
        h-lt = quiet_rows-lt 8 (w.direct ∷ []) _;
        f-quiet = quiet_rows-quiet 16 w.f _;
        g-quiet = quiet_rows-quiet 16 w.g _;
        h-quiet = quiet_rows-quiet 8 (w.direct ∷ []) _;
        computes = computed;
      }

-- the filled block
abbrev pub block_of : (n : ℕ) (t : List ℕ) (w : Wiring) → Filled n t w → Block
block_of n t w filled = block_on w filled.f filled.g filled.h

module _ (n : ℕ) (t : List ℕ) (w : Wiring) (wired : Wired n w) (filled : Filled n t w) where
  pub filled-device : Device (block_of n t w filled)
  filled-device =
      record {
        in_f = record { four = wired.f-four; rows_fit = filled.f_lt };
        in_g = record { four = wired.g-four; rows_fit = filled.g-lt };
        h_fits = filled.h-lt;
      }

  pub filled-fields : fields_fit n (block_of n t w filled) ≡ true
  unfolding fields_fit
  filled-fields =
      rw (
        every_append (field_fits n) w.f (w.g ++ (w.direct ∷ [])),
        every_append (field_fits n) w.g (w.direct ∷ []),
        wired.f-fit,
        wired.g-fit,
        wired.direct-fits,
      )

  pub filled-quiet : rows_quiet (block_of n t w filled) ≡ true
  unfolding rows_quiet
  filled-quiet =
      rw (wired.f-four, wired.g-four, filled.f-quiet, filled.g-quiet, filled.h-quiet)
