-- Numbers in their columns. Assumes nothing.
use mathlib.Core.Path.{◌≡◌, sym, ◌∙◌}
use mathlib.Core.Bool.{Bool}
use mathlib.Core.List.{List, [], ◌∷◌, ◌++◌}
use Prim.Native.Nat.{ℕ, suc, ◌+◌, ◌-◌, ◌<◌, ◌≤◌}
use native.Mathlib.Nat.{sub-zero}
use native.Mathlib.Numerals.{add-one}
use native.Mathlib.Omega.{arith}
use borrow.Rule.Slice.PartMut.{put_mid}
use lib.ListN.{length, take, drop, set, length-append, length-drop}
use lib.Seq.{drop-cons, set_at, append_snoc, length-take-le}
use Rattle.bits.proofs.SliceLaws.{rest-lent, filled_on}
use Rattle.record.specs.declared.Numbers.{Numbers}
use Rattle.words.specs.Text.{blank}
use Rattle.digits.specs.Digits.{decimal, column, Aligns}
use Rattle.digits.proofs.DigitLaws.{decimal-short, column-length, aligns-column}
use Rattle.columns.specs.Columns.{place_width, craft_width, block_width, n_width, cell, number_cells}
use Rattle.columns.specs.Columns.{number_bytes, InColumns}

pub cell-length : (width x : ℕ) → length (decimal x) ≤ width → length (cell width x) ≡ width + 1
cell-length width x fits = length-append (column width x) (blank ∷ []) ∙ rw (column-length width x fits) (omega arith)

-- a column at the start of a buffer, and then the blank
pub cell-put : (o col : List ℕ) (width : ℕ) → length col ≡ width → width < length o
    → set (col ++ drop width o) width blank ≡ col ++ (blank ∷ []) ++ drop (width + 1) o
cell-put o col width is within =
    rw (drop-cons o width 0 within, add-one width)
    (set_at col _ (drop (suc width) o) blank width is ∙ sym (append_snoc col blank (drop (suc width) o)))

pub cell-written : (o made : List ℕ) (width x : ℕ) (r : Bool) → length (decimal x) ≤ width
    → width < length o → Aligns x (take (width - 0) (drop 0 o)) made r
    → set (put_mid 0 (width - 0) o made) width blank ≡ cell width x ++ drop (width + 1) o
cell-written o made width x r fits within aligned =
    let part : length (take (width - 0) (drop 0 o)) ≡ width =
    rw (sub-zero width) (length-take-le width o (omega arith)) in
    let whole : made ≡ column width x = aligns-column x _ made r aligned (omega arith) ∙ rw part in
    rw (sub-zero width, whole) (cell-put o (column width x) width (column-length width x fits) within)

-- so many bytes at the start of a buffer are written
pub record Begun (before out front : List ℕ) (a : ℕ) : Type 0 where
  pub long : length front ≡ a
  pub kept : out ≡ front ++ drop a before

pub begun_first : (before out : List ℕ) (width x : ℕ) → length (decimal x) ≤ width
    → out ≡ cell width x ++ drop (width + 1) before → Begun before out (cell width x) (width + 1)
begun_first before out width x fits kept = record { long = cell-length width x fits; kept = kept }

-- a cell more
pub begun-next : (before out front made : List ℕ) (a width x : ℕ) → Begun before out front a
    → length (decimal x) ≤ width → made ≡ cell width x ++ drop (width + 1) (take (length out - a) (drop a out))
    → Begun before (put_mid a (length out - a) out made) (front ++ cell width x) (a + (width + 1))
begun-next before out front made a width x begun fits e =
    let size = cell-length width x fits in
    record {
      long = length-append front (cell width x) ∙ omega (arith, begun.long);
      kept = rw e (filled_on out before front (cell width x) a (width + 1) begun.kept begun.long);
    }

-- room for a cell in what is left
pub begun-space : (before out front : List ℕ) (a width : ℕ) → Begun before out front a
    → a + width < length before → width < length (take (length out - a) (drop a out))
begun-space before out front a width begun room =
    let long : length out ≡ length before =
    rw begun.kept (length-append front (drop a before) ∙ omega (arith, begun.long, length-drop a before)) in
    rw (rest-lent out a) (omega (arith, length-drop a out))

-- every number has room in its column
module _ (place : ℕ) (x : Numbers) (fits : InColumns place x) where
  pub place-room : length (decimal place) ≤ place_width
  place-room = let l = fits.place-fits in decimal-short 3 place (omega arith)

  pub craft-room : length (decimal x.craft) ≤ craft_width
  craft-room = let l = fits.craft-fits in decimal-short 4 x.craft (omega arith)

  pub block_room : length (decimal x.block) ≤ block_width
  block_room = let l = fits.block-fits in decimal-short 3 x.block (omega arith)

  pub n_room : length (decimal x.n) ≤ n_width
  n_room = let l = fits.n-fits in decimal-short 0 x.n (omega arith)

  pub cells-length : length (number_cells place x) ≡ number_bytes
  unfolding number_cells
  cells-length =
      let one = column-length place_width place place-room in
      let two = column-length craft_width x.craft craft-room in
      let three = column-length block_width x.block block_room in
      let four = column-length n_width x.n n_room in
      simp length-append (omega arith)
