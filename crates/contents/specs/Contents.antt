-- The contents of F, G and H on the pins of two sets and a direct pin, as one number of 40 bits whose
-- order is byte order; and the least that computes a table. Assumes nothing.
use Rattle.std.specs.Prelude.{ℕ, ◌<◌, ◌≤◌, ◌/◌, ◌%◌, ◌^◌, ◌≡◌, Bool, true, false, ◌&&◌, List, ltb, leb, length, Option, None, Some, unwrap_or}
use Rattle.block.specs.Table.{most_inputs}
use Rattle.block.specs.Block.{Block}
use Rattle.block.specs.Tidy.{field_fits, rows_quiet}
use Rattle.block.specs.Value.{Computes}
use Rattle.subsets.specs.Masks.{variables_in, pins_of_mask}
use Rattle.wiring.specs.Wire.{Wiring, block_on}

-- a set of at most four variables below n
unfoldable pub is_choice : (n set : ℕ) → Bool
is_choice n set = ltb set (2 ^ n) && leb (length (variables_in set)) 4

-- a tidy choice of the nine pins: the sets of F and of G, and the direct pin's field
unfoldable pub is_wiring : (n f g direct : ℕ) → Bool
is_wiring n f g direct = leb n most_inputs && (is_choice n f && (is_choice n g && field_fits n direct))

-- its pins
abbrev pub wiring_of : (f g direct : ℕ) → Wiring
wiring_of f g direct = record { f = pins_of_mask f; g = pins_of_mask g; direct = direct }

-- the block with these pins and the contents x: 16 rows of F, 16 of G, 8 of H
abbrev pub block_with : (f g direct x : ℕ) → Block
block_with f g direct x = block_on (wiring_of f g direct) (x / 2 ^ 24) (x / 2 ^ 8 % 2 ^ 16) (x % 2 ^ 8)

-- one more than the greatest contents: no contents
abbrev pub no_contents : ℕ
no_contents = 2 ^ 40

-- the contents x compute the table on these pins, and rows that a tidy block holds at 0 are 0
pub record Fills (n : ℕ) (t : List ℕ) (f g direct x : ℕ) : Type 0 where
  pub small : x < no_contents
  pub quiet : rows_quiet (block_with f g direct x) ≡ true
  pub computes : Computes n t (block_with f g direct x)

-- x is the least of the contents that do, and `no_contents` where none do
pub record LeastFilling (n : ℕ) (t : List ℕ) (f g direct x : ℕ) : Type 0 where
  pub most : x ≤ no_contents
  pub fills : x < no_contents → Fills n t f g direct x
  pub least : (y : ℕ) → Fills n t f g direct y → x ≤ y

-- the least filling as an answer: `None` where there is none
pub record IsLeast (n : ℕ) (t : List ℕ) (f g direct : ℕ) (r : Option ℕ) : Type 0 where
  pub least : LeastFilling n t f g direct (unwrap_or r no_contents)
  pub small : (x : ℕ) → r ≡ Some x → x < no_contents

-- what `least` promises: on a tidy choice of pins the least filling, else `None`
pub record Weighs (n : ℕ) (t : List ℕ) (f g direct : ℕ) (r : Option ℕ) : Type 0 where
  pub refused : is_wiring n f g direct ≡ false → r ≡ None
  pub weighed : is_wiring n f g direct ≡ true → IsLeast n t f g direct r
