-- A block read as tests: what its tables and then H make of a row is a bit, and the block computes t just
-- if that bit is t's on every row. Assumes nothing.
use mathlib.Core.Path.{◌≡◌, sym, ap, ◌∙◌}
use mathlib.Core.Bool.{Bool}
use mathlib.Core.List.{List}
use Prim.Native.Nat.{ℕ, ◌+◌, ◌*◌, ◌/◌, ◌%◌, ◌^◌, ◌<◌}
use native.Mathlib.Omega.{arith}
use lib.ListN.{length, get_or}
use Rattle.bits.specs.Bits.{has, num, row_of}
use Rattle.bits.proofs.BitLaws.{num-le, num-injective, has_last, has-next, has-num}
use Rattle.bits.proofs.RowLaws.{is_row, row_of-num}
use Rattle.block.specs.Table.{table_bit}
use Rattle.block.specs.Block.{Lut, Block}
use Rattle.block.specs.Value.{selected, lut_value, h_value, block_value, Computes}
use Rattle.wiring.specs.Wire.{Wiring, Wired, block_on, truth, reads}
use Rattle.wiring.specs.Test.{h_row}
use Rattle.wiring.proofs.ReadLaws.{pin_value-num}

-- the row of H where F, G and the direct pin have these values
abbrev pub place : (x y z : Bool) → ℕ
place x y z = 4 * num x + 2 * num y + num z

pub place-lt : (x y z : Bool) → place x y z < 8
place-lt x y z = omega (arith, num-le x, num-le y, num-le z)

pub has-place : (x y z : Bool)
    → (has (place x y z) 2 ≡ x) × (has (place x y z) 1 ≡ y) × (has (place x y z) 0 ≡ z)
has-place x y z =
    let digits : place x y z ≡ (num x * 2 + num y) * 2 + num z = omega arith in
    rw digits (
      has-next _ 1 z ∙ has-next _ 0 y ∙ has-num x,
      has-next _ 0 z ∙ has_last _ y,
      has_last _ z,
    )

-- tables F or G, H, and the block, as tests
abbrev pub lut_of : (lut : Lut) (r : ℕ) → Bool
lut_of lut r = is_row (2 ^ length lut.pins) lut.rows (selected lut.pins r)

abbrev pub h_of : (h : ℕ) (x y z : Bool) → Bool
h_of h x y z = h_row h (place x y z)

abbrev pub out_of : (b : Block) (r : ℕ) → Bool
out_of b r = h_of b.h (lut_of b.f r) (lut_of b.g r) (reads b.direct r)

table_bit-num : (t : List ℕ) (r : ℕ) → table_bit t r ≡ num (truth t r)
unfolding truth table_bit has
table_bit-num t r = row_of-num 8 (get_or t (r / 8) 0) (r % 8)

lut_value-num : (lut : Lut) (r : ℕ) → lut_value lut r ≡ num (lut_of lut r)
unfolding lut_value
lut_value-num lut r = row_of-num (2 ^ length lut.pins) lut.rows (selected lut.pins r)

h_row-num : (h e : ℕ) → row_of 8 h e ≡ num (h_row h e)
unfolding has
h_row-num h e = row_of-num 8 h e

block_value-num : (b : Block) (r : ℕ) → block_value b r ≡ num (out_of b r)
unfolding block_value h_value
block_value-num b r =
    rw (lut_value-num b.f r, lut_value-num b.g r, pin_value-num b.direct r)
    (h_row-num b.h (place (lut_of b.f r) (lut_of b.g r) (reads b.direct r)))

module _ (n : ℕ) (t : List ℕ) (b : Block) where
  pub computes→out : Computes n t b → (r : ℕ) → r < 2 ^ n → truth t r ≡ out_of b r
  computes→out computes r l =
      num-injective (truth t r) (out_of b r)
      (sym (table_bit-num t r) ∙ sym (computes.every-row r l) ∙ block_value-num b r)

  out→computes : ((r : ℕ) → r < 2 ^ n → truth t r ≡ out_of b r) → Computes n t b
  out→computes out =
      record {
        every-row = λ r l. block_value-num b r ∙ ap num (sym (out r l)) ∙ sym (table_bit-num t r);
      }

-- H of what tables A and B hold is t, on every row
abbrev pub Gives : (n : ℕ) (t : List ℕ) (w : Wiring) (H : Bool → Bool → Bool → Bool)
    (A B : ℕ → Bool) → Type 0
Gives n t w H A B =
    (r : ℕ) → r < 2 ^ n
    → truth t r ≡ H (A (selected w.f r)) (B (selected w.g r)) (reads w.direct r)

module _ (n : ℕ) (t : List ℕ) (w : Wiring) (wired : Wired n w) (f g h : ℕ) where
  pub computes→gives : Computes n t (block_on w f g h) → Gives n t w (h_of h) (is_row 16 f) (is_row 16 g)
  computes→gives computes r l =
      rw (wired.f-four, wired.g-four) at (computes→out n t (block_on w f g h) computes r l)

  pub gives→computes : Gives n t w (h_of h) (is_row 16 f) (is_row 16 g) → Computes n t (block_on w f g h)
  gives→computes gives =
      out→computes n t (block_on w f g h) (λ r l. rw (wired.f-four, wired.g-four) (gives r l))
