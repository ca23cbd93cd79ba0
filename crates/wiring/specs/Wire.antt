-- A wiring: the pins of F, the pins of G and the direct pin. What it sees of a row. Assumes nothing.
use Rattle.std.specs.Prelude.{ℕ, ◌≤◌, ◌≡◌, Bool, true, false, not, ◌&&◌, ◌||◌, List, [], ◌∷◌, eqb, length}
use Rattle.bits.specs.Bits.{has, of_bits}
use Rattle.bits.specs.Tests.{pick, every}
use Rattle.block.specs.Table.{most_inputs, table_bit}
use Rattle.block.specs.Block.{Block}
use Rattle.block.specs.Value.{pin_value}
use Rattle.block.specs.Tidy.{field_fits}
use Rattle.block.specs.Kind.{carries}

-- the nine pins, without the contents of the tables
pub record Wiring : Type 0 where
  pub f : List ℕ
  pub g : List ℕ
  pub direct : ℕ

-- four pins in F and in G, every field below n or 15
pub record Wired (n : ℕ) (w : Wiring) : Type 0 where
  pub within : n ≤ most_inputs
  pub f-four : length w.f ≡ 4
  pub g-four : length w.g ≡ 4
  pub f-fit : every (field_fits n) w.f ≡ true
  pub g-fit : every (field_fits n) w.g ≡ true
  pub direct-fits : field_fits n w.direct ≡ true

-- F and G exchanged
abbrev pub exchanged : Wiring → Wiring
exchanged w = record { f = w.g; g = w.f; direct = w.direct }

-- the block with these pins and these rows of F, G and H
abbrev pub block_on : (w : Wiring) (f g h : ℕ) → Block
block_on w f g h =
    record {
      f = record { pins = w.f; rows = f };
      g = record { pins = w.g; rows = g };
      direct = w.direct;
      h = h;
    }

-- the table's value at row r is 1
unfoldable pub truth : (t : List ℕ) (r : ℕ) → Bool
truth t r = eqb (table_bit t r) 1

-- the pin reads 1 in row r
unfoldable pub reads : (pin r : ℕ) → Bool
reads pin r = eqb (pin_value pin r) 1

-- A set of variables is a test of their numbers. Row r with the variables outside the set cleared:
unfoldable pub only : (n : ℕ) (set : ℕ → Bool) (r : ℕ) → ℕ
only n set r = of_bits n (λ v. set v && has r v)

-- row r with the variables of the set cleared
unfoldable pub without : (n : ℕ) (set : ℕ → Bool) (r : ℕ) → ℕ
without n set r = of_bits n (λ v. not (set v) && has r v)

-- row s with the variables of the set taken from row r
unfoldable pub mixed : (n : ℕ) (set : ℕ → Bool) (r s : ℕ) → ℕ
mixed n set r s = of_bits n (λ v. pick (set v) (has r v) (has s v))

-- the pins carry v with a 1 in table row x
unfoldable pub shows : (pins : List ℕ) (x v : ℕ) → Bool
shows [] x v = false
shows (pin ∷ pins) x v = (eqb v pin && has x (length pins)) || shows pins x v

-- the row of n variables that shows table row x to the pins, every other variable 0
unfoldable pub shown : (n : ℕ) (pins : List ℕ) (x : ℕ) → ℕ
shown n pins x = of_bits n (shows pins x)

-- a variable that F has for itself: neither G nor the direct pin carries it
abbrev pub private : (w : Wiring) (v : ℕ) → Bool
private w v = carries w.f v && (not (carries w.g v) && not (eqb v w.direct))

-- a variable in both F and G, the direct pin's left out
abbrev pub shared : (w : Wiring) (v : ℕ) → Bool
shared w v = carries w.f v && (carries w.g v && not (eqb v w.direct))

-- F carries the direct pin's variable
abbrev pub bridged : (w : Wiring) → Bool
bridged w = carries w.f w.direct
