-- Which types occur, and the most variables a block of each type carries (document 01, "The type").
-- Source 000 lists nine of the thirteen and drops A-4, B-3, C-2 and C-3 as trivial; here they occur.
-- Assumes nothing.
use Rattle.std.specs.Prelude.{ℕ, ◌<◌, ◌≤◌, ◌≡◌, Bool, true, false, List, [], ◌∷◌, length, get_or}
use Rattle.block.specs.declared.Letter.{Letter}
use Rattle.block.specs.declared.Letter.TheVariants.{A, B, C}
use Rattle.block.specs.Block.{Block}
use Rattle.block.specs.Table.{most_inputs}
use Rattle.block.specs.Tidy.{field_fits}
use Rattle.block.specs.Kind.{carries, letter_of, digit_of, variables_of}
use Rattle.subsets.specs.Masks.{pins_of_mask, masks}

-- a type and the most variables of its blocks
pub record TypeRow : Type 0 where
  pub letter : Letter
  pub digit : ℕ
  pub most : ℕ

-- letter, digit, most
abbrev pub type_row : (l : Letter) (x most : ℕ) → TypeRow
type_row l x most = record { letter = l; digit = x; most = most }

-- A-0 to A-4, B-0 to B-3, C-0 to C-3
unfoldable pub thirteen : List TypeRow
thirteen =
    type_row A 0 9 ∷ type_row A 1 8 ∷ type_row A 2 7 ∷ type_row A 3 6 ∷ type_row A 4 5
    ∷ type_row B 0 8 ∷ type_row B 1 7 ∷ type_row B 2 6 ∷ type_row B 3 5
    ∷ type_row C 0 7 ∷ type_row C 1 6 ∷ type_row C 2 5 ∷ type_row C 3 4
    ∷ []

-- the row at a place
abbrev pub type_row_at : ℕ → TypeRow
type_row_at k = get_or thirteen k (type_row A 0 0)

-- a type of the thirteen, with no more variables than its row allows
pub record Within (l : Letter) (x variables : ℕ) : Type 0 where
  pub place : ℕ
  pub listed : place < 13
  pub letter : (type_row_at place).letter ≡ l
  pub digit : (type_row_at place).digit ≡ x
  pub few : variables ≤ (type_row_at place).most

-- the block's type is one of the thirteen, and it carries no more variables than that row allows
abbrev pub Known : Block → Type 0
Known b = Within (letter_of b) (digit_of b) (variables_of b)

-- F on the pins of set i, G on those of set j, the direct pin d; every table is 0, as the type goes
-- by pins alone
unfoldable pub wired : (i j d : ℕ) → Block
wired i j d =
    record {
      f = record { pins = pins_of_mask (get_or masks i 0); rows = 0 };
      g = record { pins = pins_of_mask (get_or masks j 0); rows = 0 };
      direct = d;
      h = 0;
    }

-- two sets of the table, and a direct pin that is carried or open
pub record Wiring (i j d : ℕ) : Type 0 where
  pub f-set : i < 256
  pub g_set : j < 256
  pub direct-pin : field_fits most_inputs d ≡ true

-- some wiring has the type of this row and exactly as many variables as it says
pub record Reached (of : TypeRow) : Type 0 where
  pub i : ℕ
  pub j : ℕ
  pub d : ℕ
  pub wiring : Wiring i j d
  pub letter : letter_of (wired i j d) ≡ of.letter
  pub digit : digit_of (wired i j d) ≡ of.digit
  pub most : variables_of (wired i j d) ≡ of.most

-- some wiring has letter B, where F, and where G, carries the direct pin's variable or not
pub record Bridged (in_f in_g : Bool) : Type 0 where
  pub i : ℕ
  pub j : ℕ
  pub d : ℕ
  pub wiring : Wiring i j d
  pub letter : letter_of (wired i j d) ≡ B
  pub f-carries : carries (wired i j d).f.pins d ≡ in_f
  pub g-carries : carries (wired i j d).g.pins d ≡ in_g

-- no wiring exceeds the thirteen rows, each row is reached, and either table may be the bridged one
pub record Survey : Type 0 where
  pub count : length thirteen ≡ 13
  pub within : (i j d : ℕ) → Wiring i j d → Known (wired i j d)
  pub reached : (k : ℕ) → k < 13 → Reached (type_row_at k)
  pub f-bridged : Bridged true false
  pub g-bridged : Bridged false true
