-- Which match is returned (document 01). Wirings and the way they are searched are not here.
-- Assumes nothing.
use Rattle.std.specs.Prelude.{ℕ, ◌≡◌, true, false, List, [], ◌∷◌, ◌++◌, length, Result}
use Rattle.block.specs.declared.Refusal.{Refusal}
use Rattle.block.specs.Block.{Block, Device}
use Rattle.block.specs.Value.{Computes}
use Rattle.block.specs.Tidy.{Tidy, fields_fit}
use Rattle.block.specs.Refusal.{◌when◌, first_of, table_cases}
use Rattle.block.specs.Answer.{Writes}
use Rattle.codec.specs.Ten.{pack_of}
use Rattle.codec.specs.Order.{comes_before}
use Rattle.codec.specs.Check.{no_room}

-- A block realises a table of n inputs if it gives that table's value on every one of the 2^n rows.
-- Any block of the device counts: its nine fields are below n or 15, in any order, repeats allowed;
-- open pins are held high.
pub record Realises (n : ℕ) (t : List ℕ) (b : Block) : Type 0 where
  pub device : Device b
  pub fields : fields_fit n b ≡ true
  pub computes : Computes n t b

-- no block does
abbrev pub NoBlock : (n : ℕ) (t : List ℕ) → Type 0
NoBlock n t = (b : Block) → Realises n t b → ⊥

-- a tidy block that does
pub record TidyMatch (n : ℕ) (t : List ℕ) (b : Block) : Type 0 where
  pub tidy : Tidy n b
  pub realises : Realises n t b

-- of all tidy blocks that do, the one whose ten bytes come first in byte order
pub record First (n : ℕ) (t : List ℕ) (b : Block) : Type 0 where
  pub matches : TidyMatch n t b
  pub none_before : (c : Block) → TidyMatch n t c → comes_before c b ≡ false

-- matching: 1, 2, 3, 5, and then 4
unfoldable pub match_refusal : (n : ℕ) (t : List ℕ) (room : ℕ) → ℕ
match_refusal n t room = first_of (table_cases n t ++ (5 when no_room room ∷ []))

-- What matching promises. With a table of n inputs and room for ten bytes, 4 is given exactly when no
-- block realises the table; otherwise the ten bytes of the first are written.
pub data Matched (n : ℕ) (t before after : List ℕ) (r : Result ℕ Refusal) : Type 0 where
  -- 1, 2, 3 or 5: its number, no byte changed
  refused : (match_refusal n t (length before) ≡ 0 → ⊥)
      → Writes (match_refusal n t (length before)) [] before after r → Matched n t before after r
  -- 4: no block at all computes the table; no byte changed
  unmatched : match_refusal n t (length before) ≡ 0 → NoBlock n t → Writes 4 [] before after r
      → Matched n t before after r
  -- the ten bytes of the first block, no byte after them changed, and 10 as the length in use
  matched : match_refusal n t (length before) ≡ 0 → (b : Block) → First n t b
      → Writes 0 (pack_of b) before after r → Matched n t before after r
