-- The line of a cover's text: that of its table, or of the refusal that reading gives (request 2).
-- Assumes nothing.
use Rattle.std.specs.Prelude.{ℕ, ◌≡◌, true, List, [], ◌∷◌, take, Err, Ok, Result}
use Rattle.block.specs.declared.Refusal.{Refusal}
use Rattle.bits.specs.Tests.{member}
use Rattle.blif.specs.declared.Cover.{Cover}
use Rattle.blif.specs.Cover.{table_room, Reads}
use Rattle.line.specs.declared.Said.{Said}
use Rattle.line.specs.Line.{Says, SaysRefusal}

-- what is said of a cover that was read, its table at the start of the room
unfoldable pub SaysCover : (cover : Result Cover Refusal) (table before after : List ℕ) (r : Said) → Type 0
SaysCover (Ok x) table before after r = Says x.n (take x.used table) before after r
SaysCover (Err k) table before after r = SaysRefusal k before after r

-- What the line of a cover's text promises: the text is read with room for the longest table, and what
-- reading answers is said.
pub record Tells (text before after : List ℕ) (r : Said) : Type 0 where
  pub cover : Result Cover Refusal
  pub table : List ℕ
  pub read : Reads text table_room table cover
  pub told : SaysCover cover table before after r

-- the numbers that can be told: 0 for a match; 15, 1, 16 or 17 of reading; 4 of matching
unfoldable pub IsTold : ℕ → Type 0
IsTold number = member number (0 ∷ 1 ∷ 4 ∷ 15 ∷ 16 ∷ 17 ∷ []) ≡ true
