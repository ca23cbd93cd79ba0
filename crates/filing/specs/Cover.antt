-- A cover's text filed as a record of a sheet: the text is read, and its table is filed (request 2).
-- Assumes nothing.
use Rattle.std.specs.Prelude.{ℕ, List, take, Err, Ok, Result}
use Rattle.block.specs.declared.Refusal.{Refusal}
use Rattle.record.specs.declared.Refused.{Refused}
use Rattle.block.specs.Refusal.{number_of}
use Rattle.blif.specs.declared.Cover.{Cover}
use Rattle.blif.specs.Cover.{table_room, Reads}
use Rattle.filing.specs.Table.{Unfiled, FilesTable}

-- what becomes of the text's reading
unfoldable pub FilesRead : (cover : Result Cover Refusal) (table s : List ℕ) (used craft block : ℕ) (after : List ℕ) (r : Result ℕ Refused)
    → Type 0
FilesRead (Ok cover) table s used craft block after r =
    FilesTable s used craft block cover.n (take cover.used table) after r
FilesRead (Err k) table s used craft block after r = Unfiled (number_of k) s after r

-- What filing a cover promises: the text is read with room for the longest table, and what reading
-- answers is filed.
pub record FilesCover (s : List ℕ) (used craft block : ℕ) (text after : List ℕ) (r : Result ℕ Refused) : Type 0 where
  pub cover : Result Cover Refusal
  pub table : List ℕ
  pub read : Reads text table_room table cover
  pub filed : FilesRead cover table s used craft block after r
