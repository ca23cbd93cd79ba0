-- A truth table filed as a record of a sheet: the first tidy block that computes it, appended under the
-- numbers given. Assumes nothing.
use Rattle.std.specs.Prelude.{ℕ, ◌≡◌, List, Err, Ok, Result}
use Rattle.block.specs.declared.Refusal.{Refusal}
use Rattle.record.specs.declared.Refused.{Refused}
use Rattle.block.specs.Refusal.{number_of}
use Rattle.block.specs.Answer.{answer}
use Rattle.codec.specs.Ten.{ten_zeros}
use Rattle.matcher.specs.Match.{Matched}
use Rattle.record.specs.Record.{offered}
use Rattle.record.specs.Told.{placed, told_of}
use Rattle.append.specs.Append.{Appends}

-- a refusal before there is a record: its number, place 0, and no byte changed
pub record Unfiled (number : ℕ) (before after : List ℕ) (r : Result ℕ Refused) : Type 0 where
  pub told : told_of r ≡ answer number (placed 0 0)
  pub kept : after ≡ before

-- what becomes of matching's answer: the block is appended, or the refusal is told
unfoldable pub FilesBlock : (found : Result ℕ Refusal) (s : List ℕ) (used craft block n : ℕ) (ten after : List ℕ)
    (r : Result ℕ Refused) → Type 0
FilesBlock (Ok _) s used craft block n ten after r = Appends s used (offered craft block n ten) after r
FilesBlock (Err k) s used craft block n ten after r = Unfiled (number_of k) s after r

-- What filing a table of n inputs promises: what matching gives with ten bytes of room is filed in the
-- used part of the lent sheet.
pub record FilesTable (s : List ℕ) (used craft block n : ℕ) (t after : List ℕ) (r : Result ℕ Refused) : Type 0 where
  pub found : Result ℕ Refusal
  pub ten : List ℕ
  pub matched : Matched n t ten_zeros ten found
  pub filed : FilesBlock found s used craft block n ten after r
