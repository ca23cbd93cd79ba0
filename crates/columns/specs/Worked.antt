-- The line of one record, byte by byte. Assumes nothing.
use Rattle.std.specs.Prelude.{ℕ, ◌≡◌, List, [], ◌∷◌, ◌++◌}
use Rattle.codec.specs.Ten.{ten}
use Rattle.record.specs.Record.{Record, offered}
use Rattle.words.specs.Text.{line_feed, blank}
use Rattle.columns.specs.Columns.{record_line}
use Rattle.columns.specs.Back.{records_in, places_in}

-- spacecraft 7, block 12, five inputs
abbrev pub filed : Record
filed = offered 7 12 5 (ten 0x01230123400000000400)

-- `   0     7   12 5 A-4 01230123400000000400` and a line feed
abbrev pub line : List ℕ
line =
    blank ∷ blank ∷ blank ∷ 48 ∷ blank ∷ []
    ++ (blank ∷ blank ∷ blank ∷ blank ∷ 55 ∷ blank ∷ [])
    ++ (blank ∷ blank ∷ 49 ∷ 50 ∷ blank ∷ [])
    ++ (53 ∷ blank ∷ [])
    ++ (65 ∷ 45 ∷ 52 ∷ blank ∷ [])
    ++ (48 ∷ 49 ∷ 50 ∷ 51 ∷ 48 ∷ 49 ∷ 50 ∷ 51 ∷ 52 ∷ [])
    ++ (48 ∷ 48 ∷ 48 ∷ 48 ∷ 48 ∷ 48 ∷ 48 ∷ 48 ∷ 52 ∷ 48 ∷ 48 ∷ line_feed ∷ [])

-- it is written so, and read back
pub record Worked : Type 0 where
  pub written : record_line 0 filed ≡ line
  pub records : records_in line ≡ filed ∷ []
  pub places : places_in line ≡ 0 ∷ []
