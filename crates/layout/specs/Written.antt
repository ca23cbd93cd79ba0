-- Every table as a cover: one `.names` part with a line for each row at which the table is `value`, which
-- is 1 for an on-set and 0 for an off-set. Assumes nothing.
use Rattle.std.specs.Prelude.{ℕ, zero, suc, ◌+◌, ◌<◌, ◌≡◌, List, [], ◌∷◌, ◌++◌, map, eqb}
use Rattle.bits.specs.Tests.{pick}
use Rattle.block.specs.Table.{variable_at, table_rows, table_bit}
use Rattle.words.specs.Text.{Word, blank, line_feed}
use Rattle.marks.specs.Marks.{digit_of}
use Rattle.blif.specs.Part.{dot_names}

-- these words, a blank before each
unfoldable pub spaced : (words : List Word) → List ℕ
spaced [] = []
spaced (word ∷ words) = blank ∷ (word ++ spaced words)

-- the text of a line of these words, a blank between two
abbrev pub line_of : (words : List Word) → List ℕ
line_of [] = []
line_of (word ∷ words) = word ++ spaced words

-- the text of these lines, an LF after each
unfoldable pub text_of : (lines : List (List Word)) → List ℕ
text_of [] = []
text_of (line ∷ lines) = line_of line ++ line_feed ∷ text_of lines

-- inputs are named a, b, c and so on; the names of so many inputs from input i on
unfoldable pub input_names : (i count : ℕ) → List Word
input_names i zero = []
input_names i (suc count) = ((97 + i) ∷ []) ∷ input_names (suc i) count

-- the output is named z
abbrev pub output_name : Word
output_name = 122 ∷ []

-- the words of the first line
abbrev pub header_of : (n : ℕ) → List Word
header_of n = dot_names ∷ (input_names 0 n ++ output_name ∷ [])

-- the marks that cover row r, for so many variables from variable i on
unfoldable pub row_marks : (r i count : ℕ) → List ℕ
row_marks r i zero = []
row_marks r i (suc count) = digit_of (variable_at r i) ∷ row_marks r (suc i) count

-- the cover line of row r: its marks and the output; with no inputs the output alone
abbrev pub row_line : (value n r : ℕ) → List Word
row_line value zero r = (digit_of value ∷ []) ∷ []
row_line value (suc n) r = row_marks r 0 (suc n) ∷ (digit_of value ∷ []) ∷ []

-- of so many rows from row r on, those at which the table is `value`
unfoldable pub rows_from : (value : ℕ) (t : List ℕ) (r count : ℕ) → List ℕ
rows_from value t r zero = []
rows_from value t r (suc count) =
    let rest = rows_from value t (suc r) count in
    pick (eqb (table_bit t r) value) (r ∷ rest) rest

-- the cover lines of the table of n inputs, all with output `value`
abbrev pub row_lines : (value n : ℕ) (t : List ℕ) → List (List Word)
row_lines value n t = map (row_line value n) (rows_from value t 0 (table_rows n))

-- its cover, as the words of each line
abbrev pub cover_content : (value n : ℕ) (t : List ℕ) → List (List Word)
cover_content value n t = header_of n ∷ row_lines value n t

-- its cover, as a text
unfoldable pub cover_text : (value n : ℕ) (t : List ℕ) → List ℕ
cover_text value n t = text_of (cover_content value n t)

-- the table is `value` at some row
abbrev pub HasRow : (value n : ℕ) (t : List ℕ) → Type 0
HasRow value n t = (r : ℕ) × (r < table_rows n) × (table_bit t r ≡ value)
