-- The 512 rows of nine variables, in eight words of 64 rows, row 0 first. Assumes nothing.
use Rattle.std.specs.Prelude.{ℕ, suc, ◌-◌, ◌/◌, ◌%◌, Bool, List, [], ◌∷◌, ltb, length, take, drop, get_or, Result}
use Rattle.block.specs.declared.Refusal.{Refusal}
use Rattle.std.specs.Int.Bits.{bit_or}
use Rattle.bits.specs.Bits.{has, of_rows}
use Rattle.bits.specs.Tests.{pick, ◌⊕◌}
use Rattle.block.specs.Table.{table_bytes, table_of}
use Rattle.block.specs.Refusal.{◌when◌, first_of, too_many_inputs}
use Rattle.block.specs.Answer.{Writes}
use Rattle.marks.specs.Marks.{covers}

-- row r is set
unfoldable pub is_set : (words : List ℕ) (r : ℕ) → Bool
is_set words r = has (get_or words (r / 64) 0) (63 - r % 64)

-- the word of 64 rows from row 64 * w on: those that marks cover. The first six marks are for the rows
-- in a word, the next six for the words.
unfoldable pub covered_word : (marks : List ℕ) (w : ℕ) → ℕ
covered_word marks w = pick (covers (take 6 (drop 6 marks)) w) (of_rows 64 (covers (take 6 marks))) 0

-- words from word w on: the rows that are set, and those that the marks cover besides
unfoldable pub painted : (marks : List ℕ) (w : ℕ) (words : List ℕ) → List ℕ
painted marks w [] = []
painted marks w (x ∷ words) = bit_or x (covered_word marks w) ∷ painted marks (suc w) words

-- the table of n inputs that is 1 at the rows set, each value turned if `flip`
abbrev pub rows_table : (n : ℕ) (words : List ℕ) (flip : Bool) → List ℕ
rows_table n words flip = table_of n (λ row. flip ⊕ is_set words row)

-- what writing the rows as a table of n inputs promises: refusals 1 and 5
abbrev pub WritesRows : (n : ℕ) (words : List ℕ) (flip : Bool) (before after : List ℕ) (r : Result ℕ Refusal)
    → Type 0
WritesRows n words flip before after r =
    Writes (first_of (1 when too_many_inputs n ∷ 5 when ltb (length before) (table_bytes n) ∷ []))
    (rows_table n words flip) before after r
