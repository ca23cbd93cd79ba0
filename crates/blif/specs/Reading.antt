-- What the steps of reading promise to each other. Assumes nothing.
use Rattle.std.specs.Prelude.{ℕ, ◌+◌, ◌≤◌, ◌<◌, ◌≡◌, Bool, true, false, ◌&&◌, ◌||◌, List, [], ◌∷◌, eqb, length, Err, None, Ok, Option, Result, Some}
use denote.Ref.{Bor}
use Rattle.block.specs.declared.Refusal.{Refusal}
use Rattle.block.specs.declared.Refusal.TheVariants.{NoCover}
use Rattle.bits.specs.Tests.{alike, all, any}
use Rattle.words.specs.Text.{Word, words_of}
use Rattle.words.specs.Left.{words_left}
use Rattle.marks.specs.Marks.{digit_of, covers}
use Rattle.marks.specs.Rows.{is_set, painted}
use Rattle.blif.specs.declared.names.Names.{Names}
use Rattle.blif.specs.declared.lines.Gathered.{Gathered}
use Rattle.blif.specs.Part.{dot_names, opens, marks_of, output_of, gives}
use Rattle.blif.specs.Part.{line_words, fits_marks, is_output, is_cover_line}

-- the line opens a part with these names
pub record Opened (line : List ℕ) (names : Names) : Type 0 where
  pub good : (others : List (List Word)) → opens (words_of line ∷ others) ≡ true
  pub words : words_of line ≡ dot_names ∷ words_left names.words
  pub many : length (words_left names.words) ≡ names.inputs + 1

-- the names on the line that opens a part; a line that opens none is refused
abbrev pub Opens : (line : List ℕ) (r : Result Names Refusal) → Type 0
Opens line (Ok names) = Opened line names
Opens line (Err k) = (k ≡ NoCover) × ((others : List (List Word)) → opens (words_of line ∷ others) ≡ false)

-- the line's marks and output, of a line with the right number of words
pub record Parted (inputs : ℕ) (line : List ℕ) (marks output : Word) : Type 0 where
  pub many : length (words_of line) ≡ line_words inputs
  pub marks-are : marks_of (words_of line) ≡ marks
  pub output-is : output_of (words_of line) ≡ output

-- the line's marks and output; none where its words are wrong in number
abbrev pub Splits : (inputs : ℕ) (line : List ℕ) (r : Option (Bor (List ℕ) × Bor (List ℕ))) → Type 0
Splits inputs line (Some parts) = Parted inputs line parts.0.now parts.1.now
Splits inputs line None = eqb (length (words_of line)) (line_words inputs) ≡ false

-- marks and output, taken to what is gathered
abbrev pub taken : (marks output : List ℕ) (g : Gathered) → Gathered
taken marks output g =
    record {
      ones = g.ones || alike output (digit_of 1 ∷ []);
      zeros = g.zeros || alike output (digit_of 0 ∷ []);
      rows = record { words = painted marks 0 g.rows.words };
    }

-- so they are where they fit, else they are refused
abbrev pub Takes : (inputs : ℕ) (marks output : List ℕ) (g : Gathered) (r : Result Gathered Refusal) → Type 0
Takes inputs marks output g (Ok next) =
    (fits_marks inputs marks && is_output output ≡ true) × (next ≡ taken marks output g)
Takes inputs marks output g (Err k) = (k ≡ NoCover) × (fits_marks inputs marks && is_output output ≡ false)

-- a cover line, added to what is gathered
pub record Added (inputs : ℕ) (line : List Word) (g next : Gathered) : Type 0 where
  pub good : is_cover_line inputs line ≡ true
  pub ones : next.ones ≡ (g.ones || gives 1 line)
  pub zeros : next.zeros ≡ (g.zeros || gives 0 line)
  pub rows : next.rows.words ≡ painted (marks_of line) 0 g.rows.words

-- a line added; one that is no cover line is refused
abbrev pub Adds : (inputs : ℕ) (line : List Word) (g : Gathered) (r : Result Gathered Refusal) → Type 0
Adds inputs line g (Ok next) = Added inputs line g next
Adds inputs line g (Err k) = (k ≡ NoCover) × (is_cover_line inputs line ≡ false)

-- the marks of some line cover the row
unfoldable pub some_covers : (lines : List (List Word)) (row : ℕ) → Bool
some_covers lines row = any (λ line. covers (marks_of line) row) lines

-- cover lines gathered: their outputs and rows
pub record AllGathered (inputs : ℕ) (lines : List (List Word)) (g : Gathered) : Type 0 where
  pub good : all (is_cover_line inputs) lines ≡ true
  pub ones : g.ones ≡ any (gives 1) lines
  pub zeros : g.zeros ≡ any (gives 0) lines
  pub rows : inputs ≤ 9 → (row : ℕ) → row < 512 → is_set g.rows.words row ≡ some_covers lines row

-- lines gathered; they are refused where one is no cover line
abbrev pub Gathers : (inputs : ℕ) (lines : List (List Word)) (r : Result Gathered Refusal) → Type 0
Gathers inputs lines (Ok g) = AllGathered inputs lines g
Gathers inputs lines (Err k) = (k ≡ NoCover) × (all (is_cover_line inputs) lines ≡ false)
