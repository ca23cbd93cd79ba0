-- The lines of a text and their words (request 2). A text is any bytes; those named here are in ASCII.
-- Assumes nothing.
use Rattle.std.specs.Prelude.{ℕ, Bool, false, ◌&&◌, ◌||◌, List, [], ◌∷◌, map, eqb}
use Rattle.bits.specs.Tests.{pick}

abbrev pub tab : ℕ
tab = 9

abbrev pub line_feed : ℕ
line_feed = 10

abbrev pub carriage_return : ℕ
carriage_return = 13

abbrev pub blank : ℕ
blank = 32

abbrev pub hash : ℕ
hash = 35

-- a word is a run of bytes
abbrev pub Word : Type 0
Word = List ℕ

-- the text begins with byte b
abbrev pub begins : (b : ℕ) (text : List ℕ) → Bool
begins b [] = false
begins b (c ∷ rest) = eqb c b

-- it ends with byte b
abbrev pub ends : (b : ℕ) (text : List ℕ) → Bool
ends b [] = false
ends b (c ∷ []) = eqb c b
ends b (c ∷ d ∷ rest) = ends b (d ∷ rest)

-- the first list, with one byte more at its start
abbrev pub extended : (b : ℕ) → List (List ℕ) → List (List ℕ)
extended b [] = (b ∷ []) ∷ []
extended b (first ∷ others) = (b ∷ first) ∷ others

-- the lists that are not empty
abbrev pub filled : {A : Type 0} → List (List A) → List (List A)
filled [] = []
filled ([] ∷ others) = filled others
filled ((x ∷ first) ∷ others) = (x ∷ first) ∷ filled others

-- Lines end with LF, CR LF or the end of the text. The CR of a CR LF is in no line; a CR that no LF
-- follows ends none and is a byte of its line.
unfoldable pub lines_of : (text : List ℕ) → List (List ℕ)
lines_of [] = [] ∷ []
lines_of (b ∷ rest) =
    pick (eqb b line_feed) ([] ∷ lines_of rest)
    (pick (eqb b carriage_return && begins line_feed rest) (lines_of rest) (extended b (lines_of rest)))

-- `#` starts a comment to the line's end, whatever bytes are in it
unfoldable pub uncommented : (line : List ℕ) → List ℕ
uncommented [] = []
uncommented (b ∷ rest) = pick (eqb b hash) [] (b ∷ uncommented rest)

-- blanks and tabs separate words
abbrev pub separates : ℕ → Bool
separates b = eqb b blank || eqb b tab

-- the runs of bytes between separators, some of them empty
unfoldable pub runs_of : List ℕ → List Word
runs_of [] = [] ∷ []
runs_of (b ∷ rest) = pick (separates b) ([] ∷ runs_of rest) (extended b (runs_of rest))

-- the words of a line
unfoldable pub words_of : (line : List ℕ) → List Word
words_of line = filled (runs_of (uncommented line))

-- the words of each line of a text; a line without words is blank and is skipped
unfoldable pub content_of : (text : List ℕ) → List (List Word)
content_of text = filled (map words_of (lines_of text))
