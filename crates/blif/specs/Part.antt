-- One `.names` part of BLIF: the word, input names, an output name, then cover lines (request 2). A
-- text is given by its content, the words of each line. Assumes nothing.
use Rattle.std.specs.Prelude.{ℕ, ◌-◌, Bool, false, not, ◌&&◌, ◌||◌, List, [], ◌∷◌, eqb, ltb, length}
use Rattle.bits.specs.Tests.{pick, every, alike, all, any}
use Rattle.words.specs.Text.{Word, blank, hash}
use Rattle.marks.specs.Marks.{digit_of, is_mark}

-- `.names`
abbrev pub dot_names : Word
dot_names = 46 ∷ 110 ∷ 97 ∷ 109 ∷ 101 ∷ 115 ∷ []

-- the continuation mark
abbrev pub backslash : ℕ
backslash = 92

-- printable ASCII without `#` and backslash
abbrev pub in_name : ℕ → Bool
in_name b = (ltb blank b && ltb b 127) && (not (eqb b hash) && not (eqb b backslash))

-- a name is a word of such bytes; no word is empty
abbrev pub is_name : Word → Bool
is_name w = every in_name w

-- the words after the first of the first line: the input names, then the output name
abbrev pub names_of : (content : List (List Word)) → List Word
names_of [] = []
names_of ([] ∷ lines) = []
names_of ((word ∷ names) ∷ lines) = names

-- the cover lines, which follow the first line
abbrev pub cover_of : (content : List (List Word)) → List (List Word)
cover_of [] = []
cover_of (first ∷ lines) = lines

-- the number of input names
abbrev pub inputs_of : (content : List (List Word)) → ℕ
inputs_of content = length (names_of content) - 1

-- the first word is `.names`, and after it come names, the output's at least
unfoldable pub opens : (content : List (List Word)) → Bool
opens [] = false
opens ([] ∷ lines) = false
opens ((word ∷ names) ∷ lines) = alike word dot_names && (ltb 0 (length names) && all is_name names)

-- the marks of a cover line, the first of its two words; none if the output stands alone
abbrev pub marks_of : (line : List Word) → List ℕ
marks_of [] = []
marks_of (output ∷ []) = []
marks_of (marks ∷ output ∷ others) = marks

-- the output of a cover line: its second word, or its only one
abbrev pub output_of : (line : List Word) → Word
output_of [] = []
output_of (output ∷ []) = output
output_of (marks ∷ output ∷ others) = output

-- the output of the line is this value
abbrev pub gives : (value : ℕ) (line : List Word) → Bool
gives value line = alike (output_of line) (digit_of value ∷ [])

-- how many words a cover line of k inputs has: with no inputs the output stands alone
abbrev pub line_words : (k : ℕ) → ℕ
line_words k = pick (eqb k 0) 1 2

-- one mark for each input
abbrev pub fits_marks : (k : ℕ) (marks : List ℕ) → Bool
fits_marks k marks = eqb (length marks) k && every is_mark marks

-- an output is 1 or 0
abbrev pub is_output : (word : Word) → Bool
is_output word = alike word (digit_of 1 ∷ []) || alike word (digit_of 0 ∷ [])

-- a cover line of k inputs has exactly one mark for each, then the output as a second word; with no
-- inputs it is the output alone
unfoldable pub is_cover_line : (k : ℕ) (line : List Word) → Bool
is_cover_line k line =
    eqb (length line) (line_words k) && (fits_marks k (marks_of line) && is_output (output_of line))

-- the text is such a part
unfoldable pub is_part : (content : List (List Word)) → Bool
is_part content = opens content && all (is_cover_line (inputs_of content)) (cover_of content)

-- a word stands in the list twice
unfoldable pub repeats : List Word → Bool
repeats [] = false
repeats (word ∷ others) = any (alike word) others || repeats others

-- there are lines with output 1 and lines with output 0
unfoldable pub both_outputs : (lines : List (List Word)) → Bool
both_outputs lines = any (gives 1) lines && any (gives 0) lines
