-- What is still to come of a line and of a text. Assumes nothing.
use Rattle.std.specs.Prelude.{ℕ, List}
use denote.Ref.{Bor}
use Rattle.words.specs.declared.Words.{Words}
use Rattle.words.specs.declared.Lines.{Lines}
use Rattle.words.specs.Text.{Word, words_of, content_of}

-- the words that are left of a line
abbrev pub words_left : Words → List Word
words_left words = words_of words.rest.now

-- the words of each line with words that is left of a text
abbrev pub lines_left : Lines → List (List Word)
lines_left lines = content_of lines.rest.now

-- a line, by its words
abbrev pub word_list : (line : Bor (List ℕ)) → List Word
word_list line = words_of line.now
