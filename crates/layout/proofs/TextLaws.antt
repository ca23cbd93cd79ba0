-- A text of given words has these words as its content, if no byte of a word has a meaning of its own.
-- Assumes nothing.
use mathlib.Core.Path.{◌≡◌, refl, ap, ◌∙◌}
use mathlib.Core.Bool.{Bool, true, ◌&&◌}
use mathlib.Core.List.{List, [], ◌∷◌, append-nil}
use lib.Dec.{ltb}
use lib.ListN.{length}
use Rattle.bits.specs.Tests.{every, all}
use Rattle.bits.proofs.TestLaws.{both_left, both_right}
use Rattle.bits.proofs.SearchLaws.{clash}
use Rattle.bits.proofs.ListLaws.{every_append}
use Rattle.words.specs.Text.{Word, words_of, content_of}
use Rattle.words.proofs.TextLaws.{words-none, content-last}
use Rattle.words.proofs.PlainLaws.{is_plain, goes_on, words-next, words_last, word-goes, content-goes}
use Rattle.layout.specs.Written.{spaced, line_of, text_of}

-- a line of such words, one at least
abbrev pub is_written : (line : List Word) → Bool
is_written line = ltb 0 (length line) && all is_plain line

words-line : (line : List Word) → all is_plain line ≡ true → words_of (line_of line) ≡ line
unfolding spaced
words-line [] h = words-none
words-line (word ∷ []) h = rw (append-nil word) (words_last word (both_left (is_plain word) true h))
words-line (word ∷ next ∷ words) h =
    let first = both_left (is_plain word) (all is_plain (next ∷ words)) h in
    let others = both_right (is_plain word) (all is_plain (next ∷ words)) h in
    words-next word first (line_of (next ∷ words))
    ∙ ap (λ later. word ∷ later) (words-line (next ∷ words) others)

spaced-goes : (words : List Word) → all is_plain words ≡ true → every goes_on (spaced words) ≡ true
unfolding spaced
spaced-goes [] h = refl
spaced-goes (word ∷ words) h =
    rw (
      every_append goes_on word (spaced words),
      word-goes word (both_left (is_plain word) (all is_plain words) h),
    )
    (spaced-goes words (both_right (is_plain word) (all is_plain words) h))

line-goes : (line : List Word) → all is_plain line ≡ true → every goes_on (line_of line) ≡ true
unfolding spaced
line-goes [] h = refl
line-goes (word ∷ words) h = spaced-goes (word ∷ words) h

pub content-text : (lines : List (List Word)) → all is_written lines ≡ true
    → content_of (text_of lines) ≡ lines
unfolding text_of
content-text [] h = content-last [] refl ∙ rw words-none
content-text ([] ∷ lines) h = clash h refl
content-text ((word ∷ words) ∷ lines) h =
    let first = word ∷ words in
    let written = both_left (is_written first) (all is_written lines) h in
    let of_plain = both_right (ltb 0 (length first)) (all is_plain first) written in
    content-goes (line_of first) (text_of lines) (line-goes first of_plain)
    ∙ rw (
      words-line first of_plain,
      content-text lines (both_right (is_written first) (all is_written lines) h),
    )
