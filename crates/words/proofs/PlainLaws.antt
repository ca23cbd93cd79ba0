-- Bytes that have no meaning of their own in a text: a word of them is read as it is. Assumes nothing.
use mathlib.Core.Path.{◌≡◌, refl, ◌∙◌}
use mathlib.Core.Bool.{Bool, true, false, ◌&&◌}
use mathlib.Core.List.{List, [], ◌∷◌, ◌++◌, append-nil}
use Prim.Native.Nat.{ℕ, zero, suc, ◌<◌}
use native.Mathlib.Omega.{arith}
use lib.Dec.{eqb, ltb}
use lib.ListN.{length, replicate}
use borrow.Author.Tests.{ltb-true, lt-ltb, ne_eqb}
use Rattle.bits.specs.Tests.{every}
use Rattle.bits.proofs.TestLaws.{both_left, both_right}
use Rattle.bits.proofs.ListLaws.{every-implied}
use Rattle.words.specs.Text.{Word, tab, blank, line_feed, carriage_return, hash}
use Rattle.words.specs.Text.{filled, words_of, content_of}
use Rattle.std.specs.List.{prefix_len}
use Rattle.words.specs.Next.{in_word, in_line, unreturned}
use Rattle.words.proofs.TextLaws.{words-none, words-gap, words-word, content-line}

-- a byte above `#`: no separator, no end of a line and no start of a comment
abbrev pub plain : ℕ → Bool
plain b = ltb hash b

-- a word of such bytes, one at least
abbrev pub is_plain : Word → Bool
is_plain word = ltb 0 (length word) && every plain word

other : (b k : ℕ) → k < b → eqb b k ≡ false
other b k l = ne_eqb b k (omega arith)

in-word : (b : ℕ) → plain b ≡ true → in_word b ≡ true
in-word b e =
    let l = ltb-true hash b e in
    rw (other b blank (omega arith), other b tab (omega arith), other b hash l)

module _ (word : Word) (h : is_plain word ≡ true) where
  plain-bytes : every plain word ≡ true
  plain-bytes = both_right (ltb 0 (length word)) (every plain word) h

  words-plain : (rest : List ℕ) → prefix_len in_word rest ≡ 0 → words_of (word ++ rest) ≡ word ∷ words_of rest
  words-plain rest stop =
      words-word word rest (every-implied plain in_word in-word word plain-bytes)
      (both_left (ltb 0 (length word)) (every plain word) h) stop

  -- before other words, and as the last
  pub words-next : (rest : List ℕ) → words_of (word ++ blank ∷ rest) ≡ word ∷ words_of rest
  words-next rest = words-plain (blank ∷ rest) refl ∙ rw (words-gap blank rest refl)

  pub words_last : words_of word ≡ word ∷ []
  words_last = rw (append-nil word, words-none) at (words-plain [] refl)

pub words-blanks : (k : ℕ) (rest : List ℕ) → words_of (replicate k blank ++ rest) ≡ words_of rest
words-blanks zero rest = refl
words-blanks (suc k) rest = words-gap blank (replicate k blank ++ rest) refl ∙ words-blanks k rest

-- a byte after CR ends no line
abbrev pub goes_on : ℕ → Bool
goes_on b = ltb carriage_return b

plain-goes : (b : ℕ) → plain b ≡ true → goes_on b ≡ true
plain-goes b e = let l = ltb-true hash b e in lt-ltb carriage_return b (omega arith)

goes_in : (b : ℕ) → goes_on b ≡ true → in_line b ≡ true
goes_in b e = let l = ltb-true carriage_return b e in rw (other b line_feed (omega arith))

pub word-goes : (word : Word) → is_plain word ≡ true → every goes_on word ≡ true
word-goes word h = every-implied plain goes_on plain-goes word (plain-bytes word h)

pub blanks-go : (k : ℕ) → every goes_on (replicate k blank) ≡ true
blanks-go zero = refl
blanks-go (suc k) = blanks-go k

unreturned-none : (line : List ℕ) → every goes_on line ≡ true → unreturned line ≡ line
unfolding unreturned
unreturned-none [] h = refl
unreturned-none (b ∷ []) h =
    rw (other b carriage_return (ltb-true carriage_return b (both_left (goes_on b) true h)))
unreturned-none (b ∷ c ∷ line) h =
    rw (unreturned-none (c ∷ line) (both_right (goes_on b) (every goes_on (c ∷ line)) h))

-- a line of such bytes before its LF
pub content-goes : (line rest : List ℕ) → every goes_on line ≡ true
    → content_of (line ++ line_feed ∷ rest) ≡ filled (words_of line ∷ []) ++ content_of rest
content-goes line rest goes =
    content-line line rest (every-implied goes_on in_line goes_in line goes)
    ∙ rw (unreturned-none line goes)
