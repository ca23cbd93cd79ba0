-- The words of a record's line: its numbers, its type and its ten bytes. Assumes nothing.
use mathlib.Core.Path.{◌≡◌, refl, ◌∙◌}
use mathlib.Core.Bool.{true}
use mathlib.Core.List.{List, [], ◌∷◌, ◌++◌, append_assoc}
use Prim.Native.Nat.{ℕ, suc, ◌-◌, ◌<◌}
use native.Mathlib.Omega.{arith}
use lib.Dec.{eqb}
use lib.ListN.{length, replicate}
use borrow.Author.Tests.{lt-ltb, ltb-true, ltb-false, eqb-true}
use Rattle.bits.specs.Tests.{every}
use Rattle.bits.proofs.ListLaws.{every_append, every-implied}
use Rattle.bits.proofs.SearchLaws.{byBool}
use Rattle.bits.proofs.TestLaws.{below_at}
use Rattle.block.specs.declared.Letter.{Letter}
use Rattle.block.specs.declared.Letter.TheVariants.{A, B, C}
use Rattle.block.specs.declared.Kind.{Kind}
use Rattle.block.specs.Kind.{letter_code, type_of}
use Rattle.codec.specs.Ten.{unpack_of}
use Rattle.record.specs.declared.Numbers.{Numbers}
use Rattle.record.specs.Record.{Record, numbers_in}
use Rattle.words.specs.Text.{Word, blank, line_feed, hash, words_of, content_of}
use Rattle.words.proofs.PlainLaws.{plain, is_plain, goes_on, words-next, words_last, words-blanks}
use Rattle.words.proofs.PlainLaws.{word-goes, blanks-go, content-goes}
use Rattle.digits.specs.Digits.{hexadecimal, decimal, column}
use Rattle.digits.specs.Spelled.{is_digit, digit_value, is_hexadecimal}
use Rattle.digits.proofs.DigitLaws.{hexadecimal-length, decimal-some}
use Rattle.digits.proofs.NumberLaws.{within-from}
use Rattle.digits.proofs.SpelledLaws.{decimal-digits, hexadecimal-hex}
use Rattle.text.specs.Line.{type_text, block_line}
use Rattle.columns.specs.Columns.{place_width, craft_width, block_width, n_width, cell, number_cells, record_line}

-- digits are plain
digit-plain : (c : ℕ) → is_digit c ≡ true → plain c ≡ true
digit-plain c e = let l = within-from 48 57 c e in lt-ltb hash c (omega arith)

hex-plain : (c : ℕ) → is_hexadecimal c ≡ true → plain c ≡ true
unfolding digit_value
hex-plain c e =
    byBool (plain c) (λ l. l)
    (λ l.
    let low = ltb-false hash c l in
    let none : digit_value c ≡ 16 =
    eqb-true _ _ (below_at (λ d. eqb (digit_value d) 16) (suc hash) refl c (omega arith)) in
    absurd (omega (arith, ltb-true (digit_value c) 16 e, none)))

letter-plain : (x : Letter) → plain (letter_code x) ≡ true
letter-plain A = refl
letter-plain B = refl
letter-plain C = refl

pub decimal-plain : (x : ℕ) → is_plain (decimal x) ≡ true
decimal-plain x =
    rw (lt-ltb 0 (length (decimal x)) (decimal-some x))
    (every-implied is_digit plain digit-plain (decimal x) (decimal-digits x))

pub hexadecimal-plain : (s : List ℕ) → 0 < length s → is_plain (hexadecimal s) ≡ true
hexadecimal-plain s some =
    rw (lt-ltb 0 (length (hexadecimal s)) (omega (arith, hexadecimal-length s)))
    (every-implied is_hexadecimal plain hex-plain (hexadecimal s) (hexadecimal-hex s))

pub type-plain : (k : Kind) → is_plain (type_text k) ≡ true
type-plain k =
    rw (letter-plain k.letter, lt-ltb 0 (length (type_text k)) (omega arith))
    (every-implied is_digit plain digit-plain (decimal k.digit) (decimal-digits k.digit))

-- blanks, its digits and a blank
cell_parts : (width x : ℕ) (rest : List ℕ)
    → cell width x ++ rest ≡ replicate (width - length (decimal x)) blank ++ (decimal x ++ blank ∷ rest)
unfolding column
cell_parts width x rest = simp append_assoc

pub words-cell : (width x : ℕ) (rest : List ℕ) → words_of (cell width x ++ rest) ≡ decimal x ∷ words_of rest
words-cell width x rest =
    rw (cell_parts width x rest, words-blanks (width - length (decimal x)) (decimal x ++ blank ∷ rest))
    (words-next (decimal x) (decimal-plain x) rest)

pub words-numbers : (place : ℕ) (x : Numbers) (rest : List ℕ)
    → words_of (number_cells place x ++ rest)
    ≡ decimal place ∷ decimal x.craft ∷ decimal x.block ∷ decimal x.n ∷ words_of rest
unfolding number_cells
words-numbers place x rest =
    let first = cell place_width place in
    let second = cell craft_width x.craft in
    let third = cell block_width x.block in
    let fourth = cell n_width x.n in
    rw (
      append_assoc (first ++ second ++ third) fourth rest,
      append_assoc (first ++ second) third (fourth ++ rest),
      append_assoc first second (third ++ (fourth ++ rest)),
      words-cell place_width place (second ++ (third ++ (fourth ++ rest))),
      words-cell craft_width x.craft (third ++ (fourth ++ rest)),
      words-cell block_width x.block (fourth ++ rest),
      words-cell n_width x.n rest,
    )

cell-goes : (width x : ℕ) → every goes_on (cell width x) ≡ true
unfolding column
cell-goes width x =
    let blanks = replicate (width - length (decimal x)) blank in
    rw (
      every_append goes_on (blanks ++ decimal x) (blank ∷ []),
      every_append goes_on blanks (decimal x),
      blanks-go (width - length (decimal x)),
      word-goes (decimal x) (decimal-plain x),
    )

numbers-go : (place : ℕ) (x : Numbers) → every goes_on (number_cells place x) ≡ true
unfolding number_cells
numbers-go place x =
    let first = cell place_width place in
    let second = cell craft_width x.craft in
    let third = cell block_width x.block in
    rw (
      every_append goes_on (first ++ second ++ third) (cell n_width x.n),
      every_append goes_on (first ++ second) third,
      every_append goes_on first second,
      cell-goes place_width place,
      cell-goes craft_width x.craft,
      cell-goes block_width x.block,
      cell-goes n_width x.n,
    )

-- the type and the ten bytes, a blank between them
abbrev block_text : (ten : List ℕ) → List ℕ
block_text ten = type_text (type_of (unpack_of ten)) ++ (blank ∷ hexadecimal ten)

-- the words of a record's line
unfoldable pub record_words : (place : ℕ) (r : Record) → List Word
record_words place r =
    decimal place
    ∷ decimal r.craft
    ∷ decimal r.block
    ∷ decimal r.n
    ∷ type_text (type_of (unpack_of r.ten))
    ∷ hexadecimal r.ten
    ∷ []

-- and the line itself, without its line feed
abbrev pub record_text : (place : ℕ) (r : Record) → List ℕ
record_text place r = number_cells place (numbers_in r) ++ block_text r.ten

words-block : (ten : List ℕ) → 0 < length ten
    → words_of (block_text ten) ≡ type_text (type_of (unpack_of ten)) ∷ hexadecimal ten ∷ []
words-block ten some =
    let kind = type_of (unpack_of ten) in
    words-next (type_text kind) (type-plain kind) (hexadecimal ten)
    ∙ rw (words_last (hexadecimal ten) (hexadecimal-plain ten some))

line-goes : (place : ℕ) (r : Record) → 0 < length r.ten → every goes_on (record_text place r) ≡ true
line-goes place r some =
    let ten = r.ten in
    let kind = type_of (unpack_of ten) in
    rw (
      every_append goes_on (number_cells place (numbers_in r)) (block_text ten),
      numbers-go place (numbers_in r),
      every_append goes_on (type_text kind) (blank ∷ hexadecimal ten),
      word-goes (type_text kind) (type-plain kind),
    )
    (word-goes (hexadecimal ten) (hexadecimal-plain ten some))

-- the line feed is the line's last byte
line-ends : (place : ℕ) (r : Record) (rest : List ℕ)
    → record_line place r ++ rest ≡ record_text place r ++ line_feed ∷ rest
unfolding record_line block_line
line-ends place r rest = simp append_assoc

module _ (place : ℕ) (r : Record) (some : 0 < length r.ten) where
  pub words-line : words_of (record_text place r) ≡ record_words place r
  unfolding record_words
  words-line =
      words-numbers place (numbers_in r) (block_text r.ten) ∙ rw (words-block r.ten some)

  pub content-record : (rest : List ℕ)
      → content_of (record_line place r ++ rest) ≡ record_words place r ∷ content_of rest
  unfolding record_words
  content-record rest =
      rw (line-ends place r rest)
      (content-goes (record_text place r) rest (line-goes place r some) ∙ rw words-line)
