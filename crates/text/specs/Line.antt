-- Blocks, refusals and counts as lines of text (document 01, "The program"). Assumes nothing.
use Rattle.std.specs.Prelude.{ℕ, List, [], ◌∷◌, ◌++◌, ltb, length, Result}
use Rattle.block.specs.declared.Refusal.{Refusal}
use Rattle.block.specs.declared.Kind.{Kind}
use Rattle.block.specs.Kind.{letter_code, type_of}
use Rattle.block.specs.Refusal.{◌when◌, first_of}
use Rattle.block.specs.Answer.{Writes}
use Rattle.codec.specs.Ten.{unpack_of}
use Rattle.codec.specs.Check.{check_cases}
use Rattle.words.specs.Text.{line_feed, blank}
use Rattle.digits.specs.Digits.{hexadecimal, decimal}

abbrev pub hyphen : ℕ
hyphen = 45

abbrev pub capital_r : ℕ
capital_r = 82

-- a type, as A-0
abbrev pub type_text : Kind → List ℕ
type_text k = letter_code k.letter ∷ hyphen ∷ decimal k.digit

-- the type, a blank, twenty hexadecimal capitals, a line feed
abbrev pub typed_line : (k : Kind) (ten : List ℕ) → List ℕ
typed_line k ten = type_text k ++ (blank ∷ hexadecimal ten ++ (line_feed ∷ []))

-- the line of a block in ten bytes
unfoldable pub block_line : (ten : List ℕ) → List ℕ
block_line ten = typed_line (type_of (unpack_of ten)) ten

-- its length
abbrev pub block_line_bytes : ℕ
block_line_bytes = 25

-- `R`, a blank, the number in decimal, a line feed
unfoldable pub refusal_line : (number : ℕ) → List ℕ
refusal_line number = capital_r ∷ blank ∷ decimal number ++ (line_feed ∷ [])

-- `R`, the number and the place, a blank before each, a line feed
unfoldable pub placed_line : (number place : ℕ) → List ℕ
placed_line number place =
    capital_r ∷ blank ∷ decimal number ++ (blank ∷ decimal place ++ (line_feed ∷ []))

-- a count in decimal, a line feed
unfoldable pub count_line : (count : ℕ) → List ℕ
count_line count = decimal count ++ (line_feed ∷ [])

-- a text at the start of a lent buffer: 5 if it does not fit
abbrev pub WritesText : (text before after : List ℕ) (r : Result ℕ Refusal) → Type 0
WritesText text before after r =
    Writes (first_of (5 when ltb (length before) (length text) ∷ [])) text before after r

-- the line of ten bytes: refused as checking is, then 5
unfoldable pub line_refusal : (n : ℕ) (ten : List ℕ) (room : ℕ) → ℕ
line_refusal n ten room = first_of (check_cases n ten ++ (5 when ltb room block_line_bytes ∷ []))

-- what the line of ten bytes promises
abbrev pub LinesBlock : (n : ℕ) (ten before after : List ℕ) (r : Result ℕ Refusal) → Type 0
LinesBlock n ten before after r = Writes (line_refusal n ten (length before)) (block_line ten) before after r
