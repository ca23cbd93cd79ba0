-- What a word spells: a number in decimal digits, or bytes in hexadecimal digits. Assumes nothing.
use Rattle.std.specs.Prelude.{ℕ, ◌+◌, ◌-◌, ◌*◌, ◌%◌, min, ◌≡◌, Bool, ◌&&◌, List, [], ◌∷◌, eqb, leb, ltb, length, None, Option, Some}
use Rattle.bits.specs.Tests.{pick, every}
use Rattle.block.specs.Answer.{buffer_after}
use Rattle.words.specs.Text.{Word}

-- a byte from one to another
abbrev pub within : (low high c : ℕ) → Bool
within low high c = leb low c && leb c high

-- a decimal digit
abbrev pub is_digit : ℕ → Bool
is_digit c = within 48 57 c

-- the value of a decimal digit, and none of any other byte
abbrev pub decimal_told : ℕ → Option ℕ
decimal_told c = pick (is_digit c) (Some (c - 48)) None

-- a number is decimal digits and nothing else, one at least
unfoldable pub is_number : Word → Bool
is_number word = ltb 0 (length word) && every is_digit word

-- the number that digits spell, after those that make x
unfoldable pub number_after : (x : ℕ) (word : Word) → ℕ
number_after x [] = x
number_after x (c ∷ rest) = number_after (x * 10 + (c - 48)) rest

-- the number that a word of digits spells, whatever its length
abbrev pub number_in : Word → ℕ
number_in word = number_after 0 word

-- the greatest number that is told, and the greatest byte
abbrev pub most_number : ℕ
most_number = 4294967295

abbrev pub most_byte : ℕ
most_byte = 255

-- what reading a number answers: a greater one counts as the greatest that is told
unfoldable pub spelled_number : (word : Word) → Option ℕ
spelled_number word = pick (is_number word) (Some (min (number_in word) most_number)) None

-- the value of a hexadecimal digit, a capital or a small letter; 16 of any other byte
unfoldable pub digit_value : ℕ → ℕ
digit_value c =
    pick (is_digit c) (c - 48) (pick (within 65 70 c) (c - 55) (pick (within 97 102 c) (c - 87) 16))

abbrev pub is_hexadecimal : ℕ → Bool
is_hexadecimal c = ltb (digit_value c) 16

-- the value of a hexadecimal digit, and none of any other byte
abbrev pub value_told : ℕ → Option ℕ
value_told c = pick (is_hexadecimal c) (Some (digit_value c)) None

-- bytes are hexadecimal digits and nothing else, two for each
unfoldable pub is_bytes : Word → Bool
is_bytes word = eqb (length word % 2) 0 && every is_hexadecimal word

-- the bytes that they spell
unfoldable pub bytes_in : Word → List ℕ
bytes_in [] = []
bytes_in (c ∷ []) = []
bytes_in (c ∷ d ∷ rest) = (digit_value c * 16 + digit_value d) ∷ bytes_in rest

-- what reading bytes answers: how many there are
unfoldable pub spelled_bytes : Word → Option ℕ
spelled_bytes word = pick (is_bytes word) (Some (length (bytes_in word))) None

-- what reading bytes promises: they stand at the start of the word's own buffer, and no byte after them
-- is changed; or there are none, and no byte is changed
pub record SpellsBytes (before after : List ℕ) (r : Option ℕ) : Type 0 where
  pub told : r ≡ spelled_bytes before
  pub kept : after ≡ buffer_after (pick (is_bytes before) 0 1) (bytes_in before) before
