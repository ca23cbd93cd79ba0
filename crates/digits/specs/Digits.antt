-- Numbers and bytes as text, in ASCII. Assumes nothing.
use Rattle.std.specs.Prelude.{ℕ, zero, suc, ◌+◌, ◌-◌, ◌/◌, ◌%◌, ◌≡◌, Bool, List, [], ◌∷◌, ◌++◌, leb, ltb, length, replicate}
use Rattle.bits.specs.Tests.{pick}
use Rattle.words.specs.Text.{blank}

-- the digit of a number below 16: 0 to 9, then the capitals A to F
unfoldable pub digit_code : ℕ → ℕ
digit_code x = pick (ltb x 10) (48 + x) (55 + x)

-- two hexadecimal capitals for each byte
unfoldable pub hexadecimal : List ℕ → List ℕ
hexadecimal [] = []
hexadecimal (x ∷ s) = digit_code (x / 16 % 16) ∷ digit_code (x % 16) ∷ hexadecimal s

-- a number in decimal, its last digits where it has more than `most`
unfoldable pub decimal_in : (most x : ℕ) → List ℕ
decimal_in zero x = []
decimal_in (suc most) x = pick (ltb x 10) [] (decimal_in most (x / 10)) ++ (digit_code (x % 10) ∷ [])

-- in decimal, with no zero before it; x + 1 digits are more than it has
unfoldable pub decimal : ℕ → List ℕ
decimal x = decimal_in (suc x) x

-- a number in a column of so many bytes: blanks, then its digits
unfoldable pub column : (width x : ℕ) → List ℕ
column width x = replicate (width - length (decimal x)) blank ++ decimal x

-- its digits have room
abbrev pub fits : (width x : ℕ) → Bool
fits width x = leb (length (decimal x)) width

-- what the writer of a column promises: the column in the whole of the lent buffer; or that the number
-- does not fit, and no byte changed
pub record Aligns (x : ℕ) (before after : List ℕ) (r : Bool) : Type 0 where
  pub told : r ≡ fits (length before) x
  pub kept : after ≡ pick (fits (length before) x) (column (length before) x) before
