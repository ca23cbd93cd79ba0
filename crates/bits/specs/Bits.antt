-- Bits of a number; rows and fields, most significant first. Assumes nothing.
use Rattle.std.specs.Prelude.{ℕ, zero, suc, ◌+◌, ◌-◌, ◌*◌, ◌/◌, ◌%◌, ◌^◌, ◌<◌, Bool, true, false, List, [], ◌∷◌, eqb, get_or}

-- bit i of x, the units bit being bit 0
abbrev pub bit : (x i : ℕ) → ℕ
bit x i = x / 2 ^ i % 2

-- bit i of x is 1
unfoldable pub has : (x i : ℕ) → Bool
has x i = eqb (bit x i) 1

-- a bit as a number
abbrev pub num : Bool → ℕ
num true = 1
num false = 0

-- the number below 2 ^ n with the bits g
unfoldable pub of_bits : (n : ℕ) (g : ℕ → Bool) → ℕ
of_bits zero g = 0
of_bits (suc n) g = of_bits n (λ i. g (suc i)) * 2 + num (g 0)

-- the number of w rows, row 0 in the most significant bit
unfoldable pub of_rows : (w : ℕ) (g : ℕ → Bool) → ℕ
of_rows zero g = 0
of_rows (suc w) g = num (g 0) * 2 ^ w + of_rows w (λ k. g (suc k))

-- row k of w rows held in one number, row 0 in the most significant bit
abbrev pub row_of : (w x k : ℕ) → ℕ
row_of w x k = bit x (w - 1 - k)

-- field i of 4 bits in a list of bytes, most significant first; 0 past the end
abbrev pub nibble : (s : List ℕ) (i : ℕ) → ℕ
nibble s i = get_or s (i / 2) 0 / 16 ^ (1 - i % 2) % 16

-- so many fields from place i on
abbrev pub nibbles : (s : List ℕ) (i count : ℕ) → List ℕ
nibbles s i zero = []
nibbles s i (suc count) = nibble s i ∷ nibbles s (suc i) count

-- the number that fields make below what stands above them, the first one the most significant
abbrev pub joined : (high : ℕ) (fields : List ℕ) → ℕ
joined high [] = high
joined high (field ∷ fields) = joined (high * 16 + field) fields

-- so many lowest fields of a number, most significant first
abbrev pub split : (count x : ℕ) → List ℕ
split zero x = []
split (suc count) x = (x / 16 ^ count % 16) ∷ split count x

-- a byte of two fields, each cut to its four bits
abbrev pub byte_of : (high low : ℕ) → ℕ
byte_of high low = high % 16 * 16 + low % 16

-- sixteen bits of two bytes
abbrev pub word_of : (high low : ℕ) → ℕ
word_of high low = high * 256 + low

-- the bytes that fields make, two to a byte, the high one first
abbrev pub bytes_of : List ℕ → List ℕ
bytes_of [] = []
bytes_of (high ∷ []) = (high * 16) ∷ []
bytes_of (high ∷ low ∷ fields) = (high * 16 + low) ∷ bytes_of fields

-- every element is a byte
abbrev pub Bytes : List ℕ → Type 0
Bytes s = (k : ℕ) → get_or s k 0 < 256
