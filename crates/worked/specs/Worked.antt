-- The examples P1 to P12 of document 01, P1 and P12 as request 3 has them, and what each says. Assumes
-- nothing.
use Rattle.std.specs.Prelude.{ℕ, zero, suc, ◌+◌, ◌-◌, ◌*◌, ◌%◌, ◌^◌, ◌≡◌, List, [], ◌∷◌, eqb}
use Rattle.bits.specs.Bits.{bit}
use Rattle.bits.specs.Tests.{pick, count}
use Rattle.block.specs.declared.Letter.{Letter}
use Rattle.block.specs.declared.Letter.TheVariants.{A, C}
use Rattle.block.specs.Table.{most_inputs, table_rows, table_bytes}
use Rattle.block.specs.Value.{Computes}
use Rattle.block.specs.Tidy.{Tidy}
use Rattle.block.specs.Kind.{letter_of, digit_of}
use Rattle.block.specs.Refusal.{table_refusal}
use Rattle.codec.specs.Ten.{ten, unpack_of}
use Rattle.codec.specs.Check.{check_refusal}

-- n and a table, with the type and the ten bytes of its block, or with the number of its refusal; or n
-- and ten bytes, with the number that checking gives, 0 if they pass
pub data Example : Type 0 where
  matches : ℕ → List ℕ → Letter → ℕ → List ℕ → Example
  no_table : ℕ → List ℕ → ℕ → Example
  checks : ℕ → List ℕ → ℕ → Example

-- the ten bytes are accepted and hold a tidy block of that type, which computes that table on every row
pub record Shows (n : ℕ) (table : List ℕ) (letter : Letter) (digit : ℕ) (s : List ℕ) : Type 0 where
  pub well-formed : table_refusal n table ≡ 0
  pub accepted : check_refusal n s ≡ 0
  pub tidy : Tidy n (unpack_of s)
  pub has-letter : letter_of (unpack_of s) ≡ letter
  pub has-digit : digit_of (unpack_of s) ≡ digit
  pub computes : Computes n table (unpack_of s)

abbrev pub Holds : Example → Type 0
Holds (matches n table letter digit s) = Shows n table letter digit s
Holds (no_table n table number) = table_refusal n table ≡ number
Holds (checks n s number) = check_refusal n s ≡ number

abbrev pub AllHold : List Example → Type 0
AllHold [] = Unit
AllHold (e ∷ es) = Holds e × AllHold es

-- a byte of eight rows from row r on, and so many bytes
abbrev pub rows_from : (ℕ → ℕ) → ℕ → ℕ → ℕ
rows_from f r zero = 0
rows_from f r (suc rows) = f r * 2 ^ rows + rows_from f (suc r) rows

abbrev pub bytes_from : (ℕ → ℕ) → ℕ → ℕ → List ℕ
bytes_from f r zero = []
bytes_from f r (suc bytes) = rows_from f r 8 ∷ bytes_from f (r + 8) bytes

-- the table of a function of the row, for n from 3 on
abbrev pub table_of : ℕ → (ℕ → ℕ) → List ℕ
table_of n f = bytes_from f 0 (table_bytes n)

-- 1 for an odd count of ones
abbrev pub parity : ℕ → ℕ
parity r = count (λ i. eqb (bit r i) 1) most_inputs % 2

-- 1 where all n variables are 1
abbrev pub and_of : ℕ → ℕ → ℕ
and_of n r = pick (eqb r (table_rows n - 1)) 1 0

-- P1 to P12, in order, and the bytes that P1 had with open pins low
unfoldable pub examples : List Example
examples =
    matches 0 (0x80 ∷ []) A 0 (ten 0xFFFFFFFFF00000000400)
    ∷ matches 0 (0x00 ∷ []) A 0 (ten 0xFFFFFFFFF00000000000)
    ∷ matches 1 (0x40 ∷ []) C 0 (ten 0x0FFF0FFF000000000400)
    ∷ matches 5 (0x00 ∷ 0x00 ∷ 0xFF ∷ 0xFF ∷ []) A 4 (ten 0x01230123400000000400)
    ∷ matches 6 (table_of 6 (and_of 6)) A 3 (ten 0x01230124500010001010)
    ∷ matches 6 (table_of 6 parity) A 3 (ten 0x01230124555556996690)
    ∷ matches 9 (table_of 9 parity) A 0 (ten 0x01234567869966996690)
    ∷ matches 9 (table_of 9 (and_of 9)) A 0 (ten 0x01234567800010001010)
    ∷ no_table 2 (0x81 ∷ []) 3
    ∷ checks 1 (ten 0x1FFFFFFFF00000000000) 6
    ∷ checks 2 (ten 0x10FFFFFFF00000000000) 7
    ∷ checks 0 (ten 0xFFFFFFFFF00000000400) 0
    ∷ checks 0 (ten 0xFFFFFFFFF00000000800) 8
    ∷ []
