-- The value of ten bytes at a row, as document 01 gives it. Assumes nothing.
use Rattle.std.specs.Prelude.{ℕ, Bool, not, ◌≡◌, List, [], ◌∷◌, ◌++◌, ltb, Result}
use Rattle.block.specs.declared.Refusal.{Refusal}
use Rattle.block.specs.Table.{table_rows}
use Rattle.block.specs.Value.{block_value}
use Rattle.block.specs.Refusal.{◌when◌, first_of}
use Rattle.block.specs.Answer.{Answer, answered, answer_of}
use Rattle.codec.specs.Ten.{unpack_of}
use Rattle.codec.specs.Check.{check_cases}

-- 13: row number 2^n or more
abbrev pub no_such_row : ℕ → ℕ → Bool
no_such_row n row = not (ltb row (table_rows n))

-- evaluating: the same as checking, then 13
unfoldable pub evaluate_refusal : (n : ℕ) (s : List ℕ) (row : ℕ) → ℕ
evaluate_refusal n s row = first_of (check_cases n s ++ (13 when no_such_row n row ∷ []))

-- the last of them, once the block is accepted
unfoldable pub row_refusal : ℕ → ℕ → ℕ
row_refusal n row = first_of (13 when no_such_row n row ∷ [])

-- evaluating answers the value's bit
abbrev pub evaluated_of : Result ℕ Refusal → Answer ℕ
evaluated_of = answer_of (λ bit. bit) 0

-- refused so, else C(A, B, xc) of the block in ten bytes
unfoldable pub evaluate_answer : (n : ℕ) (s : List ℕ) (row : ℕ) → Answer ℕ
evaluate_answer n s row = answered (evaluate_refusal n s row) 0 (block_value (unpack_of s) row)

-- what evaluating promises
abbrev pub Evaluates : (n : ℕ) (s : List ℕ) (row : ℕ) (r : Result ℕ Refusal) → Type 0
Evaluates n s row r = evaluated_of r ≡ evaluate_answer n s row
