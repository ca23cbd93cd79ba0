-- The line that the program prints (document 01, "The program"). Assumes nothing.
use Rattle.std.specs.Prelude.{ℕ, ◌+◌, ◌≡◌, List, [], ◌∷◌, Option, None, Some, Err, Ok, Result}
use Rattle.std.specs.Result.{result_err}
use Rattle.block.specs.declared.Refusal.{Refusal}
use Rattle.block.specs.Table.{most_inputs, table_bytes}
use Rattle.block.specs.Refusal.{number_of}
use Rattle.codec.specs.Ten.{ten_zeros}
use Rattle.matcher.specs.Match.{Matched}
use Rattle.line.specs.declared.Said.{Said}
use Rattle.text.specs.Line.{block_line, block_line_bytes, refusal_line, WritesText}

-- the line of matching's answer, with the ten bytes that were lent to it
abbrev pub answer_line : (ten : List ℕ) → Result ℕ Refusal → List ℕ
answer_line ten (Ok used) = block_line ten
answer_line ten (Err k) = refusal_line (number_of k)

-- the number of a refusal that is told; 0 if there is none
abbrev pub told_number : Option Refusal → ℕ
told_number None = 0
told_number (Some k) = number_of k

-- What the line of a table of n inputs promises, with the refusal told beside it: the text of the
-- answer that matching gives with ten bytes of room, and that answer's refusal.
pub record Says (n : ℕ) (t before after : List ℕ) (r : Said) : Type 0 where
  pub answer : Result ℕ Refusal
  pub ten : List ℕ
  pub matched : Matched n t ten_zeros ten answer
  pub refusal : r.refusal ≡ result_err answer
  pub written : WritesText (answer_line ten answer) before after r.line

-- a refusal and its line
pub record SaysRefusal (k : Refusal) (before after : List ℕ) (r : Said) : Type 0 where
  pub refusal : r.refusal ≡ Some k
  pub written : WritesText (refusal_line (number_of k)) before after r.line

-- What the line alone promises.
pub record Lines (n : ℕ) (t before after : List ℕ) (r : Result ℕ Refusal) : Type 0 where
  pub answer : Result ℕ Refusal
  pub ten : List ℕ
  pub matched : Matched n t ten_zeros ten answer
  pub written : WritesText (answer_line ten answer) before after r

-- What the line of the whole input promises: one byte n, then the table and nothing after it. Empty
-- input is refusal 2.
unfoldable pub Answers : (input before after : List ℕ) (r : Result ℕ Refusal) → Type 0
Answers [] before after r = WritesText (refusal_line 2) before after r
Answers (n ∷ t) before after r = Lines n t before after r

-- so many bytes of the input decide its line: n, the longest table, and one more, which makes the
-- length wrong
abbrev pub enough : ℕ
enough = 1 + table_bytes most_inputs + 1

-- the length of the longest line
abbrev pub longest : ℕ
longest = block_line_bytes
