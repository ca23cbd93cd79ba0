-- The marks of a cover line: 0, 1 and - (request 2). Assumes nothing.
use Rattle.std.specs.Prelude.{ℕ, suc, ◌+◌, Bool, true, ◌&&◌, ◌||◌, List, [], ◌∷◌, eqb}
use Rattle.block.specs.Table.{variable_at}

-- the digits 0 and 1, in ASCII
abbrev pub digit_of : (value : ℕ) → ℕ
digit_of value = 48 + value

-- the mark -, in ASCII
abbrev pub either : ℕ
either = 45

-- a mark is 0, 1 or -
abbrev pub is_mark : ℕ → Bool
is_mark b = eqb b (digit_of 0) || (eqb b (digit_of 1) || eqb b either)

-- a mark agrees with a variable's value: - with both, 0 and 1 with their own
abbrev pub agrees : (mark value : ℕ) → Bool
agrees mark value = eqb mark either || eqb mark (digit_of value)

-- the marks agree with row r, the first one with variable i, each later one with the next variable
unfoldable pub covers_from : (i : ℕ) (marks : List ℕ) (r : ℕ) → Bool
covers_from i [] r = true
covers_from i (mark ∷ marks) r = agrees mark (variable_at r i) && covers_from (suc i) marks r

-- the marks cover row r: one mark for each variable, variable 0 first
abbrev pub covers : (marks : List ℕ) (r : ℕ) → Bool
covers marks r = covers_from 0 marks r
