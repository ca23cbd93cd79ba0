-- What is made of the answer to a single call. Assumes nothing.
use Rattle.std.specs.Prelude.{ℕ, ◌≡◌, List, Result}
use Rattle.block.specs.declared.Refusal.{Refusal}
use Rattle.codec.specs.Ten.{ten_zeros}
use Rattle.matcher.specs.Match.{Matched}

-- the bytes that `of` makes of the answer for a table of n inputs and of the ten bytes that were lent
-- as zeros, which a refusal leaves so
pub record Single (n : ℕ) (t : List ℕ) (of : List ℕ → Result ℕ Refusal → List ℕ) (bytes : List ℕ) : Type 0 where
  pub answer : Result ℕ Refusal
  pub ten : List ℕ
  pub matched : Matched n t ten_zeros ten answer
  pub made : bytes ≡ of ten answer
