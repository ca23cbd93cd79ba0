-- What each test of the evaluator decides, and that its promise leaves one answer. Assumes nothing.
use Rattle.std.specs.Prelude.{Result}
use mathlib.Core.Path.{◌≡◌, refl, sym, ◌∙◌}
use mathlib.Core.List.{List, [], ◌∷◌}
use Prim.Native.Nat.{ℕ, ◌<◌, ◌≤◌}
use lib.Pow.{pow_mono}
use borrow.Author.Tests.{lt-ltb, le-ltb}
use Rattle.block.specs.declared.Refusal.{Refusal}
use Rattle.block.specs.Table.{table_rows}
use Rattle.block.specs.Value.{block_value}
use Rattle.block.specs.Refusal.{◌when◌, number_of}
use Rattle.block.specs.Answer.{answer, answered}
use Rattle.block.proofs.RefusalLaws.{at-refusal, or_else, first-append}
use Rattle.block.proofs.AnswerLaws.{same-answer}
use Rattle.codec.specs.Ten.{unpack_of}
use Rattle.codec.specs.Check.{check_cases, check_refusal}
use Rattle.value.specs.Evaluate.{Evaluates}
use Rattle.value.specs.Evaluate.{no_such_row, row_refusal, evaluate_refusal}
use Rattle.value.specs.Evaluate.{evaluate_answer}

pub rows_few : (n : ℕ) → n ≤ 9 → table_rows n ≤ 512
rows_few n = pow_mono {j = 9}

module _ (n row v : ℕ) where
  pub refuses-13 : table_rows n ≤ row → answer 13 0 ≡ answered (row_refusal n row) 0 v
  unfolding row_refusal
  refuses-13 past = rw (le-ltb row (table_rows n) past)

  pub gives-bit : row < table_rows n → answer 0 v ≡ answered (row_refusal n row) 0 v
  unfolding row_refusal
  gives-bit below = rw (lt-ltb row (table_rows n) below)

module _ (n : ℕ) (s : List ℕ) (row : ℕ) where
  pub refusal-parts : evaluate_refusal n s row ≡ or_else (check_refusal n s) (row_refusal n row)
  unfolding evaluate_refusal check_refusal row_refusal
  refusal-parts = first-append (check_cases n s) (13 when no_such_row n row ∷ []) refl

  pub refuses-block : (k : Refusal) → number_of k ≡ check_refusal n s
      → answer (number_of k) 0 ≡ evaluate_answer n s row
  unfolding evaluate_answer
  refuses-block k e =
      rw (refusal-parts, ← e)
      (at-refusal
      (λ m. answer m 0 ≡ answered (or_else m (row_refusal n row)) 0 (block_value (unpack_of s) row)) (λ m. refl) k)

  pub leaves-row : check_refusal n s ≡ 0
      → answered (row_refusal n row) 0 (block_value (unpack_of s) row) ≡ evaluate_answer n s row
  unfolding evaluate_answer
  leaves-row e = rw (refusal-parts, e)

pub evaluate-unique : (n : ℕ) (s : List ℕ) (row : ℕ) (r q : Result ℕ Refusal)
    → Evaluates n s row r → Evaluates n s row q → r ≡ q
evaluate-unique n s row r q p p' = same-answer _ 0 (λ x y e. e) r q (p ∙ sym p')
