-- The lines of a refusal and of a count fit. Assumes nothing.
use Rattle.std.specs.Prelude.{◌≡◌, ℕ, ◌≤◌, ◌<◌, ◌^◌, List, length, Result, Ok, Err, IsOk}
use Rattle.std.proofs.Common.{refl}
use Rattle.block.specs.declared.Refusal.{Refusal}
use Rattle.block.specs.Refusal.{number_of}
use Rattle.block.proofs.AnswerLaws.{success}
use Rattle.text.specs.Line.{placed_line, count_line, WritesText}
use Rattle.text.proofs.TextLaws.{text-fits}
use Rattle.text.proofs.NumberLaws.{count-length, placed-length}

pub fitted : (text before after : List ℕ) (r : Result ℕ Refusal) → length text ≤ length before
    → WritesText text before after r → IsOk r
fitted text before after r room w = success _ _ r (text-fits text before after r room w)
