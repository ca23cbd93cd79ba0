-- The line is within the buffer, and there is one.
use Rattle.std.proofs.Common.{◌≤◌, arith, length, sym}
use lib.Seq.{length-take-le}
use Rattle.block.proofs.AnswerLaws.{success}
use Rattle.line.proofs.LineLaws.{answers-within, line-fits}
use Rattle.drawmitten.proofs.answer.Goals as goal

pub unwrap-used-requires : goal.unwrap-used-requires
unwrap-used-requires g c = success _ _ _ (line-fits _ _ _ _ (omega arith) c.of_input.ensures)

pub slice_bounds-out-end : goal.slice_bounds-out-end
slice_bounds-out-end g c = omega (arith, c.of_input.auto.out, answers-within _ _ _ _ (rw c.unwrap-used.ensures at c.of_input.ensures))

pub slice_bounds-print-end : goal.slice_bounds-print-end
slice_bounds-print-end g c =
    let within : c.unwrap-used.result ≤ length c.of_input.new.out =
    omega (arith, c.of_input.auto.out, answers-within _ _ _ _ (rw c.unwrap-used.ensures at c.of_input.ensures))
    in
    sym (length-take-le _ _ within)
