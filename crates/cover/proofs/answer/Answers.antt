-- The line is within the buffer, and its refusal is one that is told.
use Rattle.std.proofs.Common.{◌≤◌, arith, length, sym}
use lib.Seq.{length-take-le}
use Rattle.block.proofs.AnswerLaws.{success}
use Rattle.desk.proofs.DeskLaws.{tells-within, tells-fits}
use Rattle.desk.proofs.NumberLaws.{tells-numbers}
use Rattle.cover.proofs.answer.Goals as goal

pub unwrap-used-requires : goal.unwrap-used-requires
unwrap-used-requires g c = success _ _ _ (tells-fits _ _ _ _ (omega arith) c.of_text-said.ensures)

pub meaning-requires : goal.meaning-requires
meaning-requires g c = rw c.in-Some.is at (tells-numbers _ _ _ _ c.of_text-said.ensures)

pub slice_bounds-out-end : goal.slice_bounds-out-end
slice_bounds-out-end g c =
    omega (arith, c.of_text-said.auto.out, tells-within _ _ _ _ _ c.unwrap-used.ensures c.of_text-said.ensures)

pub slice_bounds-print-end : goal.slice_bounds-print-end
slice_bounds-print-end g c =
    let within : c.unwrap-used.result ≤ length c.of_text-said.new.out =
    omega (arith, c.of_text-said.auto.out, tells-within _ _ _ _ _ c.unwrap-used.ensures c.of_text-said.ensures)
    in
    sym (length-take-le _ _ within)
