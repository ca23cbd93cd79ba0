-- The text is within the buffer, which has room for all lines, and a refusal of the whole is 14.
use Rattle.std.proofs.Common.{◌≤◌, arith, length, sym}
use lib.Seq.{length-take-le}
use Rattle.block.proofs.AnswerLaws.{success}
use Rattle.listing.proofs.PrintLaws.{prints-within, prints-fits, prints-numbers}
use Rattle.build.proofs.answer.Goals as goal

pub unwrap-used-requires : goal.unwrap-used-requires
unwrap-used-requires g c =
    success _ _ _ (prints-fits _ _ _ _ (omega (arith, c.lines_room-text.ensures)) c.say-said.ensures)

pub meaning-requires : goal.meaning-requires
meaning-requires g c =
    rw c.in-Some.is at (prints-numbers _ _ _ _ (omega (arith, c.lines_room-text.ensures, c.requires)) c.say-said.ensures)

pub slice_bounds-text-end : goal.slice_bounds-text-end
slice_bounds-text-end g c =
    omega (arith, c.say-said.auto.out, prints-within _ _ _ _ _ c.unwrap-used.ensures c.say-said.ensures)

pub slice_bounds-print-end : goal.slice_bounds-print-end
slice_bounds-print-end g c =
    let within : c.unwrap-used.result ≤ length c.say-said.new.out =
    omega (arith, c.say-said.auto.out, prints-within _ _ _ _ _ c.unwrap-used.ensures c.say-said.ensures)
    in
    sym (length-take-le _ _ within)
