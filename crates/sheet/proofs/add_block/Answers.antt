-- The bytes are within their word.
use Rattle.std.proofs.Common.{◌≤◌, ◌++◌, ◌∙◌, arith, length, drop, length-append, sym}
use lib.Seq.{length-take-le}
use Rattle.digits.proofs.SpelledLaws.{bytes-few}
use Rattle.sheet.proofs.add_block.Goals as goal

pub slice_bounds-ten-end-2 : goal.slice_bounds-ten-end-2
slice_bounds-ten-end-2 g c =
    simp length-append
    (omega (arith, bytes-few _ _ (sym c.bytes_in.ensures.told ∙ c.in-Some-bytes_in.is), c.bytes_in.auto.word, c.in-Ok.ensures.bound))

pub slice_bounds-add-end : goal.slice_bounds-add-end
slice_bounds-add-end g c =
    let few : c.in-Some-bytes_in.many ≤ length (c.bytes_in.new.word ++ drop c.in-Ok.length c.arg.new.buf) =
    simp length-append
    (omega (arith, bytes-few _ _ (sym c.bytes_in.ensures.told ∙ c.in-Some-bytes_in.is), c.bytes_in.auto.word, c.in-Ok.ensures.bound))
    in
    sym (length-take-le _ _ few)
