-- `bits::nibble`: an even field is a byte's high half, an odd one its low half.
use Rattle.std.proofs.Common.{◌≡◌, ◌%◌, ◌/◌, slice_index_or, arith}
use lib.Bits.{and_mask}
use Rattle.bits.proofs.nibble.Goals as goal

pub returns-else-i-eq0 : goal.returns-else-i-eq0
returns-else-i-eq0 c =
    let i = c.args.i in
    let odd : i % 2 ≡ 1 = omega (arith, and_mask i 1) in
    rw (odd, and_mask (slice_index_or c.args.s.now (i / 2) 0) 4) (omega arith)
