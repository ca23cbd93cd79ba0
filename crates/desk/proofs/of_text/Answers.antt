-- `desk::of_text` meets its contract: a table that was read is within its room.
use native.Mathlib.Omega.{arith}
use mathlib.Core.Path.{sym}
use lib.Seq.{length-take-le}
use Rattle.blif.proofs.CoverLaws.{read-used}
use Rattle.desk.proofs.of_text.Goals as goal

pub slice_bounds-table-end : goal.slice_bounds-table-end
slice_bounds-table-end c =
    let within = read-used _ _ _ _ c.in-Ok.ensures in omega (arith, c.read.auto.out)

pub slice_bounds-say-end : goal.slice_bounds-say-end
slice_bounds-say-end c =
    let within = read-used _ _ _ _ c.in-Ok.ensures in
    sym (length-take-le _ c.read.new.out (omega (arith, c.read.auto.out)))
