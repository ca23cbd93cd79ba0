-- The longer sheet is within the buffer.
use Rattle.std.proofs.Common.{sym}
use lib.Seq.{length-take-le}
use Rattle.sheet.proofs.BoundLaws.{adds-within}
use Rattle.sheet.proofs.add_record.Goals as goal

pub slice_bounds-keep-end : goal.slice_bounds-keep-end
slice_bounds-keep-end g c = adds-within _ _ _ _ _ _ _ c.in-Ok.is c.append_to.ensures

pub slice_bounds-keep-end-in-Ok : goal.slice_bounds-keep-end-in-Ok
slice_bounds-keep-end-in-Ok g c = sym (length-take-le _ _ (adds-within _ _ _ _ _ _ _ c.in-Ok.is c.append_to.ensures))

pub slice_bounds-find-end : goal.slice_bounds-find-end
slice_bounds-find-end g c = adds-within _ _ _ _ _ _ _ c.in-Ok.is c.append_to.ensures

pub slice_bounds-find-end-then-keep : goal.slice_bounds-find-end-then-keep
slice_bounds-find-end-then-keep g c =
    sym (length-take-le _ _ (adds-within _ _ _ _ _ _ _ c.in-Ok.is c.append_to.ensures))
