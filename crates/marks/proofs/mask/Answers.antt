-- `marks::mask` meets its contract. Assumes nothing.
use Rattle.marks.proofs.MaskLaws.{mask-rows}
use Rattle.marks.proofs.mask.Goals as goal

pub returns : goal.returns
returns c =
    let a = c.args in
    rw (c.kept.ensures, c.kept-2.ensures, c.ones-rows.ensures)
    (mask-rows a.mark a.i)
