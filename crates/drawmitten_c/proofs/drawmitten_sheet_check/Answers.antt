-- `drawmitten_c::drawmitten_sheet_check` meets its contract. Assumes nothing.
use Rattle.drawmitten_c.proofs.SizeLaws.{counts-small}
use Rattle.drawmitten_c.proofs.drawmitten_sheet_check.Goals as goal

pub told_word-requires : goal.told_word-requires
told_word-requires c =
    rw c.check.ensures (counts-small _)
