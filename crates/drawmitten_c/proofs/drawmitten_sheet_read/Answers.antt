-- `drawmitten_c::drawmitten_sheet_read` meets its contract. Assumes nothing.
use Rattle.drawmitten_c.proofs.SizeLaws.{copies-small}
use Rattle.drawmitten_c.proofs.drawmitten_sheet_read.Goals as goal

pub told_word-requires : goal.told_word-requires
told_word-requires c =
    rw c.copy_out.ensures.answer (copies-small _ _ _)
