-- `drawmitten_c::drawmitten_sheet_append` meets its contract. Assumes nothing.
use Rattle.drawmitten_c.proofs.SizeLaws.{appends-small}
use Rattle.drawmitten_c.proofs.drawmitten_sheet_append.Goals as goal

pub told_word-requires : goal.told_word-requires
told_word-requires c =
    rw c.append.ensures.answer (appends-small _ _ _)
