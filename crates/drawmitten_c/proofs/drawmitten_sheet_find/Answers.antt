-- `drawmitten_c::drawmitten_sheet_find` meets its contract. Assumes nothing.
use Rattle.drawmitten_c.proofs.SizeLaws.{places-small}
use Rattle.drawmitten_c.proofs.drawmitten_sheet_find.Goals as goal

pub told_word-requires : goal.told_word-requires
told_word-requires c =
    rw c.place_of.ensures (places-small _ _)
