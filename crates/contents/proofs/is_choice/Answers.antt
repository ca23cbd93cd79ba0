-- `contents::is_choice` meets its contract. Assumes nothing.
use Rattle.contents.proofs.ChoiceLaws.{choice-by}
use Rattle.contents.proofs.is_choice.Goals as goal

pub returns : goal.returns
returns c =
    rw c.rows.ensures (choice-by c.args.inputs.n c.args.set c.args.inputs.within)
