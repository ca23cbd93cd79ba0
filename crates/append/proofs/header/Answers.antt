-- `append::header` meets its contract, byte by byte. Assumes nothing.
use Rattle.record.proofs.LayoutLaws.{header-bytes}
use Rattle.append.proofs.header.Goals as goal

pub returns : goal.returns
returns c =
    let x = c.args.x in
    header-bytes x.craft x.block x.n c.join4.result c.join4.ensures
