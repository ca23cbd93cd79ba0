-- `marks::byte` meets its contract. Assumes nothing.
use Rattle.marks.proofs.WriteLaws.{byte-made}
use Rattle.marks.proofs.byte.Goals as goal

pub returns : goal.returns
returns c =
    byte-made c.args.rows.words c.args.j
