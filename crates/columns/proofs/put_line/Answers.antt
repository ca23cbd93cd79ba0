-- `columns::put_line` meets its contract: the numbers, then the block's line. Assumes nothing.
use native.Mathlib.Omega.{arith}
use Rattle.columns.specs.Columns.{InColumns}
use Rattle.columns.proofs.LineLaws.{in-columns, line-put}
use Rattle.columns.proofs.put_line.Goals as goal

pub put_numbers-requires : goal.put_numbers-requires
put_numbers-requires c =
    let columned : InColumns c.args.place c.numbers_of-x.result =
    rw c.numbers_of-x.ensures (in-columns _ _ c.requires.place_lt_most_records.0 c.requires.s_len.1)
    in
    (columned, omega (arith, c.requires.place_lt_most_records.1))

pub returns : goal.returns
returns c =
    line-put _ _ c.args.out.now _ _ _ _ c.requires.s_len.0 c.requires.s_len.1 c.requires.place_lt_most_records.0
    c.requires.place_lt_most_records.1 c.numbers_of-x.ensures
    c.put_numbers.ensures c.of_block.ensures
