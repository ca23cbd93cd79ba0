-- The line fits.
use Rattle.std.proofs.Common.{arith}
use Rattle.text.proofs.NumberLaws.{count-length}
use Rattle.sheet.proofs.LineLaws.{fitted}
use Rattle.sheet.proofs.say.count.Goals as goal

pub unwrap-used-requires : goal.unwrap-used-requires
unwrap-used-requires g c =
    fitted _ _ _ _ (count-length c.args.count (omega (arith, c.ranges.count))) c.of_count.ensures
