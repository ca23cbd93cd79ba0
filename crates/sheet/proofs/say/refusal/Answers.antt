-- The line fits.
use Rattle.std.proofs.Common.{arith}
use Rattle.text.proofs.NumberLaws.{placed-length}
use Rattle.sheet.proofs.LineLaws.{fitted}
use Rattle.sheet.proofs.say.refusal.Goals as goal

pub unwrap-used-requires : goal.unwrap-used-requires
unwrap-used-requires g c =
    fitted _ _ _ _ (placed-length c.args.k c.args.place (omega (arith, c.ranges.place))) c.of_refusal_at.ensures
