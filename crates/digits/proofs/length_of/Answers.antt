-- `digits::length_of` meets its contract. The invariant: the digits counted, less the first, and those of
-- what is left are the digits of the number. Assumes nothing.
use Rattle.std.proofs.Common.{rules}
use mathlib.Core.Path.{ap}
use native.Mathlib.Omega.{arith}
use lib.ListN.{length}
use Rattle.digits.proofs.DigitLaws.{decimal-one, decimal-longer, decimal-some, decimal-u64}
use Rattle.digits.proofs.length_of.Goals as goal

pub overflow_add-many : goal.overflow_add-many
overflow_add-many c =
    let most = decimal-u64 c.args.x (search rules) in
    omega (arith, decimal-some c.loop-rest.rest)

pub loop-rest-preserved : goal.loop-rest-preserved
loop-rest-preserved c = omega (arith, decimal-longer c.loop-rest.rest c.loop-rest-test.true)

pub returns : goal.returns
returns c =
    let one = ap length (decimal-one c.loop-rest.rest (search rules)) in omega arith
