-- `text::of_refusal_at` meets its contract: the place has twenty digits at most.
use mathlib.Core.Path.{ap}
use native.Mathlib.Omega.{arith}
use lib.ListN.{length, length-append}
use Rattle.text.proofs.NumberLaws.{number_few}
use Rattle.text.proofs.of_refusal_at.Goals as goal

pub push-requires-2 : goal.push-requires-2
push-requires-2 c =
    let few = number_few c.args.place (omega (arith, c.ranges.place)) in
    let numbered = simp length-append at (ap length c.push.ensures) in
    let placed = simp length-append at (ap length c.push_number.ensures) in
    omega arith
