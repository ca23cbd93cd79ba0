-- Input that was read whole ends within its buffer. Assumes nothing.
use Rattle.std.specs.Prelude.{◌≡◌, ℕ, ◌<◌, Ok, List, length, take}
use Rattle.std.proofs.Common.{arith, sym}
use Rattle.std.proofs.lemmas.List.{length-take-le}
use Rattle.std.specs.declared.result.Result.{Result}
use Rattle.std.specs.declared.io.Error.{Error}
use Rattle.input.specs.declared.Input.{Input}
use Rattle.input.specs.declared.Input.TheVariants.{Whole}
use Rattle.input.specs.Input.{LeavesRoom}

pub whole_within : (r : Result Input Error) (used room : ℕ) → r ≡ Ok (Whole used) → LeavesRoom r room → used < room
unfolding LeavesRoom
whole_within r used room is left = rw is at left

-- so that the bytes up to there are as many
pub whole_taken : (r : Result Input Error) (used : ℕ) (buf : List ℕ) → r ≡ Ok (Whole used)
    → LeavesRoom r (length buf) → used ≡ length (take used buf)
whole_taken r used buf is left =
    sym (length-take-le used buf (omega (arith, whole_within r used (length buf) is left)))
