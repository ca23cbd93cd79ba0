-- `filter::rest_of` meets its contract. Assumes nothing.
use Prim.Native.Nat.{◌-◌, ◌%◌}
use native.Mathlib.Omega.{arith}
use lib.Bits.{and_le_r}
use Rattle.bits.specs.Bits.{has}
use Rattle.bits.proofs.BitLaws.{has-low}
use Rattle.filter.proofs.SetLaws.{and-rest}
use Rattle.filter.proofs.rest_of.Goals as goal

pub returns : goal.returns
returns c =
    let within = c.args.within in
    let set = c.args.set in
    let le = and_le_r within (511 - set % 512) in (
      and-rest 9 within (set % 512) (has set) (omega arith) (omega arith) (has-low 9 set)
          (omega arith),
      omega arith,
    )
