-- `contents::Wires::slot` meets its contract. Assumes nothing.
use native.Mathlib.Omega.{arith}
use Rattle.wiring.proofs.ReadLaws.{pin_value-num}
use Rattle.contents.specs.Code.{slot_by}
use Rattle.contents.proofs.Wires.slot.Goals as goal

pub returns : goal.returns
unfolding slot_by
returns c =
    let args = c.args in
    let in_f = c.changed.ensures in
    let in_g = c.changed-2.ensures in
    let direct = c.pin_value.ensures in (
      rw (in_f.0, in_g.0, direct.0, pin_value-num args.self.direct args.row),
      omega (arith, in_f.1, in_g.1, direct.1),
    )
