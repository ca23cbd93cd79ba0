-- `contents::Wires::level` meets its contract. Assumes nothing.
use mathlib.Core.Path.{◌∙◌}
use Rattle.wiring.proofs.ReadLaws.{pin_value-num}
use Rattle.contents.proofs.Wires.level.Goals as goal

pub returns-then-s : goal.returns-then-s
returns-then-s c =
    let read = c.pin_value.ensures in
    let args = c.args in
    rw c.if-s.true (read.0 ∙ pin_value-num args.self.direct args.row, read.1)
