-- `contents::Pins::exchanged` meets its contract. Assumes nothing.
use Rattle.contents.proofs.ChoiceLaws.{tidy-exchanged}
use Rattle.contents.proofs.Pins.exchanged.Goals as goal

pub invariant_of-result : goal.invariant_of-result
invariant_of-result c =
    let pins = c.args.self in record { tidy = tidy-exchanged pins.inputs.n pins.f pins.g pins.direct pins.tidy }
