-- `contents::Pins::wires` meets its contract. Assumes nothing.
use mathlib.Core.Path.{refl}
use Rattle.contents.proofs.ChoiceLaws.{direct-lt}
use Rattle.contents.proofs.SideLaws.{shared-bits}
use Rattle.contents.proofs.Pins.wires.Goals as goal

pub returns : goal.returns
returns c =
    let pins = c.args.self in
    record {
      in_f = c.side.ensures;
      in_g = let same = c.exchanged.ensures in rw (same.0, same.1, same.2, same.3) at c.side-2.ensures;
      both = shared-bits pins.inputs.n pins.f pins.g pins.direct pins.tidy;
      pin = refl;
    }

pub overflow_shl-result : goal.overflow_shl-result
overflow_shl-result c =
    let pins = c.args.self in direct-lt pins.inputs.n pins.f pins.g pins.direct pins.tidy
