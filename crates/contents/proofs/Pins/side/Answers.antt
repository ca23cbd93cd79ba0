-- `contents::Pins::side` meets its contract. Assumes nothing.
use mathlib.Core.Path.{refl}
use native.Mathlib.Omega.{arith}
use Rattle.contents.proofs.ChoiceLaws.{direct-lt}
use Rattle.contents.proofs.SideLaws.{f-nine, is-side}
use Rattle.contents.proofs.Pins.side.Goals as goal

pub overflow_sub-keep : goal.overflow_sub-keep
overflow_sub-keep c =
    let pins = c.args.self in
    omega (arith, f-nine pins.inputs.n pins.f pins.g pins.direct pins.tidy)

pub overflow_shl-keep : goal.overflow_shl-keep
overflow_shl-keep c =
    let pins = c.args.self in direct-lt pins.inputs.n pins.f pins.g pins.direct pins.tidy

pub returns : goal.returns
returns c =
    let pins = c.args.self in
    is-side pins.inputs.n pins.f pins.g pins.direct pins.tidy
    c.args.t.now _ c.key_of-key.ensures c.changes.ensures refl

pub overflow_shr-result : goal.overflow_shr-result
overflow_shr-result c =
    let pins = c.args.self in direct-lt pins.inputs.n pins.f pins.g pins.direct pins.tidy
