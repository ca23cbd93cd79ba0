-- `contents::turned` meets its contract. Assumes nothing.
use mathlib.Core.Bool.{false}
use Prim.Native.Nat.{◌<◌}
use native.Mathlib.Omega.{arith}
use Rattle.contents.proofs.TurnLaws.{Moved, turns-f, turns-g, flip-none, moved-both}
use Rattle.contents.proofs.turned.Goals as goal
use Rattle.contents.proofs.turned.Goals.{then-f, else-f}

pub returns-then-g : goal.returns-then-g
returns-then-g c =
    let small : c.if-f.by_f < 256 =
    elim c.if-f.branch [ then-f w ↦ omega arith | else-f w ↦ omega arith ] in
    let by-f : Moved c.args.h c.args.f false c.if-f.by_f =
    elim c.if-f.branch [
      | then-f w ↦ rw (w.by_f-is, w.if-f.true) (turns-f c.args.h (omega arith))
      | else-f w ↦ λ e l. rw (w.by_f-is, w.if-f.false, flip-none e l)
    ] in
    moved-both c.args.h c.if-f.by_f _ c.args.f c.args.g by-f (rw c.if-g.true (turns-g c.if-f.by_f small))

pub returns-else-g : goal.returns-else-g
returns-else-g c =
    let by-f : Moved c.args.h c.args.f false c.if-f.by_f =
    elim c.if-f.branch [
      | then-f w ↦ rw (w.by_f-is, w.if-f.true) (turns-f c.args.h (omega arith))
      | else-f w ↦ λ e l. rw (w.by_f-is, w.if-f.false, flip-none e l)
    ] in
    rw c.if-g.false by-f
