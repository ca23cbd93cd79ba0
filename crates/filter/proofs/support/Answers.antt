-- `filter::support` meets its contract. The invariant: the variables looked at that the table depends
-- on. Assumes nothing.
use mathlib.Core.Path.{◌≡◌, refl, sym, ◌∙◌}
use native.Mathlib.Omega.{arith}
use Rattle.bits.specs.Bits.{of_bits}
use Rattle.bits.proofs.SetLaws.{with-last, without-last}
use Rattle.wiring.specs.Fits.{depends_on}
use Rattle.filter.specs.Support.{support_of}
use Rattle.filter.proofs.support.Goals as goal
use Rattle.filter.proofs.support.Goals.{then-depends, else-depends}

pub loop-v-init : goal.loop-v-init
unfolding of_bits
loop-v-init c =
    (omega arith, refl)

pub loop-v-preserved : goal.loop-v-preserved
loop-v-preserved c =
    let l = c.loop-v in
    let end = c.inputs-end.result in
    let t = c.args.t.now in
    let told = c.depends.ensures in (
      omega arith,
      elim c.if-depends.branch [
        | then-depends w ↦
            w.set-is ∙ rw (w.power-set.ensures.0, l.invariant.1) (with-last l.v (depends_on end t) (sym told ∙ w.if-depends.true))
        | else-depends w ↦
            w.set-is ∙ l.invariant.1 ∙ without-last l.v (depends_on end t) (sym told ∙ w.if-depends.false)
      ],
    )

pub returns : goal.returns
unfolding support_of
returns c =
    let l = c.loop-v in
    let end = c.inputs-end in
    let done : l.v ≡ end.result = omega arith in
    l.invariant.1 ∙ rw (done, end.ensures.0)
