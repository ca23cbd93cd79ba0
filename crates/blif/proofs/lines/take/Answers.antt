-- `blif::lines::take` meets its contract. Assumes nothing.
use Rattle.std.proofs.Common.{[], ◌∷◌, refl, ◌∙◌}
use Rattle.words.proofs.ByteLaws.{alike-pointwise}
use Rattle.blif.proofs.lines.take.Goals as goal

pub returns-then-not-fits-one : goal.returns-then-not-fits-one
returns-then-not-fits-one c =
    let output = c.args.output.now in
    let one = rw c.as_slice.ensures at c.eq-one.ensures in
    let zero = rw c.as_slice-2.ensures at c.eq-zero.ensures in
    let is_one = one ∙ alike-pointwise output (49 ∷ []) in
    let is_zero = zero ∙ alike-pointwise output (48 ∷ []) in
    (refl, rw (is_one, is_zero, c.are_marks.ensures) at c.if-not-fits-one.true)
