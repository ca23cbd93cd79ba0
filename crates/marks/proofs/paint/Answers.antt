-- `marks::paint` meets its contract. Assumes nothing.
use Rattle.std.proofs.Common.{rules, ◌≡◌, length, ◌∙◌}
use native.Mathlib.Omega.{arith}
use Rattle.marks.specs.Rows.{covered_word, painted}
use Rattle.marks.proofs.OverLaws.{over-all}
use Rattle.marks.proofs.RowsLaws.{word_made, painted-length, painted-turn}
use Rattle.marks.proofs.paint.Goals as goal

pub loop-w-preserved : goal.loop-w-preserved
loop-w-preserved c =
    let eight : length c.args.rows.words ≡ 8 = search rules in
    let l = c.loop-w in
    let marks = c.args.marks.now in
    let words = c.args.rows.words in
    let word : c.kept.result ≡ covered_word marks l.w =
    rw (
      c.kept.ensures,
      c.is_row.ensures,
      c.words_of-high.ensures,
      c.rows_of-low.ensures,
    )
    (word_made marks l.w (omega arith)) in
    rw (word, l.invariant) (painted-turn marks words l.w (omega arith))

pub returns : goal.returns
returns c =
    let eight : length c.args.rows.words ≡ 8 = search rules in
    let l = c.loop-w in
    let marks = c.args.marks.now in
    let words = c.args.rows.words in
    let same = painted-length marks 0 words in
    let done : l.w ≡ length (painted marks 0 words) = omega arith in
    l.invariant ∙ rw done (over-all (painted marks 0 words) words same)
