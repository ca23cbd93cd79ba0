-- `words::unindented`: separators in front are in no word.
use native.Mathlib.Omega.{arith}
use Rattle.std.proofs.lemmas.List.Sums.{prefix_len-le-length}
use Rattle.words.specs.Text.{separates}
use Rattle.words.proofs.LineLaws.{content-from, separators-over}
use Rattle.words.proofs.unindented.Goals as goal

pub split_at-requires : goal.split_at-requires
split_at-requires c =
    let start = c.past.ensures separates (λ b r e. e) in
    omega (arith, start, prefix_len-le-length separates c.args.text.now)

pub returns-clause-same : goal.returns-clause-same
returns-clause-same c =
    content-from _ _ _ (c.past.ensures separates (λ b r e. e)) c.split_at.ensures.back

pub returns-clause-first : goal.returns-clause-first
returns-clause-first c =
    separators-over _ _ _ (c.past.ensures separates (λ b r e. e)) c.split_at.ensures.back
