-- `words::line_end` meets its contract: a CR stands before the LF only if there is a byte before it.
-- Assumes nothing.
use mathlib.Core.Path.{sym, ◌∙◌}
use native.Mathlib.Omega.{arith}
use Rattle.words.proofs.LineLaws.{crlf-after, crlf-before}
use Rattle.words.proofs.line_end.Goals as goal

pub returns-then-text-feed : goal.returns-then-text-feed
returns-then-text-feed c = rw (crlf-before _ _ _ c.if-text-feed.true)

pub overflow_sub-result : goal.overflow_sub-result
overflow_sub-result c =
    let after = crlf-after _ _ _ (sym c.has_return.ensures ∙ c.if-has_return.true) in omega arith
