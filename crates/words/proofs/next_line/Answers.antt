-- `words::next_line` meets its contract. Assumes nothing.
use Rattle.std.proofs.Common.{rules}
use Rattle.words.specs.Next.{in_line, next_line}
use Rattle.words.proofs.next_line.Goals as goal

pub returns : goal.returns
unfolding next_line
returns c =
    rw (c.line_next.ensures, c.line_end.ensures, c.past-feed.ensures in_line (λ b r e. search rules))
