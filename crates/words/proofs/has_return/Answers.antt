-- `words::has_return` meets its contract. Assumes nothing.
use borrow.Author.Tests.{lt-ltb, le-ltb}
use Rattle.words.specs.Next.{ends_cr_lf}
use Rattle.words.proofs.has_return.Goals as goal

pub returns-then-feed-at : goal.returns-then-feed-at
unfolding ends_cr_lf
returns-then-feed-at c = rw (lt-ltb _ _ c.requires, le-ltb _ _ c.if-feed-at.true)

pub returns : goal.returns
unfolding ends_cr_lf
returns c =
    rw (lt-ltb _ _ c.requires, lt-ltb _ _ c.if-feed-at.false)
