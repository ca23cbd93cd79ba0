-- `words::next_word` meets its contract. Assumes nothing.
use Rattle.std.proofs.Common.{rules}
use Rattle.words.specs.Text.{separates}
use Rattle.words.specs.Next.{in_word, next_word}
use Rattle.words.proofs.next_word.Goals as goal

pub returns : goal.returns
unfolding next_word
returns c =
    rw (c.past.ensures in_word (λ b r e. search rules), c.past-start.ensures separates (λ b r e. search rules))
