-- `words::Lines::next` meets its contract: the lines passed have no words. Assumes nothing.
use Rattle.std.proofs.Common.{◌≡◌, length}
use Rattle.std.specs.List.{prefix_len}
use Rattle.words.specs.Text.{separates, content_of}
use Rattle.words.proofs.LinesIterator.next.Given as goal

abbrev pub invariant-loop-line : goal.invariant-loop-line
invariant-loop-line l =
    (content_of l.text ≡ content_of l.initial.self.rest.now)
    × (prefix_len separates l.text ≡ 0)

abbrev pub decreases-loop-line : goal.decreases-loop-line
decreases-loop-line l = length l.text
