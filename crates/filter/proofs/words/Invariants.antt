-- `filter::words` meets its contract. The invariant: the words so far, then zeros. Assumes nothing.
use mathlib.Core.Path.{◌≡◌}
use lib.ListN.{length}
use Rattle.filter.specs.Choices.{filled_up}
use Rattle.filter.specs.Words.{words_to}
use Rattle.filter.proofs.words.Given as goal

abbrev pub invariant-loop-a : goal.invariant-loop-a
invariant-loop-a l =
    record {
      all : length l.slot-items ≡ 16;
      so_far : l.slot-items ≡ filled_up 16 (words_to l.t l.within l.set l.a);
    }
