-- `blif::names::repeats` meets its contract: no word passed comes again, so those that are left decide.
-- Assumes nothing.
use mathlib.Core.Path.{◌≡◌}
use Rattle.words.specs.Left.{words_left}
use Rattle.blif.specs.Part.{repeats}
use Rattle.blif.proofs.names.repeats.Given as goal

abbrev pub invariant-loop-name : goal.invariant-loop-name
invariant-loop-name l =
    ((goal.iterator-loop-name).can_next l.rest)
    × ((goal.iterator-loop-name).is_finite l.rest)
    × (repeats (words_left l.rest) ≡ repeats (words_left l.fn.words))
