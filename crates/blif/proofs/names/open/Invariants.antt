-- `blif::names::open` meets its contract: the words passed are names, and counted. Assumes nothing.
use Rattle.words.specs.Left.{words_left}
use Rattle.blif.proofs.NameLaws.{CountedOn}
use Rattle.blif.proofs.names.open.Given as goal

abbrev pub invariant-loop-name : goal.invariant-loop-name
invariant-loop-name l =
    ((goal.iterator-loop-name).can_next l.name-iterator)
    × ((goal.iterator-loop-name).is_finite l.name-iterator)
    × CountedOn (words_left l.words) (words_left l.name-iterator) l.many
