-- `filter::useful` meets its contract. The invariant: the list of the first sets of the table, so
-- many, then zeros. Assumes nothing.
use Rattle.filter.specs.Support.{inputs_of}
use Rattle.filter.proofs.ChoiceLaws.{Gathered}
use Rattle.filter.proofs.useful.Given as goal

abbrev pub invariant-loop-set : goal.invariant-loop-set
invariant-loop-set l = Gathered (inputs_of l.n) l.within l.set-index l.sets l.many
