-- `digits::number_in` meets its contract: the value in hand and the bytes that are left decide. Assumes
-- nothing.
use Rattle.digits.specs.Spelled.{most_number}
use Rattle.digits.proofs.NumberLaws.{Reading}
use Rattle.digits.proofs.number_in.Given as goal

abbrev pub invariant-loop-c : goal.invariant-loop-c
invariant-loop-c l = Reading l.word most_number l.value l.c-index
