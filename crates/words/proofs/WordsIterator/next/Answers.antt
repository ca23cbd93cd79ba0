-- `words::Words::next` meets its contract: the word in front and what follows it are what was left.
-- Assumes nothing.
use Rattle.std.proofs.Common.{ap, length}
use native.Mathlib.Omega.{arith}
use Rattle.words.proofs.NextLaws.{sought, word-left}
use Rattle.words.proofs.WordsIterator.next.Goals as goal

pub returns-then-word-clause-steps : goal.returns-then-word-clause-steps
returns-then-word-clause-steps c =
    let none = (sought _ 0 _ c.next_word-word.ensures).none c.if-word.true in (none, none)

pub split_at-requires : goal.split_at-requires
split_at-requires c = (sought _ 0 _ c.next_word-word.ensures).within (omega arith)

pub slice_bounds-result-count : goal.slice_bounds-result-count
slice_bounds-result-count c = (sought _ 0 _ c.next_word-word.ensures).ordered

pub slice_bounds-result-start : goal.slice_bounds-result-start
slice_bounds-result-start c =
    let next = sought _ 0 _ c.next_word-word.ensures in
    let ordered = next.ordered in
    let within = next.within (omega arith) in
    omega arith

pub returns-clause-steps : goal.returns-clause-steps
returns-clause-steps c =
    word-left _ _ _ c.next_word-word.ensures c.if-word.false c.split_at.ensures.back

pub returns-clause-goes : goal.returns-clause-goes
returns-clause-goes c =
    let left = word-left _ _ _ c.next_word-word.ensures c.if-word.false c.split_at.ensures.back in
    record { on = λ _. (tt, tt, omega (arith, ap length left)); keeps = tt; rests = λ _. tt }
