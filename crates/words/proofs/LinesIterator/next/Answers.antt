-- `words::Lines::next` meets its contract: the lines passed have no words. Assumes nothing.
use Rattle.std.proofs.Common.{◌≡◌, ◌∷◌, length, sym, ap, ◌∙◌}
use native.Mathlib.Omega.{arith}
use Rattle.words.specs.Text.{separates, words_of, content_of}
use Rattle.words.proofs.PrefixLaws.{prefix-front}
use Rattle.words.proofs.LineLaws.{line-sought, line-first, line-passed, lines-over}
use Rattle.words.proofs.LinesIterator.next.Goals.{Then-has_words}
use Rattle.words.proofs.LinesIterator.next.Goals as goal

-- the line in front, where it has words
first : (c : Then-has_words) → content_of c.args.self.now.rest.now
    ≡ words_of c.split_at-in-loop-line.result.0.now ∷ content_of c.split_at.result.1.now
first c =
    let some = c.has_words.ensures.some c.if-has_words.true in
    sym c.loop-line.invariant.0
    ∙ line-first _ _ (sym c.is_empty.ensures ∙ c.loop-line-test.true) c.next_line-line.ensures _ _
    c.split_at-in-loop-line.ensures.front c.split_at.ensures.back some

pub split_at-requires : goal.split_at-requires
split_at-requires c =
    (line-sought _ _ (sym c.is_empty.ensures ∙ c.loop-line-test.true) c.next_line-line.ensures).next-within

pub split_at-requires-in-loop-line : goal.split_at-requires-in-loop-line
split_at-requires-in-loop-line c =
    (line-sought _ _ (sym c.is_empty.ensures ∙ c.loop-line-test.true) c.next_line-line.ensures).within

pub returns-then-has_words-clause-steps : goal.returns-then-has_words-clause-steps
returns-then-has_words-clause-steps c = first c

pub returns-then-has_words-clause-goes : goal.returns-then-has_words-clause-goes
returns-then-has_words-clause-goes c =
    record { on = λ _. (tt, tt, omega (arith, ap length (first c))); keeps = tt; rests = λ _. tt }

pub loop-line-init : goal.loop-line-init
loop-line-init c = (c.unindented-text.ensures.same, c.unindented-text.ensures.first)

pub has_words-requires : goal.has_words-requires
has_words-requires c =
    rw c.split_at-in-loop-line.ensures.front
    (prefix-front separates c.loop-line.text.now c.next_line-line.result.end c.loop-line.invariant.1)

pub loop-line-smaller : goal.loop-line-smaller
loop-line-smaller c =
    let line = line-sought _ _ (sym c.is_empty.ensures ∙ c.loop-line-test.true) c.next_line-line.ensures in
    let onward = line.onward in
    let within = line.next-within in
    omega (arith, c.split_at.ensures.back_len, c.unindented-text-in-loop-line.ensures.within)

pub loop-line-preserved : goal.loop-line-preserved
loop-line-preserved c =
    let passed =
    line-passed _ _ (sym c.is_empty.ensures ∙ c.loop-line-test.true) c.next_line-line.ensures _ _
    c.split_at-in-loop-line.ensures.front c.split_at.ensures.back
    (c.has_words.ensures.none c.if-has_words.false)
    ∙ c.loop-line.invariant.0 in
    (c.unindented-text-in-loop-line.ensures.same ∙ passed, c.unindented-text-in-loop-line.ensures.first)

pub returns-clause-steps : goal.returns-clause-steps
returns-clause-steps c =
    let none = lines-over c.loop-line.text.now (sym c.is_empty.ensures ∙ c.loop-line-test.false) in
    (sym c.loop-line.invariant.0 ∙ none, none)
