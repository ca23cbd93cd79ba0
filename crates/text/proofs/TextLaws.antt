-- A text that is written, and the length of a refusal's line. Assumes nothing.
use Rattle.std.specs.Prelude.{Ok, Result}
use mathlib.Core.Path.{◌≡◌, ◌∙◌}
use mathlib.Core.List.{List}
use Prim.Native.Nat.{ℕ, ◌≤◌}
use native.Mathlib.Omega.{arith}
use lib.Dec.{ltb}
use lib.ListN.{length}
use borrow.Author.Tests.{le-ltb, ltb-true, ltb-false}
use Rattle.bits.specs.Tests.{pick}
use Rattle.bits.proofs.SearchLaws.{byBool}
use Rattle.block.specs.declared.Refusal.{Refusal}
use Rattle.block.specs.Refusal.{number_of}
use Rattle.block.specs.Answer.{written_of}
use Rattle.block.proofs.RefusalLaws.{two_digits, pick-zero}
use Rattle.block.proofs.AnswerLaws.{written-unique, written-number, answered-parts}
use Rattle.digits.proofs.DigitLaws.{decimal-one, decimal-two}
use Rattle.text.specs.Line.{refusal_line, WritesText}

pub text-unique : (text before after after' : List ℕ) (r q : Result ℕ Refusal) → WritesText text before after r
    → WritesText text before after' q → (r ≡ q) × (after ≡ after')
text-unique text before after after' r q w w' =
    written-unique (pick (ltb (length before) (length text)) 5 0) text before after after' r q w w'

-- the length in use is within the buffer
pub text-within : (text before after : List ℕ) (used : ℕ) → WritesText text before after (Ok used)
    → used ≤ length before
text-within text before after used w =
    let lacks = ltb (length before) (length text) in
    let parts = answered-parts (pick lacks 5 0) 0 (length text) used w.told in
    let room = ltb-false (length before) (length text) (pick-zero lacks 4 0 parts.0).0 in
    omega (arith, parts.1)

-- a text that has room is not refused
pub text-fits : (text before after : List ℕ) (r : Result ℕ Refusal) → length text ≤ length before
    → WritesText text before after r → (written_of r).number ≡ 0
text-fits text before after r room w =
    written-number _ text before after r w ∙ rw (le-ltb (length before) (length text) room)

pub refusal-length : (k : Refusal) → length (refusal_line (number_of k)) ≤ 5
unfolding refusal_line
refusal-length k =
    let number = number_of k in
    byBool (ltb number 10)
    (λ e. rw (decimal-one number (ltb-true number 10 e)) (omega arith))
    (λ e. rw (decimal-two number (ltb-false number 10 e) (two_digits k)) (omega arith))
