-- The promises of the line leave one line, which is within the buffer and no longer than the longest. Assumes
-- nothing.
use Rattle.std.specs.Prelude.{Option, None, Some, Err, Ok, Result}
use Rattle.std.specs.Result.{result_err}
use mathlib.Core.Path.{◌≡◌, refl, sym, ap₂, ◌∙◌}
use mathlib.Core.List.{List, [], ◌∷◌}
use Prim.Native.Nat.{ℕ, ◌≤◌}
use native.Mathlib.Omega.{arith}
use lib.ListN.{length}
use Rattle.block.specs.declared.Refusal.{Refusal}
use Rattle.block.specs.declared.Refusal.TheVariants.{WrongLength}
use Rattle.block.specs.Refusal.{number_of}
use Rattle.block.specs.Answer.{written_of}
use Rattle.block.proofs.RefusalLaws.{at-refusal}
use Rattle.codec.specs.Ten.{ten_zeros}
use Rattle.codec.proofs.CheckLaws.{accepted-of-none}
use Rattle.matcher.specs.Match.{Matched}
use Rattle.matcher.proofs.UniqueMatch.{match-unique}
use Rattle.line.specs.declared.Said.{Said}
use Rattle.text.specs.Line.{refusal_line, WritesText}
use Rattle.text.proofs.TextLaws.{text-unique, text-within, text-fits, refusal-length}
use Rattle.text.proofs.BlockLaws.{block-length}
use Rattle.line.specs.Line.{answer_line, told_number, Says, Lines, Answers, longest}
use Rattle.line.proofs.PartLaws.{ten-checked, says-lines}

pub lines-unique : (n : ℕ) (t before after after' : List ℕ) (r q : Result ℕ Refusal) → Lines n t before after r
    → Lines n t before after' q → (r ≡ q) × (after ≡ after')
lines-unique n t before after after' r q p p' =
    let same = match-unique n t ten_zeros p.ten p'.ten p.answer p'.answer p.matched p'.matched in
    let text = answer_line p.ten p.answer in
    text-unique text before after after' r q p.written (rw (same.0, same.1) p'.written)

abbrev said : (refusal : Option Refusal) (line : Result ℕ Refusal) → Said
said refusal line = record { refusal = refusal; line = line }

-- what is said, by its two parts
pub said_same : (r q : Said) → r.refusal ≡ q.refusal → r.line ≡ q.line → r ≡ q
said_same r q refusal line = ap₂ said refusal line

pub says-unique : (n : ℕ) (t before after after' : List ℕ) (r q : Said) → Says n t before after r
    → Says n t before after' q → (r ≡ q) × (after ≡ after')
says-unique n t before after after' r q p p' =
    let same = match-unique n t ten_zeros p.ten p'.ten p.answer p'.answer p.matched p'.matched in
    let refusal : r.refusal ≡ q.refusal = p.refusal ∙ rw same.0 (sym p'.refusal) in
    let lines = says-lines n t before after r p in
    let lines' = says-lines n t before after' q p' in
    let line = lines-unique n t before after after' r.line q.line lines lines' in
    (said_same r q refusal line.0, line.1)

-- the number that is told is that of the answer; and where it is 0, no refusal is
pub told-written : (r : Result ℕ Refusal) → told_number (result_err r) ≡ (written_of r).number
told-written (Ok used) = refl
told-written (Err k) = refl

pub told-none : (k : Option Refusal) → told_number k ≡ 0 → k ≡ None
told-none None e = refl
told-none (Some k) e = absurd (at-refusal (λ m. m ≡ 0 → ⊥) (λ m z. omega arith) k e)

pub answers-unique : (input before after after' : List ℕ) (r q : Result ℕ Refusal) → Answers input before after r
    → Answers input before after' q → (r ≡ q) × (after ≡ after')
unfolding Answers
answers-unique [] before after after' r q p p' = text-unique (refusal_line 2) before after after' r q p p'
answers-unique (n ∷ t) before after after' r q p p' = lines-unique n t before after after' r q p p'

pub answer-length : (n : ℕ) (t ten : List ℕ) (answer : Result ℕ Refusal) → Matched n t ten_zeros ten answer
    → length (answer_line ten answer) ≤ longest
answer-length n t ten (Ok used) m =
    omega (arith, block-length ten (accepted-of-none n ten (ten-checked n t ten used m)).ten)
answer-length n t ten (Err k) m = omega (arith, refusal-length k)

-- a text no longer than the longest line that was written, or had no room
pub record Short (before after : List ℕ) (r : Result ℕ Refusal) : Type 0 where
  pub text : List ℕ
  pub short : length text ≤ longest
  pub written : WritesText text before after r

pub refusal-short : (k : Refusal) (before after : List ℕ) (r : Result ℕ Refusal)
    → WritesText (refusal_line (number_of k)) before after r → Short before after r
refusal-short k before after r w =
    record { text = refusal_line (number_of k); short = omega (arith, refusal-length k); written = w }

pub lines-short : (n : ℕ) (t before after : List ℕ) (r : Result ℕ Refusal) → Lines n t before after r
    → Short before after r
lines-short n t before after r l =
    record {
      text = answer_line l.ten l.answer;
      short = answer-length n t l.ten l.answer l.matched;
      written = l.written;
    }

answers-short : (input before after : List ℕ) (r : Result ℕ Refusal) → Answers input before after r
    → Short before after r
unfolding Answers
answers-short [] before after r w = refusal-short WrongLength before after r w
answers-short (n ∷ t) before after r l = lines-short n t before after r l

-- the length in use is within the buffer
pub short-within : (before after : List ℕ) (used : ℕ) → Short before after (Ok used)
    → used ≤ length before
short-within before after used t = text-within t.text before after used t.written

pub answers-within : (input before after : List ℕ) (used : ℕ) → Answers input before after (Ok used)
    → used ≤ length before
answers-within input before after used h =
    short-within before after used (answers-short input before after (Ok used) h)

-- every line has room in so many bytes
pub short-fits : (before after : List ℕ) (r : Result ℕ Refusal) → longest ≤ length before → Short before after r
    → (written_of r).number ≡ 0
short-fits before after r room t = text-fits t.text before after r (omega (arith, t.short)) t.written

pub line-fits : (input before after : List ℕ) (r : Result ℕ Refusal) → longest ≤ length before → Answers input before after r
    → (written_of r).number ≡ 0
line-fits input before after r room h =
    short-fits before after r room (answers-short input before after r h)
