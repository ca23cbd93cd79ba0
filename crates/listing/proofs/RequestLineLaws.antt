-- The line of one request: there is one, it is no longer than the longest line, and it is what the
-- program prints for that request alone. Assumes nothing.
use Rattle.std.specs.Prelude.{Ok, Result}
use Rattle.block.specs.declared.Refusal.{Refusal}
use mathlib.Core.Path.{◌≡◌, refl, ap}
use mathlib.Core.List.{List, ◌∷◌, ◌++◌}
use Prim.Native.Nat.{ℕ, ◌≤◌}
use native.Mathlib.Omega.{arith}
use lib.ListN.{length, drop}
use borrow.Author.Tests.{le-ltb}
use Rattle.block.specs.Answer.{Writes}
use Rattle.block.proofs.AnswerLaws.{writes_bytes, written-unique}
use Rattle.matcher.proofs.UniqueMatch.{single-unique}
use Rattle.line.specs.Line.{answer_line, Lines, Answers, longest}
use Rattle.line.proofs.LineLaws.{answer-length}
use Rattle.requests.specs.Requests.{Request}
use Rattle.listing.specs.Listing.{RequestLine}

pub line-unique : (q : Request) (a b : List ℕ) → RequestLine q a → RequestLine q b → a ≡ b
line-unique q = single-unique q.n q.table answer_line

pub line-short : (q : Request) (text : List ℕ) → RequestLine q text → length text ≤ longest
line-short q text p =
    let short = answer-length q.n q.table p.ten p.answer p.matched in
    omega (arith, ap length p.made)

-- the line that was written for a request
pub line_of : (q : Request) (before after : List ℕ) (r : Result ℕ Refusal) (l : Lines q.n q.table before after r)
    → RequestLine q (answer_line l.ten l.answer)
line_of q before after r l =
    record { answer = l.answer; ten = l.ten; matched = l.matched; made = refl }

-- where every line has room, its bytes are written
pub line-written : (q : Request) (text before after : List ℕ) (r : Result ℕ Refusal) → RequestLine q text
    → Lines q.n q.table before after r → longest ≤ length before
    → (r ≡ Ok (length text)) × (after ≡ text ++ drop (length text) before)
line-written q text before after r p l room =
    let same = line-unique q text (answer_line l.ten l.answer) p (line_of q before after r l) in
    let short = line-short q text p in
    let wrote : Writes 0 text before after r =
    rw (le-ltb (length before) (length text) (omega arith)) at (rw (← same) at l.written) in
    written-unique 0 text before after (text ++ drop (length text) before) r (Ok (length text)) wrote
    (writes_bytes 0 text before (text ++ drop (length text) before) (length text) refl refl refl)

pub line-single : (q : Request) (text before after : List ℕ) (r : Result ℕ Refusal) → RequestLine q text
    → Answers (q.n ∷ q.table) before after r → longest ≤ length before
    → (r ≡ Ok (length text)) × (after ≡ text ++ drop (length text) before)
unfolding Answers
line-single q text before after r p l room = line-written q text before after r p l room
