-- The lines of a build, one for each request and in their order (request 1). Assumes nothing.
use Rattle.std.specs.Prelude.{ℕ, ◌≡◌, true, List, [], ◌∷◌, length, None, Err, Ok, Result}
use Rattle.block.specs.declared.Refusal.{Refusal}
use Rattle.bits.specs.Tests.{member}
use Rattle.block.specs.Answer.{Fills}
use Rattle.matcher.specs.Single.{Single}
use Rattle.requests.specs.Requests.{Request, requests_of, build_refusal}
use Rattle.requests.specs.Each.{Each}
use Rattle.line.specs.declared.Said.{Said}
use Rattle.line.specs.Line.{answer_line, longest, SaysRefusal}

-- the line of a request: that of the answer to a single call
abbrev pub RequestLine : (q : Request) (text : List ℕ) → Type 0
RequestLine q text = Single q.n q.table answer_line text

-- What the lines of a build promise: 14, or 5 where there is no room for so many longest lines, and no
-- byte changed; else a line for each request, no byte after them changed, and their length.
abbrev pub Lists : (s before after : List ℕ) (r : Result ℕ Refusal) → Type 0
Lists s before after r =
    Fills (build_refusal longest s (length before)) (Each RequestLine (requests_of s)) before after r

-- the lines as they were written, and no refusal
pub record SaysLines (used : ℕ) (lines after : List ℕ) (r : Said) : Type 0 where
  pub refusal : r.refusal ≡ None
  pub line : r.line ≡ Ok used
  pub kept : after ≡ lines

-- what is said of a listing's answer, in the buffer as the listing left it
unfoldable pub SaysListed : (listed : Result ℕ Refusal) (lines after : List ℕ) (r : Said) → Type 0
SaysListed (Ok used) lines after r = SaysLines used lines after r
SaysListed (Err k) lines after r = SaysRefusal k lines after r

-- What the text of a build promises: its lines, or the line of the refusal of the whole of it; and that
-- refusal, or none.
pub record Prints (s before after : List ℕ) (r : Said) : Type 0 where
  pub listed : Result ℕ Refusal
  pub lines : List ℕ
  pub lists : Lists s before lines listed
  pub said : SaysListed listed lines after r

-- the numbers that a program can come to print: 0, and 14 for the whole of a build
unfoldable pub IsPrinted : ℕ → Type 0
IsPrinted number = member number (0 ∷ 14 ∷ []) ≡ true
