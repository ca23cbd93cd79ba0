-- The text of a build: there is one, it is within the buffer and fits, a broken build is the line of 14,
-- and no other number is told. Assumes nothing.
use Rattle.std.specs.Prelude.{Err, Ok, Result}
use mathlib.Core.Path.{◌≡◌, refl, sym, ap, ◌∙◌}
use mathlib.Core.Bool.{true, false}
use mathlib.Core.List.{List}
use Prim.Native.Nat.{ℕ, ◌*◌, ◌/◌, ◌≤◌}
use native.Mathlib.Omega.{arith}
use lib.Dec.{eqb}
use lib.ListN.{length}
use borrow.Author.Tests.{ne_eqb, eqb-true}
use Rattle.bits.proofs.SearchLaws.{clash}
use Rattle.bits.proofs.TestLaws.{or_cases}
use Rattle.block.specs.declared.Refusal.{Refusal}
use Rattle.block.specs.declared.Refusal.TheVariants.{BrokenBuild}
use Rattle.block.specs.Refusal.{number_of}
use Rattle.block.specs.Answer.{written_of}
use Rattle.block.proofs.AnswerLaws.{fills-refused}
use Rattle.line.specs.declared.Said.{Said}
use Rattle.text.specs.Line.{refusal_line, WritesText}
use Rattle.text.proofs.TextLaws.{text-unique}
use Rattle.line.specs.Line.{longest, told_number, SaysRefusal}
use Rattle.line.proofs.LineLaws.{said_same, Short, refusal-short, short-within, short-fits}
use Rattle.requests.specs.Requests.{requests_of, broken}
use Rattle.requests.specs.Each.{Each}
use Rattle.requests.proofs.CountLaws.{refuses-broken}
use Rattle.listing.specs.Listing.{RequestLine, Lists, SaysListed, Prints, IsPrinted}
use Rattle.listing.proofs.ListingLaws.{lists-unique, lists-within, lists-refused, lists-fits}

said-unique : (listed : Result ℕ Refusal) (lines after after' : List ℕ) (r q : Said) → SaysListed listed lines after r
    → SaysListed listed lines after' q → (r ≡ q) × (after ≡ after')
unfolding SaysListed
said-unique (Ok used) lines after after' r q p p' = (
  said_same r q (p.refusal ∙ sym p'.refusal) (p.line ∙ sym p'.line),
  p.kept ∙ sym p'.kept,
)
said-unique (Err k) lines after after' r q p p' =
    let text = refusal_line (number_of k) in
    let line = text-unique text lines after after' r.line q.line p.written p'.written in
    (said_same r q (p.refusal ∙ sym p'.refusal) line.0, line.1)

pub prints-unique : (s before after after' : List ℕ) (r q : Said) → Prints s before after r
    → Prints s before after' q → (r ≡ q) × (after ≡ after')
prints-unique s before after after' r q p p' =
    let same = lists-unique s before p.lines p'.lines p.listed p'.listed p.lists p'.lists in
    said-unique p.listed p.lines after after' r q p.said (rw (same.0, same.1) p'.said)

-- the line of a refusal in the buffer as it was
refusal-said : (s before lines after : List ℕ) (k : Refusal) (line : Result ℕ Refusal) → Lists s before lines (Err k)
    → WritesText (refusal_line (number_of k)) lines after line → Short before after line
refusal-said s before lines after k line lists written =
    refusal-short k before after line (rw (lists-refused s before lines k lists).1 at written)

said-within : (s before after : List ℕ) (listed : Result ℕ Refusal) (lines : List ℕ) (r : Said) (used : ℕ)
    → r.line ≡ Ok used → Lists s before lines listed → SaysListed listed lines after r
    → used ≤ length before
unfolding SaysListed
said-within s before after (Ok u) lines r used e lists p =
    let same : u ≡ used = ap (λ (w : Result ℕ Refusal). (written_of w).parts) (sym p.line ∙ e) in
    omega (arith, lists-within s before lines (Ok u) lists)
said-within s before after (Err k) lines r used e lists p =
    short-within before after used (rw e at (refusal-said s before lines after k r.line lists p.written))

-- the length in use is within the buffer
pub prints-within : (s before after : List ℕ) (r : Said) (used : ℕ) → r.line ≡ Ok used
    → Prints s before after r → used ≤ length before
prints-within s before after r used e p =
    said-within s before after p.listed p.lines r used e p.lists p.said

said_fits : (s before after : List ℕ) (listed : Result ℕ Refusal) (lines : List ℕ) (r : Said)
    → longest ≤ length before → Lists s before lines listed → SaysListed listed lines after r
    → (written_of r.line).number ≡ 0
unfolding SaysListed
said_fits s before after (Ok u) lines r room lists p = rw p.line
said_fits s before after (Err k) lines r room lists p =
    short-fits before after r.line room
    (refusal-said s before lines after k r.line lists p.written)

-- every text has room where a longest line has
pub prints-fits : (s before after : List ℕ) (r : Said) → longest ≤ length before → Prints s before after r
    → (written_of r.line).number ≡ 0
prints-fits s before after r room p =
    said_fits s before after p.listed p.lines r room p.lists p.said

said-number : (s before after : List ℕ) (listed : Result ℕ Refusal) (lines : List ℕ) (r : Said)
    → longest * (length s / 2) ≤ length before → Lists s before lines listed
    → SaysListed listed lines after r → IsPrinted (told_number r.refusal)
unfolding SaysListed IsPrinted
said-number s before after (Ok u) lines r room lists p = rw p.refusal
said-number s before after (Err k) lines r room lists p =
    rw (p.refusal, lists-fits s before lines k lists room)

-- with room for the lines of as many requests as the bytes can hold, 0 and 14 are told
pub prints-numbers : (s before after : List ℕ) (r : Said) → longest * (length s / 2) ≤ length before
    → Prints s before after r → IsPrinted (told_number r.refusal)
prints-numbers s before after r room p =
    said-number s before after p.listed p.lines r room p.lists p.said

pub printed-zero : (number : ℕ) → IsPrinted number → (number ≡ 14 → ⊥) → number ≡ 0
unfolding IsPrinted
printed-zero number told other =
    let zero = rw (ne_eqb number 14 other) at told in
    or_cases (eqb number 0) false (number ≡ 0) zero (eqb-true number 0) (λ e. clash e refl)

-- a broken build is the line of 14
pub prints-14 : (s before after : List ℕ) (r : Said) → broken s ≡ true → Prints s before after r
    → SaysRefusal BrokenBuild before after r
unfolding SaysListed
prints-14 s before after r some p =
    let refused =
    fills-refused BrokenBuild _ (Each RequestLine (requests_of s)) before
    (sym (refuses-broken longest s (length before) some)) in
    let same = lists-unique s before p.lines before p.listed (Err BrokenBuild) p.lists refused in
    said-14 p.listed p.lines same.0 same.1 p.said
  where
    said-14 : (listed : Result ℕ Refusal) (lines : List ℕ) → listed ≡ Err BrokenBuild → lines ≡ before
        → SaysListed listed lines after r → SaysRefusal BrokenBuild before after r
    said-14 listed lines e kept q = rw (e, kept) at q
