-- The promise of the lines leaves one text; it is within the buffer, and where there is room for half as
-- many lines as the build has bytes it is refused with 14 alone. Assumes nothing.
use Rattle.std.specs.Prelude.{Err, Result}
use mathlib.Core.Path.{◌≡◌, ◌∙◌}
use mathlib.Core.List.{List}
use Prim.Native.Nat.{ℕ, ◌*◌, ◌/◌, ◌≤◌}
use native.Mathlib.Omega.{arith}
use lib.ListN.{length}
use Rattle.bits.proofs.SearchLaws.{byBool}
use Rattle.block.specs.declared.Refusal.{Refusal}
use Rattle.block.specs.Refusal.{number_of}
use Rattle.block.specs.Answer.{written_of}
use Rattle.block.proofs.RefusalLaws.{at-refusal}
use Rattle.block.proofs.AnswerLaws.{fills-kept, fills-unique}
use Rattle.line.specs.Line.{longest}
use Rattle.requests.specs.Requests.{requests_of, broken, build_refusal}
use Rattle.requests.specs.Each.{Each}
use Rattle.requests.proofs.RequestLaws.{requests-half}
use Rattle.requests.proofs.CountLaws.{accepts, refuses-broken}
use Rattle.requests.proofs.EachLaws.{each-unique}
use Rattle.requests.proofs.FillLaws.{fills-within}
use Rattle.listing.specs.Listing.{RequestLine, Lists}
use Rattle.listing.proofs.RequestLineLaws.{line-unique, line-short}

pub lists-unique : (s before after after' : List ℕ) (r q : Result ℕ Refusal) → Lists s before after r
    → Lists s before after' q → (r ≡ q) × (after ≡ after')
lists-unique s before after after' r q p p' =
    fills-unique (build_refusal longest s (length before)) (Each RequestLine (requests_of s))
    (each-unique RequestLine line-unique (requests_of s)) before after after' r q p p'

-- the length in use is within the buffer
pub lists-within : (s before after : List ℕ) (r : Result ℕ Refusal) → Lists s before after r
    → (written_of r).parts ≤ length before
lists-within = fills-within RequestLine longest line-short

-- with room for the lines of as many requests as the bytes can hold, only 14 is left
fits_all : (s : List ℕ) (room : ℕ) → longest * (length s / 2) ≤ room
    → (build_refusal longest s room ≡ 0 → ⊥) → build_refusal longest s room ≡ 14
fits_all s room all some =
    byBool (broken s) (refuses-broken longest s room)
    (λ e.
    let half = requests-half s e in
    let fits : longest * length (requests_of s) ≤ room = omega arith in
    absurd (some (accepts longest s room e fits)))

pub lists-refused : (s before after : List ℕ) (k : Refusal) → Lists s before after (Err k)
    → (number_of k ≡ build_refusal longest s (length before)) × (after ≡ before)
lists-refused s before =
    fills-kept (build_refusal longest s (length before)) (Each RequestLine (requests_of s)) before

pub lists-fits : (s before after : List ℕ) (k : Refusal) → Lists s before after (Err k)
    → longest * (length s / 2) ≤ length before → number_of k ≡ 14
lists-fits s before after k lists all =
    let number = (lists-refused s before after k lists).0 in
    number
    ∙ fits_all s (length before) all
    (λ none. at-refusal (λ m. m ≡ 0 → ⊥) (λ m e. omega arith) k (number ∙ none))
