-- The number of requests of a build, or why it is refused. Assumes nothing.
use Rattle.std.specs.Prelude.{ℕ, ◌≡◌, List, length, Err, Ok, Result}
use Rattle.block.specs.declared.Refusal.{Refusal}
use Rattle.block.specs.declared.Refusal.TheVariants.{BrokenBuild}
use Rattle.bits.specs.Tests.{pick}
use Rattle.block.specs.Refusal.{number_of}
use Rattle.block.specs.Answer.{Answer, answer, answered}
use Rattle.requests.specs.Requests.{requests_of, broken, build_refusal}

-- that one is broken, or else how many there are
abbrev pub Walks : (s : List ℕ) (r : Result ℕ Refusal) → Type 0
Walks s r = r ≡ pick (broken s) (Err BrokenBuild) (Ok (length (requests_of s)))

-- counting answers how many there are
abbrev pub counted_of : Result ℕ Refusal → Answer ℕ
counted_of (Ok k) = answer 0 k
counted_of (Err k) = answer (number_of k) 0

-- What counting promises: 14 or 5, and 0 for the number of requests; else that number.
abbrev pub Counts : (size : ℕ) (s : List ℕ) (room : ℕ) (r : Result ℕ Refusal) → Type 0
Counts size s room r = counted_of r ≡ answered (build_refusal size s room) 0 (length (requests_of s))

-- a build of so many requests that is not refused
pub record Accepted (size : ℕ) (s : List ℕ) (room many : ℕ) : Type 0 where
  pub fine : build_refusal size s room ≡ 0
  pub counted : many ≡ length (requests_of s)
