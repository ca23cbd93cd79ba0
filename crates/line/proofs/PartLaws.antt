-- The parts of the line, as the code makes them. Assumes nothing.
use Rattle.std.specs.Prelude.{Ok}
use mathlib.Core.Path.{◌≡◌, ◌∙◌}
use mathlib.Core.List.{List, append-nil}
use Prim.Native.Nat.{ℕ}
use native.Mathlib.Omega.{arith}
use Rattle.block.proofs.AnswerLaws.{answered-parts}
use Rattle.codec.specs.Ten.{ten_zeros, pack_of}
use Rattle.codec.specs.Check.{check_refusal}
use Rattle.codec.proofs.CheckLaws.{none-of-accepted}
use Rattle.round.proofs.PackedLaws.{packed-ten, packed-accepted}
use Rattle.matcher.specs.Match.{match_refusal, Matched, refused, unmatched, matched}
use Rattle.matcher.proofs.UniqueMatch.{acceptable}
use Rattle.line.specs.declared.Said.{Said}
use Rattle.line.specs.Line.{Says, Lines}

-- the ten bytes of a match pass the check
pub ten-checked : (n : ℕ) (t ten : List ℕ) (used : ℕ) → Matched n t ten_zeros ten (Ok used)
    → check_refusal n ten ≡ 0
ten-checked n t ten used (refused some w) =
    absurd (some (answered-parts (match_refusal n t 10) 0 0 used w.told).0)
ten-checked n t ten used (unmatched none never w) =
    let z = (answered-parts 4 0 0 used w.told).0 in absurd (omega arith)
ten-checked n t ten used (matched none b p w) =
    let fine = acceptable n t 10 none b p.matches in
    let same : ten ≡ pack_of b = w.kept ∙ rw (packed-ten n b fine, append-nil) in
    rw same (none-of-accepted n (pack_of b) (packed-accepted n b fine))

-- what is said of a table has its line
pub says-lines : (n : ℕ) (t before after : List ℕ) (r : Said) → Says n t before after r
    → Lines n t before after r.line
says-lines n t before after r s =
    record { answer = s.answer; ten = s.ten; matched = s.matched; written = s.written }
