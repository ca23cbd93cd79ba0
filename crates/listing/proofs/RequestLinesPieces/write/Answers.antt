-- A request's line is no longer than the longest.
use mathlib.Core.Path.{refl}
use Rattle.line.specs.Line.{answer_line}
use Rattle.line.proofs.LineLaws.{answer-length}
use Rattle.listing.proofs.RequestLinesPieces.write.Goals as goal

pub returns : goal.returns
returns c =
    let l = c.of_table.ensures in
    record {
      piece = answer_line l.ten l.answer;
      short = answer-length _ _ _ _ l.matched;
      made = record { answer = l.answer; ten = l.ten; matched = l.matched; made = refl };
      written = l.written;
    }
