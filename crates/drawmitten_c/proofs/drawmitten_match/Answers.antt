-- `drawmitten_c::drawmitten_match` meets its contract. Assumes nothing.
use mathlib.Core.Path.{◌∙◌}
use native.Mathlib.Omega.{arith}
use Rattle.drawmitten_c.proofs.BoundaryLaws.{match-fits, word-whole}
use Rattle.drawmitten_c.proofs.drawmitten_match.Goals as goal

pub returns : goal.returns
returns c =
    let called = c.first_match in
    let few = match-fits _ _ _ _ _ called.ensures in
    record {
      answer = called.result;
      promised = called.ensures;
      word = c.answer_word.ensures ∙ word-whole called.result (omega arith);
    }
