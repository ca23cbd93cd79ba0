-- `drawmitten_c::drawmitten_pack` meets its contract. Assumes nothing.
use mathlib.Core.Path.{◌∙◌}
use native.Mathlib.Omega.{arith}
use Rattle.drawmitten_c.proofs.BoundaryLaws.{pack-fits, word-whole}
use Rattle.drawmitten_c.proofs.drawmitten_pack.Goals as goal

pub returns : goal.returns
returns c =
    let few = pack-fits _ _ _ _ _ c.pack.ensures in
    record {
      answer = c.pack.result;
      promised = rw (c.four_pin.ensures, c.four_pin-2.ensures) at c.pack.ensures;
      word = c.answer_word.ensures ∙ word-whole c.pack.result (omega arith);
    }
