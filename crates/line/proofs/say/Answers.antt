-- `line::say` meets its contract: the ten bytes of a match pass the check.
use Rattle.std.specs.Prelude.{Ok}
use mathlib.Core.Path.{refl}
use Rattle.text.proofs.BlockLaws.{line-text}
use Rattle.line.proofs.PartLaws.{ten-checked}
use Rattle.line.proofs.say.Goals as goal

pub returns-in-Ok : goal.returns-in-Ok
returns-in-Ok c =
    record {
      answer = Ok c.in-Ok.field-0;
      ten = c.first_match.new.out;
      matched = c.in-Ok.ensures;
      refusal = refl;
      written = line-text _ _ _ _ _ (ten-checked _ _ _ _ c.in-Ok.ensures) c.of_block.ensures;
    }
