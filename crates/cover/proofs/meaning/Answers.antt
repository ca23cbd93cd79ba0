-- A number that is told and is none of these is 0, which no refusal has. That these have arms is found in the code: no
-- name of an arm stands here.
use Rattle.std.proofs.Common.{◌≡◌, rules}
use Rattle.block.specs.declared.Refusal.{Refusal}
use Rattle.block.specs.declared.Refusal.TheVariants.{TooManyInputs, NoMatch, NoCover, NameTwice, BothOutputs}
use Rattle.block.specs.Refusal.{number_of}
use Rattle.block.proofs.RefusalLaws.{number-injective}
use Rattle.block.proofs.AnswerLaws.{some-number}
use Rattle.desk.proofs.NumberLaws.{told-zero}
use Rattle.cover.proofs.meaning.Goals as goal

apart : (k m : Refusal) → (k ≡ m → ⊥) → number_of k ≡ number_of m → ⊥
apart k m other e = other (number-injective k m e)

pub unreachable-requires : goal.unreachable-requires
unreachable-requires c =
    let k = c.args.refusal in
    some-number k
    (told-zero _ c.requires
    (apart k TooManyInputs (search rules))
    (apart k NoMatch (search rules))
    (apart k NoCover (search rules))
    (apart k NameTwice (search rules))
    (apart k BothOutputs (search rules)))
