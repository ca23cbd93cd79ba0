-- A number that is printed and is not 14 is 0, which no refusal has. That 14 has an arm is found in the code: no name
-- of an arm stands here.
use Rattle.std.proofs.Common.{◌≡◌, rules}
use Rattle.block.specs.declared.Refusal.{Refusal}
use Rattle.block.specs.declared.Refusal.TheVariants.{BrokenBuild}
use Rattle.block.specs.Refusal.{number_of}
use Rattle.block.proofs.RefusalLaws.{number-injective}
use Rattle.block.proofs.AnswerLaws.{some-number}
use Rattle.listing.proofs.PrintLaws.{printed-zero}
use Rattle.build.proofs.meaning.Goals as goal

apart : (k m : Refusal) → (k ≡ m → ⊥) → number_of k ≡ number_of m → ⊥
apart k m other e = other (number-injective k m e)

pub unreachable-requires : goal.unreachable-requires
unreachable-requires c =
    let k = c.args.refusal in
    some-number k (printed-zero _ c.requires (apart k BrokenBuild (search rules)))
