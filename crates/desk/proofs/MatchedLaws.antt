-- The matcher never refuses what was read with 1, 2 or 3. Assumes nothing.
use Rattle.std.specs.Prelude.{Ok, Result}
use Rattle.block.specs.declared.Refusal.{Refusal}
use mathlib.Core.Path.{◌≡◌, refl, ◌∙◌}
use mathlib.Core.Bool.{false}
use mathlib.Core.List.{List, [], ◌∷◌}
use mathlib.Core.Logic.{◌⊎◌, inl, inr}
use Prim.Native.Nat.{ℕ}
use lib.ListN.{length, take}
use Rattle.bits.specs.Tests.{pick, member}
use Rattle.bits.proofs.SearchLaws.{byBool}
use Rattle.block.specs.Refusal.{◌when◌, table_cases, table_refusal}
use Rattle.block.specs.Answer.{written_of}
use Rattle.block.proofs.RefusalLaws.{first-append}
use Rattle.codec.specs.Check.{no_room}
use Rattle.matcher.specs.Match.{match_refusal, Matched}
use Rattle.matcher.proofs.BytesLaws.{matched-number}
use Rattle.blif.specs.declared.Cover.{Cover}
use Rattle.blif.specs.Cover.{Reads}
use Rattle.blif.proofs.CoverLaws.{read-well-formed}

module _ (text before after : List ℕ) (x : Cover) (read : Reads text before after (Ok x)) where
  -- only the room can be at fault
  pub read-accepted : (room : ℕ) → match_refusal x.n (take x.used after) room ≡ pick (no_room room) 5 0
  unfolding match_refusal table_refusal
  read-accepted room =
      first-append (table_cases x.n (take x.used after)) (5 when no_room room ∷ []) refl
      ∙ rw (read-well-formed text before after x read)

  module _ (out out' : List ℕ) (r : Result ℕ Refusal) (m : Matched x.n (take x.used after) out out' r) where
    -- matching it answers 0 or 4, or 5 if the lent buffer has no room for ten bytes
    pub read_number :
        ((written_of r).number ≡ pick (no_room (length out)) 5 0) ⊎ ((written_of r).number ≡ 4)
    read_number = rw (read-accepted (length out)) at (matched-number x.n (take x.used after) out out' r m)

    pub read-matched : member (written_of r).number (1 ∷ 2 ∷ 3 ∷ []) ≡ false
    read-matched = go read_number
      where
        go : ((written_of r).number ≡ pick (no_room (length out)) 5 0) ⊎ ((written_of r).number ≡ 4)
            → member (written_of r).number (1 ∷ 2 ∷ 3 ∷ []) ≡ false
        go (inl e) = rw e (byBool (no_room (length out)) (λ short. rw short) (λ enough. rw enough))
        go (inr e) = rw e
