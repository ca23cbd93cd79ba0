-- From what the search found to what the matcher promises. Assumes nothing.
use Rattle.std.specs.Prelude.{Err, None, Option, Result, Some}
use mathlib.Core.Path.{◌≡◌, refl, ◌∙◌}
use mathlib.Core.List.{List, []}
use Prim.Native.Nat.{ℕ, ◌<◌}
use native.Mathlib.Omega.{arith}
use lib.ListN.{length}
use Rattle.block.specs.declared.Parts.{Parts}
use Rattle.block.specs.declared.Refusal.{Refusal}
use Rattle.block.specs.declared.Refusal.TheVariants.{NoMatch}
use Rattle.block.specs.Code.{block_of}
use Rattle.block.specs.Refusal.{number_of}
use Rattle.block.proofs.AnswerLaws.{writes-refused}
use Rattle.block.proofs.RefusalLaws.{at-refusal}
use Rattle.codec.specs.Answers.{Packs}
use Rattle.codec.specs.Check.{pack_refusal}
use Rattle.subsets.specs.Masks.{Small}
use Rattle.round.proofs.PackedLaws.{none-of-acceptable}
use Rattle.contents.specs.Contents.{block_with, no_contents}
use Rattle.contents.proofs.ChoiceLaws.{choice-small, pieces}
use Rattle.matcher.specs.declared.Place.{Place}
use Rattle.matcher.specs.Match.{match_refusal, Matched, refused, unmatched, matched}
use Rattle.matcher.specs.Search.{FirstPlace, Searched}
use Rattle.matcher.proofs.HeadLaws.{well-formed}
use Rattle.matcher.proofs.UniqueMatch.{acceptable}
use Rattle.matcher.proofs.FirstLaws.{first_block}
use Rattle.matcher.proofs.AnyLaws.{no_block}

module _ (n : ℕ) (t before : List ℕ) where
  -- a refusal by the head, and its buffer untouched
  pub matched-refused : (k : Refusal) → number_of k ≡ match_refusal n t (length before)
      → Matched n t before before (Err k)
  matched-refused k e =
      refused (λ z. at-refusal (λ m. m ≡ 0 → ⊥) (λ m s. omega arith) k (e ∙ z))
      (writes-refused k (match_refusal n t (length before)) [] before e)

  module _ (none : match_refusal n t (length before) ≡ 0) (found : Option Place) (searched : Searched n t found) where
    pub matched-none : found ≡ None → Matched n t before before (Err NoMatch)
    matched-none e =
        unmatched none (no_block n t (well-formed n t (length before) none).within (rw e at searched))
        (writes-refused NoMatch 4 [] before refl)

    module _ (p : Place) (e : found ≡ Some p) where
      pub place-first : FirstPlace n t p
      place-first = rw e at searched

      pub place-small : Small p.f × Small p.g × (p.contents < no_contents)
      place-small =
          let w = pieces n p.f p.g p.direct place-first.wiring in
          (choice-small n p.f w.within w.f-choice, choice-small n p.g w.within w.g-choice, place-first.full)

      pub matched-found : (x : Parts) (after : List ℕ) (r : Result ℕ Refusal)
          → block_of x ≡ block_with p.f p.g p.direct p.contents
          → Packs n (block_of x) before after r → Matched n t before after r
      matched-found x after r same packs =
          let b = block_with p.f p.g p.direct p.contents in
          let q = place-first in
          let first = first_block n t p.f p.g p.direct p.contents q.wiring q.full q.least q.first in
          let fine : pack_refusal n b (length before) ≡ 0 =
          none-of-acceptable n b (length before) (acceptable n t (length before) none b first.matches)
          (well-formed n t (length before) none).enough in
          matched none b first (rw fine at (rw same at packs))
