-- The ten bytes of a match themselves: they pass the check, and what they unpack to is tidy and
-- computes the table. Assumes nothing.
use Rattle.std.specs.Prelude.{Result}
use Rattle.block.specs.declared.Refusal.{Refusal}
use mathlib.Core.Path.{◌≡◌, sym, ap, ◌∙◌}
use mathlib.Core.List.{List, [], ◌++◌}
use mathlib.Core.Logic.{◌⊎◌, inl, inr}
use Prim.Native.Nat.{ℕ}
use native.Mathlib.Omega.{arith}
use lib.ListN.{length, take, drop}
use lib.Seq.{take-append_seam}
use Rattle.block.specs.Block.{Block}
use Rattle.block.specs.Tidy.{Tidy}
use Rattle.block.specs.Value.{Computes}
use Rattle.block.specs.Answer.{written_of}
use Rattle.block.proofs.AnswerLaws.{written-number}
use Rattle.codec.specs.Ten.{pack_of, unpack_of}
use Rattle.codec.specs.Check.{check_refusal}
use Rattle.codec.proofs.CheckLaws.{none-of-accepted}
use Rattle.round.proofs.PackedLaws.{packed-ten, packed-accepted, unpack_of-pack_of}
use Rattle.matcher.specs.Match.{First, match_refusal, Matched, refused, unmatched, matched}
use Rattle.matcher.proofs.UniqueMatch.{acceptable}

-- bytes that pass the check as a tidy block that computes the table
pub record TidyBytes (n : ℕ) (t s : List ℕ) : Type 0 where
  pub checked : check_refusal n s ≡ 0
  pub tidy : Tidy n (unpack_of s)
  pub computes : Computes n t (unpack_of s)

module _ (n : ℕ) (t : List ℕ) (room : ℕ) (none : match_refusal n t room ≡ 0) (b : Block) (p : First n t b) where
  first-bytes : TidyBytes n t (pack_of b)
  first-bytes =
      let fine = acceptable n t room none b p.matches in
      record {
        checked = none-of-accepted n (pack_of b) (packed-accepted n b fine);
        tidy = rw (unpack_of-pack_of n b fine) p.matches.tidy;
        computes = rw (unpack_of-pack_of n b fine) p.matches.realises.computes;
      }

  front : (rest : List ℕ) → take 10 (pack_of b ++ rest) ≡ pack_of b
  front rest =
      let ten = packed-ten n b (acceptable n t room none b p.matches) in
      ap (λ (k : ℕ). take k (pack_of b ++ rest)) (sym ten) ∙ take-append_seam (pack_of b) rest

-- after a match the buffer begins with such bytes
pub matched-bytes : (n : ℕ) (t before after : List ℕ) (r : Result ℕ Refusal) → Matched n t before after r
    → (written_of r).number ≡ 0 → TidyBytes n t (take 10 after)
matched-bytes n t before after r (refused some w) e =
    absurd (some (sym (written-number (match_refusal n t (length before)) [] before after r w) ∙ e))
matched-bytes n t before after r (unmatched none never w) e =
    let z = sym (written-number 4 [] before after r w) ∙ e in absurd (omega arith)
matched-bytes n t before after r (matched none b p w) e =
    rw (w.kept, front n t (length before) none b p (drop (length (pack_of b)) before))
    (first-bytes n t (length before) none b p)

-- the number that matching answers is its refusal's, or 4
pub matched-number : (n : ℕ) (t before after : List ℕ) (r : Result ℕ Refusal) → Matched n t before after r
    → ((written_of r).number ≡ match_refusal n t (length before)) ⊎ ((written_of r).number ≡ 4)
matched-number n t before after r (refused some w) = inl (written-number _ [] before after r w)
matched-number n t before after r (unmatched none never w) = inr (written-number 4 [] before after r w)
matched-number n t before after r (matched none b first w) =
    inl (written-number 0 (pack_of b) before after r w ∙ sym none)
