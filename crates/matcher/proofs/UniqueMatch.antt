-- Two results that the matcher's promise allows are equal: the number, the length in use and every
-- byte of the buffer. Assumes nothing.
use Rattle.std.specs.Prelude.{Result}
use Rattle.block.specs.declared.Refusal.{Refusal}
use mathlib.Core.Path.{◌≡◌, refl, sym, ap₂, ◌∙◌}
use mathlib.Core.Bool.{false, ◌&&◌}
use mathlib.Core.List.{List, [], ◌∷◌}
use Prim.Native.Nat.{ℕ}
use native.Mathlib.Nat.{suc_inj}
use native.Mathlib.Omega.{arith}
use lib.Dec.{eqb, ltb}
use lib.ListN.{length}
use borrow.Author.Tests.{ltb-false, eq-eqb}
use Rattle.bits.proofs.TestLaws.{either-false}
use Rattle.block.specs.Block.{Block}
use Rattle.block.proofs.AnswerLaws.{written-unique}
use Rattle.codec.specs.Ten.{ten_zeros, pack_of}
use Rattle.codec.specs.Order.{before, comes_before}
use Rattle.round.specs.Acceptable.{Acceptable}
use Rattle.round.proofs.PackedLaws.{packed-ten}
use Rattle.matcher.specs.Match.{TidyMatch, First, match_refusal, Matched}
use Rattle.matcher.specs.Match.{refused, unmatched, matched}
use Rattle.matcher.specs.Single.{Single}
use Rattle.matcher.proofs.HeadLaws.{well-formed}

-- neither comes before the other: the bytes are the same
before_same : (s t : List ℕ) → length s ≡ length t → before s t ≡ false → before t s ≡ false → s ≡ t
before_same [] [] n h k = refl
before_same [] (y ∷ t) n h k = absurd (omega arith)
before_same (x ∷ s) [] n h k = absurd (omega arith)
before_same (x ∷ s) (y ∷ t) n h k =
    let left = either-false (ltb x y) (eqb x y && before s t) h in
    let right = either-false (ltb y x) (eqb y x && before t s) k in
    let above = ltb-false x y left.0 in
    let below = ltb-false y x right.0 in
    let same : x ≡ y = omega arith in
    let rest : before s t ≡ false = rw (eq-eqb x y same) at left.1 in
    let back : before t s ≡ false = rw (eq-eqb y x (sym same)) at right.1 in
    ap₂ ◌∷◌ same (before_same s t (suc_inj n) rest back)

module _ (n : ℕ) (t : List ℕ) (room : ℕ) (none : match_refusal n t room ≡ 0) where
  pub acceptable : (b : Block) → TidyMatch n t b → Acceptable n b
  acceptable b m =
      record {
        within = (well-formed n t room none).within;
        device = m.realises.device;
        tidy = m.tidy;
      }

  -- there is one first block, by its bytes
  pub first-unique : (b c : Block) → First n t b → First n t c → pack_of b ≡ pack_of c
  unfolding comes_before
  first-unique b c p q =
      before_same (pack_of b) (pack_of c)
      (packed-ten n b (acceptable b p.matches) ∙ sym (packed-ten n c (acceptable c q.matches)))
      (q.none_before b p.matches) (p.none_before c q.matches)

-- the promise leaves one answer
pub match-unique : (n : ℕ) (t before after after' : List ℕ) (r q : Result ℕ Refusal)
    → Matched n t before after r → Matched n t before after' q → (r ≡ q) × (after ≡ after')
match-unique n t before after after' r q (refused some w) (refused some' w') =
    written-unique (match_refusal n t (length before)) [] before after after' r q w w'
match-unique n t before after after' r q (refused some w) (unmatched none never w') = absurd (some none)
match-unique n t before after after' r q (refused some w) (matched none b p w') = absurd (some none)
match-unique n t before after after' r q (unmatched none never w) (refused some w') = absurd (some none)
match-unique n t before after after' r q (unmatched none never w) (unmatched none' never' w') =
    written-unique 4 [] before after after' r q w w'
match-unique n t before after after' r q (unmatched none never w) (matched none' b p w') =
    absurd (never b p.matches.realises)
match-unique n t before after after' r q (matched none b p w) (refused some w') = absurd (some none)
match-unique n t before after after' r q (matched none b p w) (unmatched none' never w') =
    absurd (never b p.matches.realises)
match-unique n t before after after' r q (matched none b p w) (matched none' c p' w') =
    let same = first-unique n t (length before) none b c p p' in
    written-unique 0 (pack_of b) before after after' r q w (rw same w')

-- and what is made of it is one
pub single-unique : (n : ℕ) (t : List ℕ) (of : List ℕ → Result ℕ Refusal → List ℕ) (a b : List ℕ)
    → Single n t of a → Single n t of b → a ≡ b
single-unique n t of a b s s' =
    let same =
    match-unique n t ten_zeros s.ten s'.ten s.answer s'.answer s.matched s'.matched in
    s.made ∙ ap₂ of same.1 same.0 ∙ sym s'.made
