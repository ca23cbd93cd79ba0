-- Lines of a text in another order, or doubled, after the first with words: what is read is the same.
-- Assumes nothing.
use Rattle.std.specs.Prelude.{Result}
use Rattle.block.specs.declared.Refusal.{Refusal}
use mathlib.Core.Path.{◌≡◌, refl, ◌∙◌}
use mathlib.Core.Bool.{◌&&◌}
use mathlib.Core.List.{List, [], ◌∷◌, ◌++◌, map, map-append}
use Prim.Native.Nat.{ℕ}
use lib.Dec.{eqb}
use Rattle.bits.proofs.SearchLaws.{byBool}
use Rattle.bits.proofs.ElementLaws.{parts-exchanged, part-doubled}
use Rattle.words.specs.Text.{Word, line_feed, carriage_return, begins, lines_of, words_of, content_of}
use Rattle.words.proofs.TextLaws.{filled-append}
use Rattle.blif.specs.declared.Cover.{Cover}
use Rattle.blif.specs.Cover.{Reads}
use Rattle.blif.proofs.LineLaws.{order-read}
use Rattle.layout.specs.Layout.{NoReturn}

-- an LF parts the lines before it from those after it
module _ (b : List ℕ) where
  -- the lines of a, alone and with b after it
  record Apart (a : List ℕ) : Type 0 where
    first : List ℕ
    others : List (List ℕ)
    alone : lines_of a ≡ first ∷ others
    both : lines_of (a ++ line_feed ∷ b) ≡ first ∷ (others ++ lines_of b)

  ended : (c : ℕ) (a : List ℕ) → NoReturn (c ∷ a)
      → (eqb c carriage_return && begins line_feed (a ++ line_feed ∷ b))
      ≡ (eqb c carriage_return && begins line_feed a)
  ended c [] plain = rw plain
  ended c (d ∷ a) plain = refl

  rest_plain : (c : ℕ) (a : List ℕ) → NoReturn (c ∷ a) → NoReturn a
  rest_plain c [] plain = refl
  rest_plain c (d ∷ a) plain = plain

  apart : (a : List ℕ) → NoReturn a → Apart a
  unfolding lines_of
  apart [] plain = record { first = []; others = []; alone = refl; both = refl }
  apart (c ∷ a) plain =
      let rest = apart a (rest_plain c a plain) in
      byBool (eqb c line_feed)
      (λ e. record {
        first = [];
        others = rest.first ∷ rest.others;
        alone = rw (e, rest.alone);
        both = rw (e, rest.both);
      })
      (λ e.
      byBool (eqb c carriage_return && begins line_feed a)
      (λ s. record {
        first = rest.first;
        others = rest.others;
        alone = rw (e, s) rest.alone;
        both = rw (e, ended c a plain, s) rest.both;
      })
      (λ s. record {
        first = c ∷ rest.first;
        others = rest.others;
        alone = rw (e, s, rest.alone);
        both = rw (e, ended c a plain, s, rest.both);
      }))

pub lines-apart : (a b : List ℕ) → NoReturn a
    → content_of (a ++ line_feed ∷ b) ≡ content_of a ++ content_of b
unfolding content_of
lines-apart a b plain =
    let lines = apart b a plain in
    rw (lines.both, lines.alone, map-append words_of lines.others (lines_of b))
    (filled-append (map words_of (lines.first ∷ lines.others)) (map words_of (lines_of b)))

-- what ends with a line that no CR ends
line_plain : (a x : List ℕ) → NoReturn x → NoReturn (a ++ line_feed ∷ x)
line_plain [] [] plain = refl
line_plain [] (c ∷ x) plain = plain
line_plain (b ∷ []) x plain = line_plain [] x plain
line_plain (b ∷ c ∷ a) x plain = line_plain (c ∷ a) x plain

-- the head has words, so its first line with words stays first
module _ (head : List ℕ) (first : List Word) (lines : List (List Word))
    (opened : content_of head ≡ first ∷ lines) (head_plain : NoReturn head) where
  two-more : (x rest : List ℕ) → NoReturn x
      → content_of (head ++ line_feed ∷ x ++ line_feed ∷ rest)
      ≡ first ∷ (lines ++ content_of x ++ content_of rest)
  two-more x rest plain =
      lines-apart (head ++ line_feed ∷ x) rest (line_plain head x plain)
      ∙ rw (lines-apart head x head_plain, opened)

  three-more : (x y rest : List ℕ) → NoReturn x → NoReturn y
      → content_of (head ++ line_feed ∷ x ++ line_feed ∷ y ++ line_feed ∷ rest)
      ≡ first ∷ (lines ++ content_of x ++ content_of y ++ content_of rest)
  three-more x y rest x-plain y-plain =
      lines-apart (head ++ line_feed ∷ x ++ line_feed ∷ y) rest
      (line_plain (head ++ line_feed ∷ x) y y-plain)
      ∙ rw (two-more x y x-plain)

  module _ (before after : List ℕ) (r : Result Cover Refusal) where
    -- x and y are lines, any number of them
    pub lines-exchanged : (x y rest : List ℕ) → NoReturn x → NoReturn y
        → Reads (head ++ line_feed ∷ x ++ line_feed ∷ y ++ line_feed ∷ rest) before after r
        → Reads (head ++ line_feed ∷ y ++ line_feed ∷ x ++ line_feed ∷ rest) before after r
    lines-exchanged x y rest x-plain y-plain =
        order-read _ _ first _ _ (three-more x y rest x-plain y-plain)
        (three-more y x rest y-plain x-plain)
        (parts-exchanged lines (content_of x) (content_of y) (content_of rest)) before after r

    pub line-doubled : (x rest : List ℕ) → NoReturn x
        → Reads (head ++ line_feed ∷ x ++ line_feed ∷ rest) before after r
        → Reads (head ++ line_feed ∷ x ++ line_feed ∷ x ++ line_feed ∷ rest) before after r
    line-doubled x rest plain =
        order-read _ _ first _ _ (two-more x rest plain) (three-more x x rest plain plain)
        (part-doubled lines (content_of x) (content_of rest)) before after r
