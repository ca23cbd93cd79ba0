-- A part of a text exchanged for another: if the content is the same whatever stands before the part in
-- its line, it is the same whatever stands before the part at all. Assumes nothing.
use mathlib.Core.Path.{◌≡◌, refl, sym, ◌∙◌}
use mathlib.Core.Bool.{true, ◌&&◌}
use mathlib.Core.List.{List, [], ◌∷◌, ◌++◌, map}
use Prim.Native.Nat.{ℕ}
use lib.Dec.{eqb}
use Rattle.bits.proofs.SearchLaws.{byBool, clash}
use Rattle.bits.proofs.TestLaws.{and-ext}
use Rattle.words.specs.Text.{Word, line_feed, carriage_return, begins, filled, lines_of, uncommented}
use Rattle.words.specs.Text.{runs_of, words_of, content_of, ends}
use Rattle.layout.proofs.InLineLaws.{prefixed, prefixed-more, filled-cons}

-- the content of a text whose first line goes on from p
abbrev pub content_from : (p text : List ℕ) → List (List Word)
content_from p text = filled (map words_of (prefixed p (lines_of text)))

pub content-start : (text : List ℕ) → content_from [] text ≡ content_of text
unfolding content_of words_of runs_of uncommented
content-start text = go (lines_of text)
  where
    go : (lines : List (List ℕ)) → filled (map words_of (prefixed [] lines)) ≡ filled (map words_of lines)
    go [] = refl
    go (line ∷ lines) = refl

-- whatever stands before them in their line, the two texts have the same content
abbrev pub Exchangeable : (x y : List ℕ) → Type 0
Exchangeable x y = (p : List ℕ) → content_from p x ≡ content_from p y

-- if a ends with CR, both or neither of the two begin with LF
abbrev pub Joins : (x y a : List ℕ) → Type 0
Joins x y a = ends carriage_return a ≡ true → begins line_feed x ≡ begins line_feed y

module _ (x y : List ℕ) (same : Exchangeable x y) where
  returns : (b : ℕ) (a : List ℕ) → Joins x y (b ∷ a)
      → (eqb b carriage_return && begins line_feed (a ++ x))
      ≡ (eqb b carriage_return && begins line_feed (a ++ y))
  returns b [] joins = and-ext _ _ _ joins
  returns b (c ∷ a) joins = refl

  rest-joins : (b : ℕ) (a : List ℕ) → Joins x y (b ∷ a) → Joins x y a
  rest-joins b [] joins = λ e. clash e refl
  rest-joins b (c ∷ a) joins = joins

  going_on : (a : List ℕ) → Joins x y a → (p : List ℕ) → content_from p (a ++ x) ≡ content_from p (a ++ y)
  unfolding lines_of content_of
  going_on [] joins p = same p
  going_on (b ∷ a) joins p =
      let rest = going_on a (rest-joins b a joins) in
      byBool (eqb b line_feed)
      (λ e.
      rw e
      (filled-cons (words_of (p ++ [])) (map words_of (lines_of (a ++ x))) (map words_of (lines_of (a ++ y)))
      (sym (content-start (a ++ x)) ∙ rest [] ∙ content-start (a ++ y))))
      (λ e.
      rw (e, returns b a joins)
      (byBool (eqb b carriage_return && begins line_feed (a ++ y)) (λ s. rw s (rest p))
      (λ s.
      rw (s, prefixed-more p b (lines_of (a ++ x)), prefixed-more p b (lines_of (a ++ y)))
      (rest (p ++ b ∷ [])))))

  pub in_place : (a : List ℕ) → Joins x y a → content_of (a ++ x) ≡ content_of (a ++ y)
  in_place a joins = sym (content-start (a ++ x)) ∙ going_on a joins [] ∙ content-start (a ++ y)
