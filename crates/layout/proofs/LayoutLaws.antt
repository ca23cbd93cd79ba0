-- What of a text does not change what is read: tabs for blanks, more blanks, blanks at a line's ends,
-- CR LF for LF, comments and blank lines. Assumes nothing.
use Rattle.std.specs.Prelude.{Result}
use Rattle.block.specs.declared.Refusal.{Refusal}
use mathlib.Core.Path.{◌≡◌, refl, ap, ◌∙◌}
use mathlib.Core.List.{List, [], ◌∷◌, ◌++◌, append_assoc, append-nil}
use Prim.Native.Nat.{ℕ}
use Rattle.bits.proofs.SearchLaws.{clash}
use Rattle.words.specs.Text.{tab, line_feed, carriage_return, blank, hash, lines_of, uncommented, runs_of}
use Rattle.words.specs.Text.{words_of, content_of}
use Rattle.blif.specs.declared.Cover.{Cover}
use Rattle.blif.specs.Cover.{Reads}
use Rattle.layout.specs.Layout.{NoReturn, OneLine}
use Rattle.layout.proofs.InLineLaws.{filled-cons}
use Rattle.layout.proofs.InTextLaws.{in_place}
use Rattle.layout.proofs.ExchangeLaws.{words_last, words-comment, tab-first, blanks-first}
use Rattle.layout.proofs.ExchangeLaws.{blank-first, same_line, later}

-- texts with the same content are read the same
pub same-content : (text text' before after : List ℕ) (r : Result Cover Refusal) → content_of text ≡ content_of text'
    → Reads text before after r → Reads text' before after r
same-content text text' before after r same read = rw same at read

pub tab-for-blank : (a b : List ℕ) → content_of (a ++ tab ∷ b) ≡ content_of (a ++ blank ∷ b)
unfolding lines_of
tab-for-blank a b = in_place (tab ∷ b) (blank ∷ b) (λ p. tab-first p (lines_of b)) a (λ r. refl)

pub more-blanks : (a b : List ℕ) → content_of (a ++ blank ∷ blank ∷ b) ≡ content_of (a ++ blank ∷ b)
unfolding lines_of
more-blanks a b =
    in_place (blank ∷ blank ∷ b) (blank ∷ b) (λ p. blanks-first p (lines_of b)) a (λ r. refl)

pub blank-at-start : (b : List ℕ) → content_of (blank ∷ b) ≡ content_of b
unfolding content_of lines_of
blank-at-start b = blank-first (lines_of b)

pub blank-after-line : (a b : List ℕ)
    → content_of (a ++ line_feed ∷ blank ∷ b) ≡ content_of (a ++ line_feed ∷ b)
blank-after-line a b =
    in_place (line_feed ∷ blank ∷ b) (line_feed ∷ b)
    (later (blank ∷ b) b (blank-at-start b)) a (λ r. refl)

pub blank-before-line : (a b : List ℕ) → NoReturn a
    → content_of (a ++ blank ∷ line_feed ∷ b) ≡ content_of (a ++ line_feed ∷ b)
unfolding lines_of
blank-before-line a b plain =
    in_place (blank ∷ line_feed ∷ b) (line_feed ∷ b) (λ p. rw (words_last p)) a (λ r. clash r plain)

pub blank-at-end : (a : List ℕ) → content_of (a ++ blank ∷ []) ≡ content_of a
unfolding lines_of
blank-at-end a =
    in_place (blank ∷ []) [] (λ p. rw (words_last p)) a (λ r. refl) ∙ ap content_of (append-nil a)

pub return-before-feed : (a b : List ℕ) → NoReturn a
    → content_of (a ++ carriage_return ∷ line_feed ∷ b) ≡ content_of (a ++ line_feed ∷ b)
unfolding lines_of
return-before-feed a b plain =
    in_place (carriage_return ∷ line_feed ∷ b) (line_feed ∷ b) (λ p. refl) a (λ r. clash r plain)

pub comment : (a c b : List ℕ) → NoReturn a → OneLine c
    → content_of (a ++ (hash ∷ c) ++ line_feed ∷ b) ≡ content_of (a ++ line_feed ∷ b)
unfolding lines_of
comment a c b plain no-feed =
    let ended = same_line c (line_feed ∷ b) (lines_of b) no-feed ([], refl) in
    ap content_of (append_assoc a (hash ∷ c) (line_feed ∷ b))
    ∙ in_place (hash ∷ c ++ line_feed ∷ b) (line_feed ∷ b)
    (λ p. rw (ended.1, words-comment p ended.0)) a (λ r. clash r plain)

pub comment-at-end : (a c : List ℕ) → OneLine c → content_of (a ++ hash ∷ c) ≡ content_of a
unfolding lines_of
comment-at-end a c no-feed =
    let ended = same_line c [] [] no-feed ([], refl) in
    let whole : lines_of c ≡ ended.0 ∷ [] = rw (append-nil c) at ended.1 in
    in_place (hash ∷ c) [] (λ p. rw (whole, words-comment p ended.0)) a (λ r. refl)
    ∙ ap content_of (append-nil a)

pub blank-line-first : (b : List ℕ) → content_of (line_feed ∷ b) ≡ content_of b
unfolding content_of lines_of words_of runs_of uncommented
blank-line-first b = refl

pub blank-line : (a b : List ℕ)
    → content_of (a ++ line_feed ∷ line_feed ∷ b) ≡ content_of (a ++ line_feed ∷ b)
blank-line a b =
    in_place (line_feed ∷ line_feed ∷ b) (line_feed ∷ b) (later (line_feed ∷ b) b (blank-line-first b)) a
    (λ r. refl)

pub feed-at-end : (a : List ℕ) → NoReturn a → content_of (a ++ line_feed ∷ []) ≡ content_of a
unfolding lines_of words_of runs_of uncommented
feed-at-end a plain =
    in_place (line_feed ∷ []) [] (λ p. filled-cons (words_of (p ++ [])) ([] ∷ []) [] refl) a
    (λ r. clash r plain)
    ∙ ap content_of (append-nil a)
