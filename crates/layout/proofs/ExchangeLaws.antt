-- Parts of a text that may be exchanged, whatever stands before them in their line. Assumes nothing.
use mathlib.Core.Path.{◌≡◌, refl}
use mathlib.Core.Bool.{false, not, ◌&&◌}
use mathlib.Core.List.{List, [], ◌∷◌, ◌++◌, map}
use Prim.Native.Nat.{ℕ}
use lib.Dec.{eqb}
use borrow.Author.Tests.{not-true}
use Rattle.bits.proofs.SearchLaws.{byBool}
use Rattle.bits.proofs.TestLaws.{both_left, both_right}
use Rattle.words.specs.Text.{tab, line_feed, carriage_return, blank, hash, begins, extended, filled}
use Rattle.words.specs.Text.{lines_of, uncommented, runs_of, words_of, content_of}
use Rattle.layout.specs.Layout.{OneLine}
use Rattle.layout.proofs.InLineLaws.{prefixed, filled-cons, runs, in-line}
use Rattle.layout.proofs.InTextLaws.{Exchangeable}

-- words in a line
words-tab : (p l : List ℕ) → words_of (p ++ tab ∷ l) ≡ words_of (p ++ blank ∷ l)
unfolding uncommented runs_of
words-tab p l = in-line (tab ∷ l) (blank ∷ l) (λ q. refl) p

words-blanks : (p l : List ℕ) → words_of (p ++ blank ∷ blank ∷ l) ≡ words_of (p ++ blank ∷ l)
unfolding uncommented runs_of
words-blanks p l =
    in-line (blank ∷ blank ∷ l) (blank ∷ l) (λ q. filled-cons (q ++ []) ([] ∷ runs l) (runs l) refl) p

pub words_last : (p : List ℕ) → words_of (p ++ blank ∷ []) ≡ words_of (p ++ [])
unfolding uncommented runs_of
words_last p = in-line (blank ∷ []) [] (λ q. filled-cons (q ++ []) ([] ∷ []) [] refl) p

pub words-comment : (p c : List ℕ) → words_of (p ++ hash ∷ c) ≡ words_of (p ++ [])
unfolding uncommented runs_of
words-comment p c = in-line (hash ∷ c) [] (λ q. refl) p

-- in the first of several lines
pub tab-first : (p : List ℕ) (lines : List (List ℕ))
    → filled (map words_of (prefixed p (extended tab lines)))
    ≡ filled (map words_of (prefixed p (extended blank lines)))
tab-first p [] = rw (words-tab p [])
tab-first p (line ∷ lines) = rw (words-tab p line)

pub blanks-first : (p : List ℕ) (lines : List (List ℕ))
    → filled (map words_of (prefixed p (extended blank (extended blank lines))))
    ≡ filled (map words_of (prefixed p (extended blank lines)))
blanks-first p [] = rw (words-blanks p [])
blanks-first p (line ∷ lines) = rw (words-blanks p line)

pub blank-first : (lines : List (List ℕ))
    → filled (map words_of (extended blank lines)) ≡ filled (map words_of lines)
unfolding words_of runs_of uncommented
blank-first [] = refl
blank-first (line ∷ lines) = refl

-- the text's lines are one and these others
abbrev pub Goes : (text : List ℕ) (others : List (List ℕ)) → Type 0
Goes text others = (first : List ℕ) × (lines_of text ≡ first ∷ others)

-- a text without LF is in the first line of what follows it
one_more : (b : ℕ) (text : List ℕ) (others : List (List ℕ)) → eqb b line_feed ≡ false
    → Goes text others → Goes (b ∷ text) others
unfolding lines_of
one_more b text others other (first, e) =
    byBool (eqb b carriage_return && begins line_feed text) (λ s. (first, rw (other, s) e))
    (λ s. (b ∷ first, rw (other, s, e)))

pub same_line : (c x : List ℕ) (others : List (List ℕ)) → OneLine c → Goes x others
    → Goes (c ++ x) others
same_line [] x others no-feed goes = goes
same_line (b ∷ c) x others no-feed goes =
    one_more b (c ++ x) others (not-true _ (both_left (not (eqb b line_feed)) _ no-feed))
    (same_line c x others (both_right (not (eqb b line_feed)) _ no-feed) goes)

-- after an LF, a text may be exchanged for one with the same content
pub later : (x y : List ℕ) → content_of x ≡ content_of y → Exchangeable (line_feed ∷ x) (line_feed ∷ y)
unfolding content_of lines_of
later x y same p =
    filled-cons (words_of (p ++ [])) (map words_of (lines_of x)) (map words_of (lines_of y)) same
