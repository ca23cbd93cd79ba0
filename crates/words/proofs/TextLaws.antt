-- The words of a line and the lines of a text, taken one by one from the front. Assumes nothing.
use mathlib.Core.Path.{◌≡◌, refl, ap}
use mathlib.Core.Bool.{true, false}
use mathlib.Core.List.{List, [], ◌∷◌, ◌++◌, map, append-nil}
use Prim.Native.Nat.{ℕ, suc, ◌≤◌}
use native.Mathlib.Omega.{arith}
use lib.Dec.{eqb, ltb}
use lib.ListN.{length}
use borrow.Author.Tests.{not-true, eqb-true}
use Rattle.bits.specs.Tests.{every}
use Rattle.bits.proofs.TestLaws.{both_left, both_right, either-false}
use Rattle.bits.proofs.SearchLaws.{byBool, clash}
use Rattle.words.specs.Text.{line_feed, carriage_return, hash, begins, extended, filled, lines_of}
use Rattle.words.specs.Text.{uncommented, separates, runs_of, words_of, content_of}
use Rattle.std.specs.List.{prefix_len}
use Rattle.words.specs.Next.{in_word, in_line, unreturned}

-- a byte of a word is no separator and no `#`
in-word : (b : ℕ) → in_word b ≡ true → (separates b ≡ false) × (eqb b hash ≡ false)
in-word b e = either-false (separates b) (eqb b hash) (not-true _ e)

-- a separator is no `#`
separator-only : (b : ℕ) → separates b ≡ true → eqb b hash ≡ false
separator-only b e =
    byBool (eqb b hash)
    (λ h. clash (rw (eqb-true b hash h) at e) refl)
    (λ h. h)

-- a word before other bytes makes the first run longer
runs-word : (w rest first : List ℕ) (others : List (List ℕ)) → every in_word w ≡ true
    → runs_of (uncommented rest) ≡ first ∷ others
    → runs_of (uncommented (w ++ rest)) ≡ (w ++ first) ∷ others
unfolding uncommented runs_of
runs-word [] rest first others all e = e
runs-word (b ∷ w) rest first others all e =
    let byte = in-word b (both_left (in_word b) _ all) in
    rw (byte.1, byte.0, runs-word w rest first others (both_right (in_word b) _ all) e)

-- what begins with no byte of a word begins with an empty run
runs-stop : (rest : List ℕ) → prefix_len in_word rest ≡ 0
    → (others : List (List ℕ)) × (runs_of (uncommented rest) ≡ [] ∷ others)
unfolding uncommented runs_of
runs-stop [] e = ([], refl)
runs-stop (b ∷ rest) e =
    byBool (eqb b hash)
    (λ h. rw h ([], refl))
    (λ h.
    byBool (separates b)
    (λ s. rw (h, s) (runs_of (uncommented rest), refl))
    (λ s. absurd (let z = rw (s, h) at e in omega arith)))

pub words-gap : (b : ℕ) (rest : List ℕ) → separates b ≡ true → words_of (b ∷ rest) ≡ words_of rest
unfolding words_of uncommented runs_of
words-gap b rest e = rw (separator-only b e, e)

pub words-none : words_of [] ≡ []
unfolding words_of uncommented runs_of
words-none = refl

pub words-comment : (rest : List ℕ) → words_of (hash ∷ rest) ≡ []
unfolding words_of uncommented runs_of
words-comment rest = refl

pub words-word : (w rest : List ℕ) → every in_word w ≡ true → ltb 0 (length w) ≡ true
    → prefix_len in_word rest ≡ 0 → words_of (w ++ rest) ≡ w ∷ words_of rest
unfolding words_of
words-word [] rest all some stop = clash some refl
words-word (b ∷ w) rest all some stop =
    let run = runs-stop rest stop in
    rw (runs-word (b ∷ w) rest [] run.0 all run.1, run.1, append-nil w)

-- a byte of a line is no LF
in-line : (b : ℕ) (line : List ℕ) → every in_line (b ∷ line) ≡ true → eqb b line_feed ≡ false
in-line b line all = not-true (eqb b line_feed) (both_left (in_line b) _ all)

-- a byte that is followed by no LF is the first of its line
lines-byte : (b : ℕ) (rest first : List ℕ) (others : List (List ℕ)) → eqb b line_feed ≡ false
    → begins line_feed rest ≡ false → lines_of rest ≡ first ∷ others
    → lines_of (b ∷ rest) ≡ (b ∷ first) ∷ others
unfolding lines_of
lines-byte b rest first others here next e =
    rw (here, next, e) (byBool (eqb b carriage_return) (λ c. rw c) (λ c. rw c))

-- a line before its LF
lines-line : (line rest : List ℕ) → every in_line line ≡ true
    → lines_of (line ++ line_feed ∷ rest) ≡ unreturned line ∷ lines_of rest
unfolding lines_of unreturned
lines-line [] rest all = refl
lines-line (b ∷ []) rest all =
    rw (in-line b [] all) (byBool (eqb b carriage_return) (λ e. rw e) (λ e. rw e))
lines-line (b ∷ c ∷ line) rest all =
    let later = both_right (in_line b) _ all in
    lines-byte b (c ∷ line ++ line_feed ∷ rest) _ _ (in-line b (c ∷ line) all) (in-line c line later)
    (lines-line (c ∷ line) rest later)

-- bytes of a line begin with no LF
begins-none : (line : List ℕ) → every in_line line ≡ true → begins line_feed line ≡ false
begins-none [] all = refl
begins-none (b ∷ line) all = in-line b line all

-- a line before the end of the text
lines-last : (line : List ℕ) → every in_line line ≡ true → lines_of line ≡ line ∷ []
unfolding lines_of
lines-last [] all = refl
lines-last (b ∷ line) all =
    let later = both_right (in_line b) _ all in
    lines-byte b line _ _ (in-line b line all) (begins-none line later) (lines-last line later)

pub filled-append : {A : Type 0} (xs ys : List (List A)) → filled (xs ++ ys) ≡ filled xs ++ filled ys
filled-append [] ys = refl
filled-append ([] ∷ xs) ys = filled-append xs ys
filled-append ((x ∷ first) ∷ xs) ys = ap (λ rest. (x ∷ first) ∷ rest) (filled-append xs ys)

-- a separator ends no line
separator-inside : (b : ℕ) → separates b ≡ true → (eqb b line_feed ≡ false) × (eqb b carriage_return ≡ false)
separator-inside b e = (
  byBool (eqb b line_feed) (λ h. clash (rw (eqb-true b line_feed h) at e) refl) (λ h. h),
  byBool (eqb b carriage_return) (λ h. clash (rw (eqb-true b carriage_return h) at e) refl) (λ h. h),
)

-- and in front of a line is in no word
extended-gap : (b : ℕ) (lines : List (List ℕ)) → separates b ≡ true
    → filled (map words_of (extended b lines)) ≡ filled (map words_of lines)
extended-gap b [] e = rw (words-gap b [] e, words-none)
extended-gap b (first ∷ others) e = rw (words-gap b first e)

pub content-gap : (b : ℕ) (rest : List ℕ) → separates b ≡ true → content_of (b ∷ rest) ≡ content_of rest
unfolding content_of lines_of
content-gap b rest e =
    let inside = separator-inside b e in
    rw (inside.0, inside.1) (extended-gap b (lines_of rest) e)

pub content-line : (line rest : List ℕ) → every in_line line ≡ true
    → content_of (line ++ line_feed ∷ rest) ≡ filled (words_of (unreturned line) ∷ []) ++ content_of rest
unfolding content_of
content-line line rest all =
    rw (lines-line line rest all) (filled-append (words_of (unreturned line) ∷ []) (map words_of (lines_of rest)))

pub content-last : (line : List ℕ) → every in_line line ≡ true
    → content_of line ≡ filled (words_of line ∷ [])
unfolding content_of
content-last line all = rw (lines-last line all)

-- a line has no more words than bytes
filled-few : (b : ℕ) (lists : List (List ℕ)) → length (filled (extended b lists)) ≤ suc (length (filled lists))
filled-few b [] = omega arith
filled-few b ([] ∷ others) = omega arith
filled-few b ((c ∷ first) ∷ others) = omega arith

runs-few : (s : List ℕ) → length (filled (runs_of s)) ≤ length s
unfolding runs_of
runs-few [] = omega arith
runs-few (b ∷ s) =
    let rest = runs-few s in
    let more = filled-few b (runs_of s) in
    byBool (separates b) (λ e. rw e (omega arith)) (λ e. rw e (omega arith))

uncommented-few : (s : List ℕ) → length (uncommented s) ≤ length s
unfolding uncommented
uncommented-few [] = omega arith
uncommented-few (b ∷ s) =
    let rest = uncommented-few s in
    byBool (eqb b hash) (λ e. rw e (omega arith)) (λ e. rw e (omega arith))

pub words-few : (line : List ℕ) → length (words_of line) ≤ length line
unfolding words_of
words-few line = omega (arith, runs-few (uncommented line), uncommented-few line)
