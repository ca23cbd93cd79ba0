-- The next word of a line, and what is left after it. Assumes nothing.
use mathlib.Core.Path.{◌≡◌, refl, sym, ap, ◌∙◌}
use mathlib.Core.Bool.{true, false}
use mathlib.Core.List.{List, [], ◌∷◌}
use Prim.Native.Nat.{ℕ, ◌-◌, ◌≤◌, ◌<◌}
use native.Mathlib.Nat.{add-sub_cancel_left}
use native.Mathlib.Omega.{arith}
use Rattle.std.proofs.Math.Numerals.{one-add}
use lib.Dec.{eqb}
use lib.ListN.{length, take, drop, get_or, take-append-drop, length-drop, drop_of_length-le}
use lib.Seq.{drop-cons, drop-drop, length-take-le}
use borrow.Author.Tests.{lt-ltb, eqb-true}
use Rattle.bits.proofs.SearchLaws.{byBool}
use Rattle.words.specs.declared.Span.{Span}
use Rattle.words.specs.Text.{hash, separates, words_of}
use Rattle.std.specs.List.{prefix_len}
use Rattle.words.specs.Next.{in_word, past, next_word}
use Rattle.std.proofs.lemmas.List.Sums.{prefix_len-le-length}
use Rattle.words.proofs.PrefixLaws.{prefix-passes, prefix-after}
use Rattle.words.proofs.TextLaws.{words-gap, words-none, words-comment, words-word}

-- separators before a word are skipped
words-skip : (s : List ℕ) → words_of s ≡ words_of (drop (prefix_len separates s) s)
words-skip [] = refl
words-skip (b ∷ s) =
    byBool (separates b)
    (λ e. rw (e, one-add (prefix_len separates s), words-gap b s e) (words-skip s))
    (λ e. rw e)

-- what begins with neither a separator nor a word is a comment or nothing
words-over : (s : List ℕ) → prefix_len separates s ≡ 0 → prefix_len in_word s ≡ 0 → words_of s ≡ []
words-over [] gap word = words-none
words-over (b ∷ s) gap word =
    byBool (separates b)
    (λ e. absurd (let z = rw e at gap in omega arith))
    (λ e.
    byBool (eqb b hash)
    (λ h. rw (eqb-true b hash h) (words-comment s))
    (λ h. absurd (let z = rw (e, h) at word in omega arith)))

-- the word in front, and the rest
words-front : (s : List ℕ) → 0 < prefix_len in_word s
    → words_of s ≡ take (prefix_len in_word s) s ∷ words_of (drop (prefix_len in_word s) s)
words-front s some =
    ap words_of (sym (take-append-drop (prefix_len in_word s) s))
    ∙ words-word (take (prefix_len in_word s) s) (drop (prefix_len in_word s) s) (prefix-passes in_word s)
    (rw (length-take-le _ s (prefix_len-le-length in_word s)) (lt-ltb 0 _ some)) (prefix-after in_word s)

-- the next word from `at` on
pub record Next (line : List ℕ) (at : ℕ) (word : Span) : Type 0 where
  pub from : at ≤ word.start
  pub ordered : word.start ≤ word.end
  pub within : at ≤ length line → word.end ≤ length line
  pub none : word.start ≡ word.end → words_of (drop at line) ≡ []
  pub one : word.start < word.end
      → words_of (drop at line)
      ≡ take (word.end - word.start) (drop word.start line) ∷ words_of (drop word.end line)

module _ (line : List ℕ) (at : ℕ) where
  -- from the start of the next word on
  words-from : words_of (drop at line) ≡ words_of (drop (past separates line at) line)
  words-from = words-skip (drop at line) ∙ ap words_of (drop-drop (prefix_len separates (drop at line)) at line)

  gap-over : prefix_len separates (drop (past separates line at) line) ≡ 0
  gap-over =
      rw (sym (drop-drop (prefix_len separates (drop at line)) at line)) (prefix-after separates (drop at line))

-- a line has words if its first byte that is no separator begins one
module _ (line : List ℕ) (start : ℕ) (is : start ≡ past separates line 0) where
  seen-from : words_of line ≡ words_of (drop start line)
  seen-from = rw is (words-from line 0)

  module _ (l : start < length line) where
    pub words-seen : in_word (get_or line start 0) ≡ true → 0 < length (words_of line)
    words-seen e =
        let some : 0 < prefix_len in_word (drop start line) = rw (drop-cons line start 0 l, e) (omega arith) in
        rw (seen-from, words-front (drop start line) some) (omega arith)

    pub words-unseen : in_word (get_or line start 0) ≡ false → words_of line ≡ []
    words-unseen e =
        let gap : prefix_len separates (drop start line) ≡ 0 = rw is (gap-over line 0) in
        let none : prefix_len in_word (drop start line) ≡ 0 = rw (drop-cons line start 0 l, e) refl in
        seen-from ∙ words-over (drop start line) gap none

  pub words-past : length line ≤ start → words_of line ≡ []
  words-past l = seen-from ∙ rw (drop_of_length-le line l) words-none

pub next-word-is : (line : List ℕ) (at : ℕ) → Next line at (next_word line at)
unfolding next_word
next-word-is line at =
    let start = past separates line at in
    let rest = drop start line in
    let gap = prefix_len-le-length separates (drop at line) in
    let most = prefix_len-le-length in_word rest in
    record {
      from = omega arith;
      ordered = omega arith;
      within = λ l. omega (arith, length-drop at line, length-drop start line);
      none = λ e. words-from line at ∙ words-over rest (gap-over line at) (omega arith);
      one =
          λ l.
          rw (add-sub_cancel_left, ← drop-drop (prefix_len in_word rest) start line)
          (words-from line at ∙ words-front rest (omega arith));
    }

-- the word that was sought from a place on
pub sought : (line : List ℕ) (at : ℕ) (word : Span) → word ≡ next_word line at → Next line at word
sought line at word e = rw e (next-word-is line at)

-- the word in front and what follows it are what was left
pub word-left : (line rest : List ℕ) (word : Span) → word ≡ next_word line 0 → (word.start ≡ word.end → ⊥)
    → rest ≡ drop word.end line
    → words_of line ≡ take (word.end - word.start) (drop word.start line) ∷ words_of rest
word-left line rest word e some after =
    let next = sought line 0 word e in
    let ordered = next.ordered in
    rw after (next.one (omega arith))
