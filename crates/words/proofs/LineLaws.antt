-- The next line of a text, and what is left after it. Assumes nothing.
use mathlib.Core.Path.{◌≡◌, refl, sym, ap, ◌∙◌}
use mathlib.Core.Bool.{true, false, ◌&&◌}
use mathlib.Core.List.{List, [], ◌∷◌, ◌++◌, append-nil}
use Prim.Native.Nat.{ℕ, suc, ◌+◌, ◌-◌, ◌≤◌, ◌<◌}
use native.Mathlib.Nat.{add-sub_cancel_left}
use native.Mathlib.Numerals.{add-one}
use native.Mathlib.Omega.{arith}
use lib.Dec.{eqb, ltb}
use lib.ListN.{length, take, drop, get_or, take-append-drop, length-drop, drop_of_length-le}
use lib.Seq.{drop-cons, drop-drop, length-take-le, take_all, take-take, get_or-drop, get_or-take}
use borrow.Author.Tests.{lt-ltb, le-ltb, ltb-true, ltb-false, eqb-true, eqb-false}
use Rattle.bits.specs.Tests.{pick}
use Rattle.bits.proofs.TestLaws.{both_left, both_right}
use Rattle.bits.proofs.SearchLaws.{byBool}
use Rattle.words.specs.declared.Ends.{Ends}
use Rattle.words.specs.Text.{line_feed, carriage_return, ends, filled, separates, words_of, content_of}
use Rattle.std.specs.List.{prefix_len}
use Rattle.words.specs.Next.{in_line, past, next_line, unreturned, ends_cr_lf, line_end}
use Rattle.std.proofs.lemmas.List.Sums.{prefix_len-le-length}
use Rattle.words.proofs.PrefixLaws.{prefix-passes, prefix-after}
use Rattle.words.proofs.TextLaws.{words-none, content-gap, content-line, content-last}
use Rattle.std.proofs.Math.Numerals.{one-add}

-- the last byte, by its place
ends_last : (b : ℕ) (l : List ℕ) → ends b l ≡ ltb 0 (length l) && eqb (get_or l (length l - 1) 0) b
ends_last b [] = refl
ends_last b (c ∷ []) = refl
ends_last b (c ∷ d ∷ l) =
    let short : suc (length l) - 1 ≡ length l = omega arith in
    let long : suc (suc (length l)) - 1 ≡ suc (length l) = omega arith in
    let inner = lt-ltb 0 (suc (length l)) (omega arith) in
    let outer = lt-ltb 0 (suc (suc (length l))) (omega arith) in
    rw (ends_last b (d ∷ l), short, long, inner, outer)

unreturned-take : (l : List ℕ) → unreturned l ≡ pick (ends carriage_return l) (take (length l - 1) l) l
unfolding unreturned
unreturned-take [] = refl
unreturned-take (b ∷ []) = refl
unreturned-take (b ∷ c ∷ l) =
    let short : suc (length l) - 1 ≡ length l = omega arith in
    let long : suc (suc (length l)) - 1 ≡ suc (length l) = omega arith in
    rw (unreturned-take (c ∷ l), short, long)
    (byBool (ends carriage_return (c ∷ l)) (λ e. rw e) (λ e. rw e))

-- the line from `at` on, of a text that is not over there
pub record NextLine (text : List ℕ) (at : ℕ) (line : Ends) : Type 0 where
  pub from : at ≤ line.end
  pub within : line.end ≤ length text
  pub onward : at < line.next
  pub next-within : line.next ≤ length text
  pub content : content_of (drop at text)
      ≡ filled (words_of (take (line.end - at) (drop at text)) ∷ []) ++ content_of (drop line.next text)

module _ (text : List ℕ) (at : ℕ) (inside : at < length text) where
  -- how many bytes the line has before its LF
  abbrev many : ℕ
  many = prefix_len in_line (drop at text)

  most : at + many ≤ length text
  most = omega (arith, prefix_len-le-length in_line (drop at text), length-drop at text)

  -- they are those before the LF
  length_before : length (take many (drop at text)) ≡ many
  length_before = length-take-le many (drop at text) (prefix_len-le-length in_line (drop at text))

  byte-before : 0 < many → get_or (take many (drop at text)) (many - 1) 0 ≡ get_or text (at + many - 1) 0
  byte-before some =
      let e : at + (many - 1) ≡ at + many - 1 = omega arith in
      get_or-take many (drop at text) (many - 1) 0 (omega arith)
      ∙ get_or-drop at text (many - 1) 0
      ∙ ap (λ (k : ℕ). get_or text k 0) e

  -- the line's bytes without the CR
  before-feed : at + many < length text
      → unreturned (take many (drop at text)) ≡ take (line_end text at (at + many) - at) (drop at text)
  unfolding ends_cr_lf
  before-feed more =
      let line = take many (drop at text) in
      rw (unreturned-take line, ends_last carriage_return line, length_before, lt-ltb _ _ more)
      (byBool (ltb 0 many)
      (λ some.
      let l : 0 < many = ltb-true _ _ some in
      rw (some, byte-before l, lt-ltb at (at + many) (omega arith))
      (byBool (eqb (get_or text (at + many - 1) 0) carriage_return)
      (λ e.
      let short : at + many - 1 - at ≡ many - 1 = omega arith in
      rw (e, short) (take-take (many - 1) many (drop at text) (omega arith)))
      (λ e. rw (e, add-sub_cancel_left at many))))
      (λ none.
      let l = ltb-false 0 many none in
      rw (none, le-ltb at (at + many) (omega arith), add-sub_cancel_left at many)))

  -- the byte after them, if there is one, is an LF
  feed-there : at + many < length text → get_or text (at + many) 0 ≡ line_feed
  feed-there more =
      let after = prefix-after in_line (drop at text) in
      let left = rw (drop-drop many at text, drop-cons text (at + many) 0 more) at after in
      byBool (eqb (get_or text (at + many) 0) line_feed)
      (λ e. eqb-true _ _ e)
      (λ e. absurd (let z = rw e at left in omega arith))

  -- a line that an LF ends
  ended : at + many < length text
      → content_of (drop at text)
      ≡ filled (words_of (unreturned (take many (drop at text))) ∷ []) ++ content_of (drop (suc (at + many)) text)
  ended more =
      let line = take many (drop at text) in
      let rest = drop (suc (at + many)) text in
      let e : drop at text ≡ line ++ line_feed ∷ rest =
      sym (take-append-drop many (drop at text))
      ∙ ap (λ (l : List ℕ). line ++ l)
      (drop-drop many at text ∙ drop-cons text (at + many) 0 more
      ∙ ap (λ (b : ℕ). b ∷ rest) (feed-there more)) in
      ap content_of e ∙ content-line line rest (prefix-passes in_line (drop at text))

  -- the last line
  last : length text ≤ at + many → content_of (drop at text) ≡ filled (words_of (drop at text) ∷ [])
  last over =
      let whole = take_all many (drop at text) (omega (arith, length-drop at text)) in
      content-last (drop at text) (rw whole at (prefix-passes in_line (drop at text)))

pub content-none : content_of [] ≡ []
content-none = content-last [] refl ∙ rw words-none

-- a CR LF has its CR after the line's start, and its LF in the text
pub crlf-after : (text : List ℕ) (at feed : ℕ) → ends_cr_lf text at feed ≡ true → at < feed
unfolding ends_cr_lf
crlf-after text at feed e =
    ltb-true at feed (both_left (ltb at feed) _ (both_right (ltb feed (length text)) _ e))

pub crlf-before : (text : List ℕ) (at feed : ℕ) → length text ≤ feed → ends_cr_lf text at feed ≡ false
unfolding ends_cr_lf
crlf-before text at feed l = rw (le-ltb feed (length text) l)

-- the line's bytes end within it
end-bounds : (text : List ℕ) (at feed : ℕ) → at ≤ feed
    → (at ≤ line_end text at feed) × (line_end text at feed ≤ feed)
end-bounds text at feed l =
    byBool (ends_cr_lf text at feed)
    (λ e. let less = crlf-after text at feed e in rw e (omega arith, omega arith))
    (λ e. rw e (l, omega arith))

pub next-line-is : (text : List ℕ) (at : ℕ) → at < length text → NextLine text at (next_line text at)
unfolding next_line
next-line-is text at inside =
    let feed = past in_line text at in
    let bounds = end-bounds text at feed (omega arith) in
    let reach = most text at inside in
    byBool (ltb feed (length text))
    (λ more.
    let l = ltb-true feed (length text) more in
    rw more (record {
      from = bounds.0;
      within = omega (arith, bounds.1);
      onward = omega arith;
      next-within = omega arith;
      content = rw (add-one feed, ← before-feed text at inside l) (ended text at inside l);
    }))
    (λ over.
    let l = ltb-false feed (length text) over in
    let plain : ends_cr_lf text at feed ≡ false = crlf-before text at feed l in
    let whole : take (feed - at) (drop at text) ≡ drop at text =
    take_all (feed - at) (drop at text) (omega (arith, length-drop at text)) in
    rw (over, plain) (record {
      from = omega arith;
      within = omega arith;
      onward = omega (arith, length-drop at text);
      next-within = omega arith;
      content =
          rw (whole, drop_of_length-le text {i = feed} l, content-none, append-nil)
          (last text at inside l);
    }))

-- a line with words stays in the content
filled-some : (words : List (List ℕ)) → 0 < length words → filled (words ∷ []) ≡ words ∷ []
filled-some [] some = absurd (omega arith)
filled-some (word ∷ words) some = refl

-- the line that was sought at the start of a text that is not empty
module _ (text : List ℕ) (line : Ends) (inside : eqb (length text) 0 ≡ false) (e : line ≡ next_line text 0) where
  pub line-sought : NextLine text 0 line
  line-sought = let some = eqb-false _ _ inside in rw e (next-line-is text 0 (omega arith))

  -- its bytes, and what follows it
  module _ (front rest : List ℕ) (before : front ≡ take line.end text) (after : rest ≡ drop line.next text) where
    line-left : content_of text ≡ filled (words_of front ∷ []) ++ content_of rest
    line-left =
        let whole : line.end - 0 ≡ line.end = omega arith in
        rw (before, after) (rw whole at line-sought.content)

    -- a line with words, and one without
    pub line-first : 0 < length (words_of front) → content_of text ≡ words_of front ∷ content_of rest
    line-first some = line-left ∙ rw (filled-some (words_of front) some)

    pub line-passed : words_of front ≡ [] → content_of rest ≡ content_of text
    line-passed none = sym (line-left ∙ rw none)

-- no line is left of a text that is over
pub lines-over : (text : List ℕ) → eqb (length text) 0 ≡ true → content_of text ≡ []
lines-over [] over = content-none
lines-over (b ∷ text) over = absurd (omega (arith, eqb-true _ _ over))

-- separators in front of a text are in no line's words
content-skip : (s : List ℕ) → content_of s ≡ content_of (drop (prefix_len separates s) s)
content-skip [] = refl
content-skip (b ∷ s) =
    byBool (separates b)
    (λ e. rw (e, one-add (prefix_len separates s), content-gap b s e) (content-skip s))
    (λ e. rw e)

-- the text from its first byte on that is no separator
module _ (text rest : List ℕ) (start : ℕ) (is : start ≡ past separates text 0) (after : rest ≡ drop start text) where
  from-start : rest ≡ drop (prefix_len separates text) text
  from-start = let e : start ≡ prefix_len separates text = omega (arith, is) in after ∙ ap (λ k. drop k text) e

  pub content-from : content_of rest ≡ content_of text
  content-from = ap content_of from-start ∙ sym (content-skip text)

  pub separators-over : prefix_len separates rest ≡ 0
  separators-over = rw from-start (prefix-after separates text)
