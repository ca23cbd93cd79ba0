-- Words: one turn of the walk, rows that look the same, and the sixteen in a list. Assumes nothing.
use mathlib.Core.Path.{◌≡◌, refl, ◌∙◌}
use mathlib.Core.List.{List, [], ◌∷◌}
use Prim.Native.Nat.{ℕ, zero, suc, ◌+◌, ◌-◌, ◌%◌, ◌<◌, ◌≤◌}
use native.Mathlib.Nat.{not-suc-le-zero}
use native.Mathlib.Numerals.{add-one}
use native.Mathlib.Omega.{arith}
use lib.Dec.{eqb}
use lib.Bits.{bit_and, bit_or, and_zero_l}
use lib.ListN.{length, get_or, length-append, get_or-append, set as put}
use lib.Seq.{get_or_at}
use borrow.Author.Tests.{eq-eqb, ne_eqb, eqb-true, eqb-false}
use Rattle.bits.proofs.SearchLaws.{byBool}
use Rattle.wiring.specs.Wire.{truth}
use Rattle.filter.specs.Choices.{filled_up}
use Rattle.filter.specs.Words.{next, push, word_from, place_of, rest_of, word_at, words_to, words_of}
use Rattle.filter.proofs.FillLaws.{filled_more, filled-all, filled-length}

module _ (t : List ℕ) (from rest m y w : ℕ) where
  pub word-last : next rest y ≡ 0 → word_from t from rest (suc m) y w ≡ push w (truth t (bit_or from y))
  unfolding word_from
  word-last e = rw (eq-eqb (next rest y) 0 e)

  pub word-turn : (next rest y ≡ 0 → ⊥)
      → word_from t from rest (suc m) y w
      ≡ word_from t from rest m (next rest y) (push w (truth t (bit_or from y)))
  unfolding word_from
  word-turn e = rw (ne_eqb (next rest y) 0 e)

pub word_end : (t : List ℕ) (from rest y w : ℕ) → word_from t from rest 0 y w ≡ w
unfolding word_from
word_end t from rest y w = refl

-- rows that hold the same for every subset of the rest have the same word
same-turns : (t : List ℕ) (a b rest m z w : ℕ)
    → ((y : ℕ) → truth t (bit_or a (bit_and y rest)) ≡ truth t (bit_or b (bit_and y rest)))
    → word_from t a rest m (bit_and z rest) w ≡ word_from t b rest m (bit_and z rest) w
unfolding word_from
same-turns t a b rest zero z w h = refl
same-turns t a b rest (suc m) z w h =
    rw (
      h z,
      same-turns t a b rest m (bit_or (bit_and z rest) (511 - rest) % 512 + 1)
          (push w (truth t (bit_or b (bit_and z rest)))) h,
    )

pub same_word : (t : List ℕ) (within set a b : ℕ)
    → ((y : ℕ)
    → truth t (bit_or (place_of set a) (bit_and y (rest_of within set)))
    ≡ truth t (bit_or (place_of set b) (bit_and y (rest_of within set))))
    → word_at t within set a ≡ word_at t within set b
unfolding word_at
same_word t within set a b h =
    let rest = rest_of within set in
    rw (and_zero_l rest) at (same-turns t (place_of set a) (place_of set b) rest 32 0 0 h)

module _ (t : List ℕ) (within set : ℕ) where
  length-words : (k : ℕ) → length (words_to t within set k) ≡ k
  unfolding words_to
  length-words zero = refl
  length-words (suc k) = rw (length-append, length-words k) (omega arith)

  pub words-at : (k i : ℕ) → i < k → get_or (words_to t within set k) i 0 ≡ word_at t within set i
  unfolding words_to
  words-at zero i l = absurd (not-suc-le-zero l)
  words-at (suc k) i l =
      byBool (eqb i k)
      (λ e.
      let same = eqb-true i k e in
      rw same (get_or_at (words_to t within set k) (word_at t within set k) [] 0 k (length-words k)))
      (λ e.
      let other = eqb-false i k e in
      let sized = length-words k in
      get_or-append (words_to t within set k) (word_at t within set k ∷ []) 0 i (omega arith)
      ∙ words-at k i (omega arith))

  -- one word more, as the code puts it into its sixteen
  pub words_more : (a w : ℕ) → a < 16 → w ≡ word_at t within set a
      → put (filled_up 16 (words_to t within set a)) a w ≡ filled_up 16 (words_to t within set (a + 1))
  unfolding words_to
  words_more a w l e =
      let list = words_to t within set a in
      let sized = length-words a in
      rw (e, add-one a, sized)
      (rw sized at (filled_more 16 list (word_at t within set a) (omega arith)))

  pub words-done : filled_up 16 (words_to t within set 16) ≡ words_of t within set
  unfolding words_of
  words-done = filled-all 16 (words_to t within set 16) (length-words 16)

  pub words-room : (a : ℕ) → a ≤ 16 → length (filled_up 16 (words_to t within set a)) ≡ 16
  words-room a l =
      let sized = length-words a in filled-length 16 (words_to t within set a) (omega arith)
