-- A part of a line exchanged for another: if the words are the same whatever stands before the part in
-- its word, they are the same whatever stands before the part at all. Assumes nothing.
use mathlib.Core.Path.{◌≡◌, refl, sym, ap, ◌∙◌}
use mathlib.Core.List.{List, [], ◌∷◌, ◌++◌, append_assoc}
use Prim.Native.Nat.{ℕ}
use lib.Dec.{eqb}
use Rattle.bits.proofs.SearchLaws.{byBool}
use Rattle.words.specs.Text.{Word, hash, extended, filled, uncommented, separates, runs_of, words_of}

-- the first list, with p before it
abbrev pub prefixed : (p : List ℕ) → List (List ℕ) → List (List ℕ)
prefixed p [] = p ∷ []
prefixed p (first ∷ others) = (p ++ first) ∷ others

pub prefixed-more : (p : List ℕ) (b : ℕ) (lists : List (List ℕ))
    → prefixed p (extended b lists) ≡ prefixed (p ++ b ∷ []) lists
prefixed-more p b [] = refl
prefixed-more p b (first ∷ others) = rw (append_assoc p (b ∷ []) first)

pub filled-cons : {A : Type 0} (first : List A) (others others' : List (List A))
    → filled others ≡ filled others' → filled (first ∷ others) ≡ filled (first ∷ others')
filled-cons [] others others' e = e
filled-cons (x ∷ first) others others' e = ap (λ rest. (x ∷ first) ∷ rest) e

abbrev pub runs : (line : List ℕ) → List Word
runs line = runs_of (uncommented line)

-- the words of a line that goes on from q
abbrev pub words_from : (q line : List ℕ) → List Word
words_from q line = filled (prefixed q (runs line))

pub words-start : (line : List ℕ) → words_from [] line ≡ words_of line
unfolding words_of
words-start line = go (runs line)
  where
    go : (words : List Word) → filled (prefixed [] words) ≡ filled words
    go [] = refl
    go (word ∷ words) = refl

-- a part of a line exchanged
module _ (x y : List ℕ) (same : (q : List ℕ) → words_from q x ≡ words_from q y) where
  from-there : (p q : List ℕ) → words_from q (p ++ x) ≡ words_from q (p ++ y)
  unfolding uncommented runs_of words_of
  from-there [] q = same q
  from-there (b ∷ p) q =
      byBool (eqb b hash) (λ e. rw e)
      (λ e.
      rw e
      (byBool (separates b)
      (λ s.
      rw s
      (filled-cons (q ++ []) (runs (p ++ x)) (runs (p ++ y))
      (sym (words-start (p ++ x)) ∙ from-there p [] ∙ words-start (p ++ y))))
      (λ s.
      rw (s, prefixed-more q b (runs (p ++ x)), prefixed-more q b (runs (p ++ y)))
      (from-there p (q ++ b ∷ [])))))

  pub in-line : (p : List ℕ) → words_of (p ++ x) ≡ words_of (p ++ y)
  in-line p = sym (words-start (p ++ x)) ∙ from-there p [] ∙ words-start (p ++ y)
