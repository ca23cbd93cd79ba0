-- A list written over another, entry by entry from the first on. Assumes nothing.
use mathlib.Core.Path.{◌≡◌, sym, ◌∙◌}
use mathlib.Core.List.{List, ◌++◌, append-nil}
use Prim.Native.Nat.{ℕ, suc, ◌+◌, ◌<◌, ◌≤◌}
use native.Mathlib.Numerals.{add-one}
use native.Mathlib.Omega.{arith}
use lib.ListN.{length, take, drop, get_or, set as put, length-append, length-drop, drop_of_length-le}
use lib.Seq.{take-suc, take_all, drop-cons, get_or_at, set_at, append_snoc, length-take-le}

-- so many entries of the new list are there
abbrev pub over_to : (new old : List ℕ) (k : ℕ) → List ℕ
over_to new old k = take k new ++ drop k old

module _ (new old : List ℕ) where
  pub over-length : (k : ℕ) → k ≤ length new → k ≤ length old → length (over_to new old k) ≡ length old
  over-length k l m =
      rw (length-append (take k new) (drop k old), length-take-le k new l, length-drop k old)
      (omega arith)

  module _ (k : ℕ) (l : k < length new) (m : k < length old) where
    taken : length (take k new) ≡ k
    taken = length-take-le k new (omega arith)

    pub over-at : get_or (over_to new old k) k 0 ≡ get_or old k 0
    over-at =
        rw (drop-cons old k 0 m) (get_or_at (take k new) (get_or old k 0) (drop (suc k) old) 0 k taken)

    pub over-turn : put (over_to new old k) k (get_or new k 0) ≡ over_to new old (k + 1)
    over-turn =
        let rest = drop (suc k) old in
        rw (drop-cons old k 0 m, set_at (take k new) (get_or old k 0) rest (get_or new k 0) k taken)
        (rw (add-one k, take-suc new k 0 l) (sym (append_snoc (take k new) (get_or new k 0) rest)))

  pub over-end : over_to new old (length new) ≡ new ++ drop (length new) old
  over-end = rw (take_all (length new) new (omega arith))

  pub over-all : length new ≡ length old → over_to new old (length new) ≡ new
  over-all same =
      over-end ∙ rw (drop_of_length-le old {i = length new} (omega arith)) (append-nil new)
