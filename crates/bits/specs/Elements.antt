-- The elements of a list. Assumes nothing.
use mathlib.Core.List.{List, Memᴰ}

-- every element of xs stands in ys too
abbrev pub Among : {A : Type 0} (xs ys : List A) → Type 0
Among {A} xs ys = (x : A) → Memᴰ x xs → Memᴰ x ys

-- the two lists have the same elements, in any order and any number of times
abbrev pub SameElements : {A : Type 0} (xs ys : List A) → Type 0
SameElements xs ys = Among xs ys × Among ys xs
