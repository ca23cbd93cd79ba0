-- The bytes of a word, tried one by one; words compared. Assumes nothing.
use Rattle.std.specs.List.{list_all}
use lib.Pointwise.{pointwise}
use mathlib.Core.Path.{◌≡◌, refl, ap}
use mathlib.Core.Bool.{Bool, true, false, ◌&&◌}
use mathlib.Core.List.{List, [], ◌∷◌}
use Prim.Native.Nat.{ℕ, ◌+◌, ◌≤◌, ◌<◌}
use native.Mathlib.Numerals.{add-one}
use lib.Dec.{eqb}
use lib.ListN.{length, drop, get_or, drop_of_length-le}
use lib.Seq.{drop-cons}
use Rattle.bits.specs.Tests.{every, alike}

-- the library's word for the same test
pub every-all : (f : ℕ → Bool) (s : List ℕ) → every f s ≡ list_all f s
every-all f [] = refl
every-all f (b ∷ s) = ap (λ (r : Bool). f b && r) (every-all f s)

module _ (f : ℕ → Bool) (s : List ℕ) (i : ℕ) where
  -- the byte passes, so those after it decide
  pub every-on : i < length s → f (get_or s i 0) ≡ true → every f (drop (i + 1) s) ≡ every f (drop i s)
  every-on l e = rw (drop-cons s i 0 l, e, add-one i)

  -- the byte fails
  pub every-stop : i < length s → f (get_or s i 0) ≡ false → every f (drop i s) ≡ false
  every-stop l e = rw (drop-cons s i 0 l, e)

  -- no byte is left
  pub every-end : length s ≤ i → every f (drop i s) ≡ true
  every-end l = rw (drop_of_length-le s l)

-- the library's word for two words that are the same
pub alike-pointwise : (a b : List ℕ) → pointwise eqb a b ≡ alike a b
alike-pointwise [] [] = refl
alike-pointwise [] (d ∷ b) = refl
alike-pointwise (c ∷ a) [] = refl
alike-pointwise (c ∷ a) (d ∷ b) = ap (λ (r : Bool). eqb c d && r) (alike-pointwise a b)
