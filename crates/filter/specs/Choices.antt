-- The sets that the search tries: those of the table `masks` below 2 ^ n, in its order, without those
-- that an earlier one of the list serves for. Assumes nothing.
use Rattle.std.specs.Prelude.{ℕ, zero, suc, ◌-◌, ◌<◌, ◌≤◌, ◌^◌, ◌≡◌, Bool, true, not, ◌&&◌, List, [], ◌∷◌, ◌++◌, eqb, ltb, length, get_or, replicate}
use Rattle.std.specs.Int.Bits.{bit_and}
use Rattle.bits.specs.Bits.{has}
use Rattle.bits.specs.Tests.{pick, some}
use Rattle.subsets.specs.Masks.{masks, key_of, Small}
use Rattle.filter.specs.Support.{inputs_of}

-- the set contains the part
abbrev pub contains : (set part : ℕ) → Bool
contains set part = eqb (bit_and part set) part

-- one of the list contains the set's part inside `within`
abbrev pub contained : (within : ℕ) (list : List ℕ) (set : ℕ) → Bool
contained within list set = some (λ k. contains (get_or list k 0) (bit_and set within)) (length list)

-- the list with the set at its end, if the set is below 2 ^ n and not contained
unfoldable pub joining : (n within : ℕ) (list : List ℕ) (set : ℕ) → List ℕ
joining n within list set =
    pick (ltb set (2 ^ n) && not (contained within list set)) (list ++ (set ∷ [])) list

-- what comes of the first sets of the table, so many
unfoldable pub useful_to : (n within count : ℕ) → List ℕ
useful_to n within zero = []
useful_to n within (suc i) = joining n within (useful_to n within i) (get_or masks i 0)

-- of all 256
unfoldable pub useful_of : (n within : ℕ) → List ℕ
useful_of n within = useful_to (inputs_of n) within 256

-- a list with zeros after it, so many numbers in all
abbrev pub filled_up : (size : ℕ) (list : List ℕ) → List ℕ
filled_up size list = list ++ replicate (size - length list) 0

-- What the search uses of it: each entry is a set of at most four variables below n, in byte order,
-- and each such set has an entry, itself or an earlier one, with its variables inside `within`.
pub record Listed (n within : ℕ) (sets : List ℕ) (many : ℕ) : Type 0 where
  pub most : many ≤ 256
  pub small : (k : ℕ) → k < many → Small (get_or sets k 0)
  pub below-n : (k : ℕ) → k < many → get_or sets k 0 < 2 ^ n
  pub rises : (i j : ℕ) → i < j → j < many → key_of (get_or sets i 0) < key_of (get_or sets j 0)
  pub complete : (m : ℕ) → Small m → m < 2 ^ n
      → (k : ℕ) × (k < many) × (key_of (get_or sets k 0) ≤ key_of m)
      × ((v : ℕ) → has m v ≡ true → has within v ≡ true → has (get_or sets k 0) v ≡ true)
