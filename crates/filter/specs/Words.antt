-- The word of a table row on a set's pins: the function on the rows that show it to the pins, one for
-- each value of the other variables, in one fixed order. Assumes nothing.
use Rattle.std.specs.Prelude.{ℕ, zero, suc, ◌+◌, ◌-◌, ◌*◌, ◌%◌, ◌^◌, Bool, List, [], ◌∷◌, ◌++◌, eqb}
use Rattle.std.specs.Int.Bits.{bit_and, bit_or}
use Rattle.bits.specs.Bits.{has, num}
use Rattle.bits.specs.Tests.{pick}
use Rattle.block.specs.Table.{most_inputs}
use Rattle.subsets.specs.Masks.{pins_of_mask}
use Rattle.wiring.specs.Wire.{truth, without, shown}

-- the subset of `rest` after y; after the last comes 0
abbrev pub next : (rest y : ℕ) → ℕ
next rest y = bit_and (bit_or y (511 - rest) % 512 + 1) rest

-- a bit shifted into a word of 32
abbrev pub push : (w : ℕ) (b : Bool) → ℕ
push w b = w * 2 % 2 ^ 32 + num b

-- the word w with the table on the rows `from | y` shifted in, from y on, so many at most
unfoldable pub word_from : (t : List ℕ) (from rest count y w : ℕ) → ℕ
word_from t from rest zero y w = w
word_from t from rest (suc m) y w =
    pick (eqb (next rest y) 0) (push w (truth t (bit_or from y)))
    (word_from t from rest m (next rest y) (push w (truth t (bit_or from y))))

-- the row that shows table row a to the set's pins, every other variable 0
abbrev pub place_of : (set a : ℕ) → ℕ
place_of set a = shown most_inputs (pins_of_mask set) a

-- the variables of `within` that are not in the set
abbrev pub rest_of : (within set : ℕ) → ℕ
rest_of within set = without most_inputs (has set) within

-- the word of table row a, over the rest
unfoldable pub word_at : (t : List ℕ) (within set a : ℕ) → ℕ
word_at t within set a = word_from t (place_of set a) (rest_of within set) 32 0 0

-- the words of the first rows, so many
unfoldable pub words_to : (t : List ℕ) (within set count : ℕ) → List ℕ
words_to t within set zero = []
words_to t within set (suc a) = words_to t within set a ++ (word_at t within set a ∷ [])

-- of all sixteen
unfoldable pub words_of : (t : List ℕ) (within set : ℕ) → List ℕ
words_of t within set = words_to t within set 16
