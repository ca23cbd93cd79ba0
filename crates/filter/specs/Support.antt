-- The variables that a table depends on, as a set. Assumes nothing.
use Rattle.std.specs.Prelude.{ℕ, min, Bool, List, leb}
use Rattle.bits.specs.Bits.{has, of_bits}
use Rattle.bits.specs.Tests.{count}
use Rattle.block.specs.Table.{most_inputs}
use Rattle.wiring.specs.Fits.{depends_on}

-- n, cut to the most inputs that a table has
abbrev pub inputs_of : ℕ → ℕ
inputs_of n = min n most_inputs

-- for n up to 9 it is `of_bits n (depends_on n t)`
unfoldable pub support_of : (n : ℕ) (t : List ℕ) → ℕ
support_of n t = of_bits (inputs_of n) (depends_on (inputs_of n) t)

-- a set of at most one of sixteen variables
unfoldable pub one_at_most : (set : ℕ) → Bool
one_at_most set = leb (count (has set) 16) 1
