-- At most two different words among the indices that have the same bits in the key. Assumes nothing.
use Rattle.std.specs.Prelude.{ℕ, Bool, not, ◌&&◌, List, eqb, get_or}
use Rattle.std.specs.Int.Bits.{bit_and}
use Rattle.bits.specs.Tests.{some}

-- two indices have the same bits in the key, and different words
abbrev pub apart : (words : List ℕ) (key a b : ℕ) → Bool
apart words key a b =
    eqb (bit_and a key) (bit_and b key) && not (eqb (get_or words a 0) (get_or words b 0))

-- no three indices are apart from each other
unfoldable pub two_of : (words : List ℕ) (key : ℕ) → Bool
two_of words key =
    not
    (some
    (λ a.
    some
    (λ b. some (λ c. apart words key a b && (apart words key a c && apart words key b c)) 16)
    16)
    16)
