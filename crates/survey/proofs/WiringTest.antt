-- The test of every wiring, computed once. For each two of the 256 sets it goes through the nine
-- variables and tallies those that both sets have, that one has, that neither has. As the direct pin,
-- the variables of one tally all give the same type and number of variables: the test asks that the
-- rows allow these, for each tally that is not empty, and for the open pin. Assumes nothing.
use mathlib.Core.Path.{◌≡◌, refl}
use mathlib.Core.Bool.{Bool, true, false, ◌&&◌, ◌||◌}
use mathlib.Core.List.{List, [], ◌∷◌, map}
use Prim.Native.Nat.{ℕ, zero, suc, ◌+◌, ◌-◌, ◌<◌}
use native.Mathlib.Nat.{not-suc-le-zero, le_of_suc-le-suc}
use lib.Dec.{eqb}
use lib.ListN.{length, get_or}
use Rattle.bits.specs.Bits.{has}
use Rattle.block.specs.declared.Letter.TheVariants.{A, B, C}
use Rattle.block.specs.Table.{most_inputs}
use Rattle.block.specs.Kind.{carries}
use Rattle.subsets.specs.Masks.{variables_from, variables_in, pins_of_mask, masks}
use Rattle.bits.proofs.TestLaws.{both_left, both_right}
use Rattle.subsets.proofs.MaskLaws.{masks-rule}
use Rattle.survey.proofs.RowLaws.{within}

-- whether f holds of each number below n, the greatest first
abbrev pub marks : (ℕ → Bool) → ℕ → List Bool
marks f zero = []
marks f (suc n) = f n ∷ marks f n

-- which of the nine variables the pins of a mask carry
abbrev pub set_of : ℕ → List Bool
set_of m = marks (carries (pins_of_mask m)) most_inputs

-- the table so, made once
abbrev sets : List (List Bool)
sets = map set_of masks

-- the rows allow the direct pin open, on a variable of neither set, of one, of both
abbrev pub direct_within : ℕ → ℕ → ℕ → Bool
direct_within both one neither =
    within A both (both + one)
    && ((eqb neither 0 || within A both (both + one + 1))
    && ((eqb one 0 || within B both (both + one))
    && (eqb both 0 || within C (both - 1) (both + one))))

-- the variables of two sets added to the three tallies, and then the test of these
abbrev pub tallied : List Bool → List Bool → ℕ → ℕ → ℕ → Bool
tallied [] t both one neither = direct_within both one neither
tallied (a ∷ s) [] both one neither = false
tallied (true ∷ s) (true ∷ t) both one neither = tallied s t (suc both) one neither
tallied (true ∷ s) (false ∷ t) both one neither = tallied s t both (suc one) neither
tallied (false ∷ s) (true ∷ t) both one neither = tallied s t both (suc one) neither
tallied (false ∷ s) (false ∷ t) both one neither = tallied s t both one (suc neither)

-- the rows allow every direct pin beside F and G on these sets
abbrev pair_within : List Bool → List Bool → Bool
pair_within s t = tallied s t 0 0 0

-- p holds of every set of the list
abbrev every_set : (List Bool → Bool) → List (List Bool) → Bool
every_set p [] = true
every_set p (s ∷ ss) = p s && every_set p ss

-- the rows allow F on this set beside G on any
abbrev within_all : List Bool → Bool
within_all s = every_set (pair_within s) sets

all-within : every_set within_all sets ≡ true
unfolding carries masks has variables_from variables_in pins_of_mask
all-within = refl

set_at : (p : List Bool → Bool) (ms : List ℕ) → every_set p (map set_of ms) ≡ true
    → (k : ℕ) → k < length ms → p (set_of (get_or ms k 0)) ≡ true
set_at p [] h k l = absurd (not-suc-le-zero l)
set_at p (m ∷ ms) h zero l = both_left _ _ h
set_at p (m ∷ ms) h (suc k) l = set_at p ms (both_right (p (set_of m)) _ h) k (le_of_suc-le-suc l)

pub pair-within : (i j : ℕ) → i < 256 → j < 256
    → tallied (set_of (get_or masks i 0)) (set_of (get_or masks j 0)) 0 0 0 ≡ true
pair-within i j f-set g_set =
    let with-i = set_at within_all masks all-within i (rw masks-rule.count f-set) in
    set_at (pair_within (set_of (get_or masks i 0))) masks with-i j (rw masks-rule.count g_set)
