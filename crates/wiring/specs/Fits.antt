-- A function fits three sets of variables if some F of the first, some G of the second and some H of
-- both and the direct pin make it. Assumes nothing.
use Rattle.std.specs.Prelude.{ℕ, ◌<◌, ◌^◌, ◌≡◌, Bool, List, eqb}
use Rattle.bits.specs.Tests.{some, ◌⊕◌}
use Rattle.wiring.specs.Wire.{truth, reads, only, without}

-- F sees the variables of the set f, G those of the set g
pub record Fits (n : ℕ) (t : List ℕ) (f g : ℕ → Bool) (direct : ℕ) : Type 0 where
  pub of-f : ℕ → Bool
  pub of-g : ℕ → Bool
  pub of-h : Bool → Bool → Bool → Bool
  pub every-row : (r : ℕ) → r < 2 ^ n
      → truth t r ≡ of-h (of-f (only n f r)) (of-g (only n g r)) (reads direct r)

-- the function depends on variable v: some row changes its value when v is cleared
unfoldable pub depends_on : (n : ℕ) (t : List ℕ) (v : ℕ) → Bool
depends_on n t v = some (λ r. truth t r ⊕ truth t (without n (eqb v) r)) (2 ^ n)
