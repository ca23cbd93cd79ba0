-- The four polarities of a component as a number below 16, and their order. Assumes nothing.
use mathlib.Core.Path.{◌≡◌, refl, ◌∙◌}
use mathlib.Core.Bool.{Bool, true, false, not, ◌&&◌, ◌||◌}
use Prim.Native.Nat.{ℕ, ◌+◌, ◌*◌, ◌<◌, ◌≤◌}
use native.Mathlib.Omega.{arith}
use lib.Dec.{leb}
use borrow.Author.Tests.{le-leb}
use Rattle.bits.specs.Bits.{has, num}
use Rattle.bits.specs.Tests.{below, ◌⊕◌}
use Rattle.bits.proofs.TestLaws.{both_left, both_right, implied-not, below_at}
use Rattle.bits.proofs.XorLaws.{xor-eq}
use Rattle.bits.proofs.BitLaws.{num-le, has_last, has-next, has-num}
use Rattle.wiring.specs.Test.{pole_f, pole_g}
use Rattle.wiring.proofs.OrderLaws.{First}

-- the number of F's polarities p and G's polarities q
unfoldable pub poles : (p q : Bool → Bool) → ℕ
poles p q = ((num (p false) * 2 + num (p true)) * 2 + num (q false)) * 2 + num (q true)

pub poles-lt : (p q : Bool → Bool) → poles p q < 16
unfolding poles
poles-lt p q =
    omega (arith, num-le (p false), num-le (p true), num-le (q false), num-le (q true))

pub pole_f-poles : (p q : Bool → Bool) (v : Bool) → pole_f (poles p q) v ≡ p v
unfolding pole_f poles
pole_f-poles p q true =
    has-next _ 1 (q true) ∙ has-next _ 0 (q false) ∙ has_last (num (p false)) (p true)
pole_f-poles p q false =
    has-next _ 2 (q true) ∙ has-next _ 1 (q false) ∙ has-next _ 0 (p true) ∙ has-num (p false)

pub pole_g-poles : (p q : Bool → Bool) (v : Bool) → pole_g (poles p q) v ≡ q v
unfolding pole_g poles
pole_g-poles p q true = has_last _ (q true)
pole_g-poles p q false = has-next _ 0 (q true) ∙ has_last _ (q false)

-- `First` as a test
abbrev is_first : (p q : Bool → Bool) → Bool
is_first p q = (not (p false) || q false) && ((p false ⊕ q false) || (not (p true) || q true))

first_of : (p q : Bool → Bool) → is_first p q ≡ true → First p q
first_of p q e =
    let at-0 = not (p false) || q false in
    let at_1 = (p false ⊕ q false) || (not (p true) || q true) in (
      implied-not (p false) (q false) (both_left at-0 at_1 e),
      λ h. implied-not (p true) (q true) (rw (xor-eq (p false) (q false) h) at (both_right at-0 at_1 e)),
    )

-- two tests of the 256 pairs of numbers
order_f : (k l : ℕ) → Bool
order_f k l = not (leb k l) || is_first (pole_f k) (pole_f l)

order_g : (k l : ℕ) → Bool
order_g k l =
    not (leb k l)
    || ((pole_f k false ⊕ pole_f l false)
    || ((pole_f k true ⊕ pole_f l true) || is_first (pole_g k) (pole_g l)))

all-pairs : (test : ℕ → ℕ → Bool) → below (λ k. below (test k) 16) 16 ≡ true
    → (k l : ℕ) → l < 16 → k ≤ l → test k l ≡ true
all-pairs test h k l m le =
    below_at (test k) 16 (below_at (λ k. below (test k) 16) 16 h k (omega arith)) l m

pub first-F : (k l : ℕ) → l < 16 → k ≤ l → First (pole_f k) (pole_f l)
unfolding pole_f has order_f
first-F k l m le =
    first_of (pole_f k) (pole_f l) (rw (le-leb k l le) at (all-pairs order_f refl k l m le))

-- where F's polarities are the same, G's are in order
pub first-G : (k l : ℕ) → l < 16 → k ≤ l → ((v : Bool) → pole_f k v ≡ pole_f l v)
    → First (pole_g k) (pole_g l)
unfolding pole_f pole_g has order_g
first-G k l m le same =
    first_of (pole_g k) (pole_g l)
    (rw (le-leb k l le, xor-eq _ _ (same false), xor-eq _ _ (same true)) at
    (all-pairs order_g refl k l m le))
