-- The bytes at the start of a list that pass a test, as many as pass one after the other. Assumes nothing.
use Rattle.std.specs.List.{prefix_len}
use mathlib.Core.Path.{◌≡◌, refl}
use mathlib.Core.Bool.{Bool, true}
use mathlib.Core.List.{List, [], ◌∷◌}
use Prim.Native.Nat.{ℕ, zero, suc}
use native.Mathlib.Omega.{arith}
use Rattle.std.proofs.Math.Numerals.{one-add}
use lib.ListN.{take, drop}
use lib.Seq.{take-nil}
use Rattle.bits.specs.Tests.{every}
use Rattle.bits.proofs.SearchLaws.{byBool}

module _ (test : ℕ → Bool) where
  -- they do pass it
  pub prefix-passes : (s : List ℕ) → every test (take (prefix_len test s) s) ≡ true
  prefix-passes [] = refl
  prefix-passes (b ∷ s) =
      byBool (test b) (λ e. rw (e, one-add (prefix_len test s), e) (prefix-passes s)) (λ e. rw e)

  -- and what follows them does not begin with another
  pub prefix-after : (s : List ℕ) → prefix_len test (drop (prefix_len test s) s) ≡ 0
  prefix-after [] = refl
  prefix-after (b ∷ s) =
      byBool (test b) (λ e. rw (e, one-add (prefix_len test s)) (prefix-after s)) (λ e. rw (e, e))

  -- nor does a front part of what begins with none
  pub prefix-front : (s : List ℕ) (n : ℕ) → prefix_len test s ≡ 0 → prefix_len test (take n s) ≡ 0
  prefix-front [] n none = rw (take-nil n)
  prefix-front (b ∷ s) zero none = refl
  prefix-front (b ∷ s) (suc n) none =
      byBool (test b) (λ e. absurd (let z = rw e at none in omega arith)) (λ e. rw e)
