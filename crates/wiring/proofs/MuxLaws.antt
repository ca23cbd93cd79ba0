-- One set for both tables fits if it and the direct pin hold every variable that the function depends on:
-- H takes F where the direct pin reads 0 and G where it reads 1. Assumes nothing.
use mathlib.Core.Path.{◌≡◌, sym, ◌∙◌}
use mathlib.Core.Bool.{Bool, true, false, ◌||◌, or-true, or-false}
use mathlib.Core.List.{List}
use Prim.Native.Nat.{ℕ, ◌<◌, ◌≤◌}
use lib.Dec.{eqb}
use borrow.Author.Tests.{eqb-true}
use Rattle.bits.specs.Bits.{has}
use Rattle.bits.specs.Tests.{pick}
use Rattle.block.specs.Table.{most_inputs}
use Rattle.wiring.specs.Wire.{truth, reads, only}
use Rattle.wiring.specs.Fits.{Fits, depends_on}
use Rattle.bits.proofs.SearchLaws.{byBool}
use Rattle.bits.proofs.BitLaws.{of_bits-ext}
use Rattle.wiring.proofs.OnlyLaws.{has-only, put_to}
use Rattle.wiring.proofs.ReadLaws.{variable-carried, reads-carried}
use Rattle.wiring.proofs.DependLaws.{truth-only}

module _ (n : ℕ) (t : List ℕ) (set : ℕ → Bool) (d : ℕ) (within : n ≤ most_inputs)
    (holds : (v : ℕ) → v < n → depends_on n t v ≡ true → (set v || eqb v d) ≡ true) where
  -- the variables of the set and the direct pin's
  abbrev both : ℕ → Bool
  both v = set v || eqb v d

  put-direct : (r : ℕ) → only n both r ≡ put_to n d (reads d r) (only n set r)
  unfolding only put_to
  put-direct r =
      of_bits-ext n _ _
      (λ v l.
      byBool (eqb v d)
      (λ e.
      let here = eqb-true v d e in
      let seen : reads d r ≡ has r v = cc (reads-carried v r (variable-carried n v within l), here) in
      rw (e, seen, or-true (set v)))
      (λ e. rw (e, or-false (set v)) (sym (has-only n set r v l))))

  pub fits_one : Fits n t set set d
  fits_one =
      record {
        of-f = λ x. truth t (put_to n d false x);
        of-g = λ x. truth t (put_to n d true x);
        of-h = λ low high level. pick level high low;
        every-row = λ r row.
            sym (truth-only n t both holds r row)
            ∙ rw (put-direct r) (byBool (reads d r) (λ e. rw e) (λ e. rw e));
      }
