-- One row of a table as the code fills it. Assumes nothing.
use mathlib.Core.Path.{◌≡◌}
use mathlib.Core.Bool.{false, not, ◌&&◌, not-not}
use Prim.Native.Nat.{ℕ, ◌-◌}
use lib.Dec.{eqb}
use borrow.Author.Tests.{eq-eqb, ne_eqb}
use Rattle.bits.specs.Bits.{bit, has, num}
use Rattle.bits.specs.Tests.{◌⊕◌}
use Rattle.bits.proofs.MaskLaws.{same_bits}
use Rattle.wiring.specs.Wire.{reads}
use Rattle.contents.specs.declared.Side.{Side}
use Rattle.contents.specs.declared.Wires.{Wires}
use Rattle.contents.specs.Code.{selected_by, shown_by, component_by, filled_by}

module _ (w : Wires) (s : Side) (poles : ℕ → ℕ) (at x row : ℕ) (is : row ≡ shown_by s.key x) where
  pub filled-not : (selected_by s.key row ≡ x → ⊥) → false ≡ filled_by w s poles at x
  unfolding filled_by
  filled-not other = rw (← is, ne_eqb (selected_by s.key row) x other)

  pub filled-as : selected_by s.key row ≡ x
      → (k c : ℕ) → k ≡ component_by w row → c ≡ num (s.bridged && reads w.direct row)
      → not (eqb (bit s.changes x) (bit (poles k) (at - c))) ≡ filled_by w s poles at x
  unfolding filled_by
  filled-as same k c is-k is_c =
      rw (
        ← is,
        eq-eqb (selected_by s.key row) x same,
        ← is-k,
        ← is_c,
        same_bits s.changes x (poles k) (at - c),
      )
      (not-not (has s.changes x ⊕ has (poles k) (at - c)))
