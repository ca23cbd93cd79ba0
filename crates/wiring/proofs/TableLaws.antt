-- F's table of a choice of polarities, one for each component and value of the direct pin: what row r
-- selects is the change at r turned by the polarity of r. Assumes nothing.
use mathlib.Core.Path.{◌≡◌, sym, ap}
use mathlib.Core.Bool.{Bool, true, false, ◌&&◌}
use mathlib.Core.Logic.{◌⊎◌, inl, inr, ⊎_elim}
use mathlib.Core.List.{List}
use Prim.Native.Nat.{ℕ, ◌^◌, ◌<◌}
use lib.Dec.{eqb}
use borrow.Author.Tests.{eq-eqb, eqb-true}
use Rattle.bits.specs.Bits.{of_rows}
use Rattle.bits.specs.Tests.{◌⊕◌}
use Rattle.bits.proofs.SearchLaws.{byBool, clash}
use Rattle.block.specs.Value.{selected}
use Rattle.block.specs.Tidy.{quiet}
use Rattle.wiring.specs.Wire.{Wiring, Wired, reads, shown, bridged}
use Rattle.wiring.specs.Test.{changes, filled}
use Rattle.wiring.proofs.SelectLaws.{selected-same}
use Rattle.wiring.proofs.ShownLaws.{ends-selected, shown-lt, shown-agrees}
use Rattle.wiring.proofs.QuietLaws.{readable, quiet_of}
use Rattle.wiring.proofs.ComponentLaws.{Splits, shown-component, shown-direct}

-- one polarity for both values of the direct pin, where the table does not carry its variable
abbrev pub Steady : (bridged : Bool) (pole : Bool → Bool) → Type 0
Steady bridged pole = bridged ≡ false → pole true ≡ pole false

-- the table with the polarities P of the components
abbrev pub table_of : (n : ℕ) (t : List ℕ) (w : Wiring) (comp : ℕ → ℕ)
    (P : ℕ → Bool → Bool) (x : ℕ) → Bool
table_of n t w comp P =
    filled n w.f w.direct (bridged w) (changes n t w) (λ r. P (comp r))

module _ (n : ℕ) (t : List ℕ) (w : Wiring) (comp : ℕ → ℕ) (P : ℕ → Bool → Bool) where
  abbrev f : ℕ → ℕ
  f r = selected w.f r

  abbrev pin : ℕ → Bool
  pin r = reads w.direct r

  -- the row that F's pins make of row r
  abbrev seen : ℕ → ℕ
  seen r = shown n w.f (f r)

  -- a row of the table is 0, or some row selects it
  pub table-cases : (x : ℕ) → (table_of n t w comp P x ≡ false) ⊎ ((r : ℕ) × (r < 2 ^ n) × (f r ≡ x))
  unfolding filled
  table-cases x =
      byBool (eqb (f (shown n w.f x)) x)
      (λ e. inr (shown n w.f x, shown-lt n w.f x, eqb-true (f (shown n w.f x)) x e))
      (λ e. inl (rw e))

  -- so a row that an open pin makes unreadable is 0
  pub table-quiet : (k : ℕ) → quiet k (of_rows k (table_of n t w comp P)) w.f ≡ true
  table-quiet k =
      quiet_of k w.f (table_of n t w comp P)
      (λ x h.
      ⊎_elim (λ e. e)
      (λ (row : (r : ℕ) × (r < 2 ^ n) × (f r ≡ x)).
      let r = row.0 in
      clash h (rw row.2 at (readable w.f r (f r) (ends-selected w.f r))))
      (table-cases x))

  module _ (wired : Wired n w) (splits : Splits n w comp) where
    seen-selected : (r : ℕ) → f (seen r) ≡ f r
    seen-selected r = selected-same n w.f wired.f-fit (seen r) r (shown-agrees n w.f r)

    steady-at : (p : Bool → Bool) → Steady (bridged w) p → (r : ℕ)
        → p (bridged w && pin (seen r)) ≡ p (pin r)
    steady-at p h r =
        byBool (bridged w) (λ e. rw e (ap p (shown-direct n w wired comp splits r e)))
        (λ e. rw e (byBool (pin r) (λ y. rw y (sym (h e))) (λ y. rw y)))

    pub table_at : (r : ℕ) → Steady (bridged w) (P (comp r))
        → table_of n t w comp P (f r) ≡ changes n t w (f r) ⊕ P (comp r) (pin r)
    unfolding filled
    table_at r h =
        rw (eq-eqb (f (seen r)) (f r) (seen-selected r), shown-component n w wired comp splits r)
        (ap (λ (v : Bool). changes n t w (f r) ⊕ v) (steady-at (P (comp r)) h r))
