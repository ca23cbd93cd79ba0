-- Of two choices of polarities, the one that comes first in each component gives the lesser table;
-- and equal tables have equal polarities. Assumes nothing.
use mathlib.Core.Path.{◌≡◌, sym, ◌∙◌}
use mathlib.Core.Bool.{Bool, true, false}
use mathlib.Core.Logic.{⊎_elim}
use mathlib.Core.List.{List}
use Prim.Native.Nat.{ℕ, ◌^◌, ◌<◌, ◌≤◌}
use native.Mathlib.Omega.{arith}
use lib.Dec.{ltb}
use borrow.Author.Tests.{ltb-true, ltb-false}
use Rattle.bits.specs.Bits.{of_rows}
use Rattle.bits.specs.Tests.{◌⊕◌}
use Rattle.bits.proofs.SearchLaws.{byBool}
use Rattle.bits.proofs.XorLaws.{xor-cancel}
use Rattle.bits.proofs.RowLaws.{before-le, of_rows-injective}
use Rattle.block.specs.Value.{selected}
use Rattle.wiring.specs.Wire.{Wiring, Wired, reads, bridged}
use Rattle.wiring.specs.Test.{changes}
use Rattle.wiring.proofs.SelectLaws.{selected-four}
use Rattle.wiring.proofs.OwnLaws.{rest, rest_le, rest-direct}
use Rattle.wiring.proofs.OwnLaws.{with_direct, reads-put, cleared-less}
use Rattle.wiring.proofs.ComponentLaws.{Splits, rest-component, direct-component}
use Rattle.wiring.proofs.TableLaws.{Steady, table_of, table_at, table-cases}

-- p comes before q, or is it: the value at 0 goes first
abbrev pub First : (p q : Bool → Bool) → Type 0
First p q =
    (q false ≡ false → p false ≡ false)
    × (p false ≡ q false → q true ≡ false → p true ≡ false)

module _ (n : ℕ) (t : List ℕ) (w : Wiring) (wired : Wired n w)
    (comp : ℕ → ℕ) (splits : Splits n w comp)
    (rest_0 : (r : ℕ) → changes n t w (selected w.f (rest n w r)) ≡ false)
    (P Q : ℕ → Bool → Bool)
    (steady-P : (r : ℕ) → Steady (bridged w) (P (comp r)))
    (steady-Q : (r : ℕ) → Steady (bridged w) (Q (comp r))) where
  abbrev f : ℕ → ℕ
  f r = selected w.f r

  abbrev pin : ℕ → Bool
  pin r = reads w.direct r

  abbrev A : ℕ → Bool
  A = table_of n t w comp P

  abbrev B : ℕ → Bool
  B = table_of n t w comp Q

  at-P : (r : ℕ) → A (f r) ≡ changes n t w (f r) ⊕ P (comp r) (pin r)
  at-P r = table_at n t w comp P wired splits r (steady-P r)

  at-Q : (r : ℕ) → B (f r) ≡ changes n t w (f r) ⊕ Q (comp r) (pin r)
  at-Q r = table_at n t w comp Q wired splits r (steady-Q r)

  -- where the tables agree, so do the polarities
  agreed : (r : ℕ) → A (f r) ≡ B (f r) → P (comp r) (pin r) ≡ Q (comp r) (pin r)
  agreed r e = xor-cancel (changes n t w (f r)) _ _ (sym (at-P r) ∙ e ∙ at-Q r)

  -- row r with the direct pin's variable cleared
  abbrev off : ℕ → ℕ
  off r = with_direct n w false r

  -- where Q's polarity is 0 and the tables agree before, so is P's
  low : ((r : ℕ) → First (P (comp r)) (Q (comp r)))
      → (r : ℕ) → ((y : ℕ) → y < f r → A y ≡ B y)
      → Q (comp r) (pin r) ≡ false → P (comp r) (pin r) ≡ false
  low order r before q =
      byBool (pin r)
      (λ y.
      byBool (bridged w)
      (λ b.
      let agree = agreed (off r) (before (f (off r)) (cleared-less n w wired b r y)) in
      let same : P (comp r) false ≡ Q (comp r) false =
      cc (agree, reads-put n w wired b false r, direct-component n w wired comp splits false r) in
      rw y ((order r).1 same (cc)))
      (λ b.
      let q0 : Q (comp r) false ≡ false = cc (steady-Q r b) in
      cc (steady-P r b, (order r).0 q0)))
      (λ y. rw y ((order r).0 (cc)))

  lesser-at : ((r : ℕ) → First (P (comp r)) (Q (comp r)))
      → (r : ℕ) → ((y : ℕ) → y < f r → A y ≡ B y) → B (f r) ≡ false → A (f r) ≡ false
  lesser-at order r before b =
      byBool (ltb (f (rest n w r)) (f r))
      (λ e.
      let agree = agreed (rest n w r) (before (f (rest n w r)) (ltb-true (f (rest n w r)) (f r) e)) in
      cc (agree, at-P r, at-Q r, rest-direct n w wired r, rest-component n w wired comp splits r))
      (λ e.
      let least = ltb-false (f (rest n w r)) (f r) e in
      let same : f (rest n w r) ≡ f r = omega (arith, least, rest_le n w wired r) in
      let still : changes n t w (f r) ≡ false = cc (rest_0 r) in
      let q : Q (comp r) (pin r) ≡ false = cc (at-Q r) in
      cc (at-P r, low order r before q))

  pub lesser : ((r : ℕ) → First (P (comp r)) (Q (comp r))) → (k : ℕ) → of_rows k A ≤ of_rows k B
  lesser order k =
      before-le k A B
      (λ x l before h.
      ⊎_elim (λ e. e)
      (λ (row : (r : ℕ) × (r < 2 ^ n) × (f r ≡ x)).
      rw row.2 at (lesser-at order row.0 (rw (← row.2) at before) (rw (← row.2) at h)))
      (table-cases n t w comp P x))

  -- one value of the direct pin gives the other, where the table does not carry it
  by-steady : bridged w ≡ false → (r : ℕ) (u v : Bool) → P (comp r) u ≡ Q (comp r) u
      → P (comp r) v ≡ Q (comp r) v
  by-steady b r true true e = e
  by-steady b r true false e = sym (steady-P r b) ∙ e ∙ steady-Q r b
  by-steady b r false true e = steady-P r b ∙ e ∙ sym (steady-Q r b)
  by-steady b r false false e = e

  -- and where it does, some row of the component has each value
  by_rows : bridged w ≡ true → ((s : ℕ) → P (comp s) (pin s) ≡ Q (comp s) (pin s))
      → (r : ℕ) (v : Bool) → P (comp r) v ≡ Q (comp r) v
  by_rows b agree r v =
      cc (
        agree (with_direct n w v r),
        reads-put n w wired b v r,
        direct-component n w wired comp splits v r,
      )

  -- equal tables have, in each component that a row has, equal polarities
  pub same-polarities : of_rows 16 A ≡ of_rows 16 B → (r : ℕ) (v : Bool) → P (comp r) v ≡ Q (comp r) v
  same-polarities e r =
      let agree : (s : ℕ) → P (comp s) (pin s) ≡ Q (comp s) (pin s) =
      λ s. agreed s (of_rows-injective 16 A B e (f s) (selected-four w.f wired.f-four s)) in
      byBool (bridged w) (λ b. by_rows b agree r) (λ b v. by-steady b r (pin r) v (agree r))
