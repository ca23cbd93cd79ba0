-- Polarities serve a component just if, turned by them, the changes of each of its rows select a row
-- of H with the value of t there. Assumes nothing.
use mathlib.Core.Path.{◌≡◌, refl, sym, ap, ◌∙◌}
use mathlib.Core.Bool.{Bool, true, not, ◌&&◌}
use mathlib.Core.List.{List}
use Prim.Native.Nat.{ℕ, ◌^◌, ◌<◌}
use lib.Dec.{eqb}
use borrow.Author.Tests.{eq-eqb, eqb-true, not-true}
use Rattle.bits.specs.Tests.{◌⊕◌}
use Rattle.bits.proofs.SearchLaws.{some_in, some-where}
use Rattle.bits.proofs.TestLaws.{both_left, both_right}
use Rattle.bits.proofs.XorLaws.{xor-no, xor_self}
use Rattle.block.specs.Value.{selected}
use Rattle.wiring.specs.Wire.{Wiring, exchanged, truth, reads, bridged}
use Rattle.wiring.specs.Test.{changes, component, slot, asked, pole_f, pole_g, turned, h_row}
use Rattle.wiring.proofs.BlockLaws.{place, has-place, place-lt, h_of}
use Rattle.wiring.proofs.TableLaws.{Steady}
use Rattle.wiring.proofs.ServeLaws.{Serves}

pub turned-place : (k : ℕ) (x y z : Bool)
    → turned k (place x y z) ≡ place (x ⊕ pole_f k z) (y ⊕ pole_g k z) z
unfolding turned
turned-place k x y z = let is = has-place x y z in rw (is.0, is.1, is.2)

-- what H makes of row r with polarities k
abbrev pub outcome : (n : ℕ) (t : List ℕ) (w : Wiring) (h k r : ℕ) → Bool
outcome n t w h k r =
    h_of h (changes n t w (selected w.f r) ⊕ pole_f k (reads w.direct r))
    (changes n t (exchanged w) (selected w.g r) ⊕ pole_g k (reads w.direct r))
    (reads w.direct r)

module _ (n : ℕ) (t : List ℕ) (w : Wiring) where
  abbrev comp : ℕ → ℕ
  comp r = component n w r

  -- the row of H that row r asks for
  abbrev wants : ℕ → ℕ
  wants r = slot n t w r

  abbrev in_f : ℕ → Bool
  in_f r = changes n t w (selected w.f r)

  abbrev in_g : ℕ → Bool
  in_g r = changes n t (exchanged w) (selected w.g r)

  slot_lt : (r : ℕ) → wants r < 8
  unfolding slot
  slot_lt r = place-lt (in_f r) (in_g r) (reads w.direct r)

  turned-slot : (h k r : ℕ) → h_row h (turned k (wants r)) ≡ outcome n t w h k r
  unfolding slot
  turned-slot h k r = ap (h_row h) (turned-place k (in_f r) (in_g r) (reads w.direct r))

  asked_of : (r : ℕ) → r < 2 ^ n → asked n t w (truth t r) (comp r) (wants r) ≡ true
  unfolding asked
  asked_of r l =
      some_in _ (2 ^ n) r l
      (rw (eq-eqb (comp r) (comp r) refl, eq-eqb (wants r) (wants r) refl, xor_self (truth t r)))

  asked_by_lem : (v : Bool) (s e : ℕ) → asked n t w v s e ≡ true
      → (r : ℕ) × (r < 2 ^ n) × (comp r ≡ s) × (wants r ≡ e) × (truth t r ≡ v)
  unfolding asked
  asked_by_lem v s e h =
      let there : ℕ → Bool = λ r. eqb (wants r) e in
      let value : ℕ → Bool = λ r. not (truth t r ⊕ v) in
      let found = some-where comp s (λ r. there r && value r) (2 ^ n) h in
      let r = found.0 in (
        r,
        found.1,
        found.2,
        eqb-true (wants r) e (both_left (there r) (value r) found.3),
        xor-no (truth t r) v (not-true (truth t r ⊕ v) (both_right (there r) (value r) found.3)),
      )

  pub served-row : (h k r : ℕ) → r < 2 ^ n → Serves n t w h (comp r) k
      → truth t r ≡ outcome n t w h k r
  served-row h k r l served =
      sym (served.meets (truth t r) (wants r) (slot_lt r) (asked_of r l)) ∙ turned-slot h k r

  pub served-of : (h s k : ℕ)
      → Steady (bridged w) (pole_f k) → Steady (bridged (exchanged w)) (pole_g k)
      → ((r : ℕ) → r < 2 ^ n → comp r ≡ s → truth t r ≡ outcome n t w h k r)
      → Serves n t w h s k
  served-of h s k f g rows =
      record {
        steady-f = f;
        steady-g = g;
        meets = λ v e l a.
            let found = asked_by_lem v s e a in
            let r = found.0 in
            cc (rows r found.1 found.2, turned-slot h k r, found.3, found.4);
      }
