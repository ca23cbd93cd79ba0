-- Which variables a table row shows to pins: none that no pin carries, and the same ones as a table row
-- that has the same bits where the pins read 1 in a row with the variable at 1. Assumes nothing.
use mathlib.Core.Path.{◌≡◌, refl, sym, ◌∙◌}
use mathlib.Core.Bool.{true, false}
use mathlib.Core.List.{List, [], ◌∷◌}
use Prim.Native.Nat.{ℕ, ◌^◌, ◌<◌, ◌≤◌}
use native.Mathlib.Omega.{arith}
use lib.Dec.{eqb, ltb}
use lib.ListN.{length}
use lib.Pow.{pow_mono}
use borrow.Author.Tests.{eqb-true, ltb-true, ltb-false}
use Rattle.bits.specs.Bits.{has, of_bits}
use Rattle.bits.specs.Tests.{member, every}
use Rattle.bits.proofs.SearchLaws.{byBool}
use Rattle.bits.proofs.ListLaws.{every-member}
use Rattle.bits.proofs.BitLaws.{has-high, has-of_bits, of_bits-lt, same_number}
use Rattle.block.specs.Block.{is_open}
use Rattle.block.specs.Table.{most_inputs}
use Rattle.block.specs.Tidy.{field_fits}
use Rattle.wiring.specs.Wire.{shows, shown}
use Rattle.wiring.proofs.ReadLaws.{variable-carried, carried-lt, reads-carried}
use Rattle.wiring.proofs.ShownLaws.{Ends, ends-cons}

-- what is shown to the pins is carried by one
pub shows-member : (pins : List ℕ) (x v : ℕ) → shows pins x v ≡ true → member v pins ≡ true
unfolding shows
shows-member [] x v h = h
shows-member (pin ∷ pins) x v h =
    byBool (eqb v pin) (λ e. rw e) (λ e. rw e (shows-member pins x v (rw e at h)))

-- a row of nine variables that is shown to pins of n inputs is one of n variables
module _ (n : ℕ) (within : n ≤ most_inputs) (pins : List ℕ) (x : ℕ)
    (fit : every (field_fits n) pins ≡ true) where
  shows-none : (v : ℕ) → n ≤ v → v < most_inputs → shows pins x v ≡ false
  shows-none v above nine =
      byBool (shows pins x v)
      (λ h.
      let field = every-member (field_fits n) pins fit v (shows-member pins x v h) in
      absurd (omega (arith, carried-lt n v field (variable-carried most_inputs v (omega arith) nine))))
      (λ h. h)

  pub shown-nine : shown most_inputs pins x ≡ shown n pins x
  unfolding shown
  shown-nine =
      let most : 2 ^ n ≤ 2 ^ most_inputs = pow_mono {i = n} {j = most_inputs} within in
      let small = of_bits-lt n (shows pins x) in
      same_number most_inputs (of_bits most_inputs (shows pins x)) (of_bits n (shows pins x))
      (of_bits-lt most_inputs (shows pins x)) (omega arith)
      (λ v l.
      has-of_bits most_inputs (shows pins x) v l
      ∙ byBool (ltb v n) (λ e. sym (has-of_bits n (shows pins x) v (ltb-true v n e)))
      (λ e.
      let above = ltb-false v n e in
      shows-none v above l ∙ sym (has-high n (of_bits n (shows pins x)) v small above)))

-- z ends in what the pins select in row m, where v is 1
pub shows_same : (x y m v : ℕ) → is_open v ≡ false → has m v ≡ true → (pins : List ℕ) (z : ℕ)
    → Ends pins m z → ((i : ℕ) → i < length pins → has z i ≡ true → has x i ≡ has y i)
    → shows pins x v ≡ shows pins y v
unfolding shows
shows_same x y m v closed on [] z ends same = refl
shows_same x y m v closed on (pin ∷ pins) z ends same =
    let here = ends-cons pin pins m z ends in
    let rest = shows_same x y m v closed on pins z here.1 (λ i l. same i (omega arith)) in
    byBool (eqb v pin)
    (λ e.
    let is = eqb-true v pin e in
    let read : has z (length pins) ≡ true = here.0 ∙ rw (← is) (reads-carried v m closed ∙ on) in
    rw (same (length pins) (omega arith) read, rest))
    (λ e. rw (e, rest))
