-- The code's numbers stand for a wiring: each definition of specs/Code is then the one of
-- wiring/specs/Test. Assumes nothing.
use mathlib.Core.Path.{◌≡◌, refl, ap, ap₂, ◌∙◌}
use mathlib.Core.Bool.{Bool, true, false, not, ◌&&◌, ◌||◌}
use mathlib.Core.List.{List, [], ◌∷◌}
use Prim.Native.Nat.{ℕ, ◌+◌, ◌-◌, ◌*◌, ◌^◌, ◌<◌}
use native.Mathlib.Omega.{arith}
use lib.Bits.{bit_and, and_le_l}
use lib.Dec.{eqb, ltb}
use lib.ListN.{length, get_or}
use Rattle.bits.specs.Bits.{has, num, of_rows}
use Rattle.bits.specs.Tests.{pick, every, ◌⊕◌}
use Rattle.bits.proofs.SearchLaws.{some-ext, first-ext}
use Rattle.bits.proofs.TestLaws.{below-ext}
use Rattle.bits.proofs.RowLaws.{of_rows-ext}
use Rattle.bits.proofs.SetLaws.{masked_row}
use Rattle.block.specs.Value.{selected}
use Rattle.block.specs.Tidy.{field_fits, quiet}
use Rattle.wiring.specs.Wire.{Wiring, Wired, exchanged, truth, reads, only, shown, shared, bridged}
use Rattle.wiring.specs.Test.{changes, component, slot, asked, pole_f, pole_g, steady, allowed, turned, h_row}
use Rattle.wiring.specs.Test.{serves, choice, holds, filled, rows_f, rows_g}
use Rattle.wiring.proofs.SelectLaws.{selected-four}
use Rattle.wiring.proofs.ShownLaws.{shown-lt}
use Rattle.wiring.proofs.ShowsLaws.{shown-nine}
use Rattle.wiring.proofs.ChoiceLaws.{component-lt}
use Rattle.contents.specs.declared.Side.{Side}
use Rattle.contents.specs.declared.Wires.{Wires}
use Rattle.contents.specs.declared.Asked.{Asked}
use Rattle.contents.specs.Contents.{no_contents}
use Rattle.contents.specs.Code.{asked_ones, asked_zeros, IsSide, AreWires, component_by, changed_by, slot_by, asked_by}
use Rattle.contents.specs.Code.{AreAsked, allowed_by, serves_by, choice_by, choice_at, holds_by}
use Rattle.contents.specs.Code.{shown_by, filled_by, with_table}

changed-as : (n : ℕ) (t : List ℕ) (w : Wiring) (s : Side) → IsSide n t w s → length w.f ≡ 4
    → (r : ℕ) → changed_by s r ≡ changes n t w (selected w.f r)
changed-as n t w s is four r =
    rw is.pins (is.change (selected w.f r) (selected-four w.f four r))

-- bit 3 of the polarities, or bit 2 where the direct pin is 1, is F's; 1 and 0 are G's
pole-f : (k : ℕ) (c : Bool) → has k (3 - num c) ≡ pole_f k c
unfolding pole_f
pole-f k true = refl
pole-f k false = refl

pole-g : (k : ℕ) (c : Bool) → has k (1 - num c) ≡ pole_g k c
unfolding pole_g
pole-g k true = refl
pole-g k false = refl

module _ (n : ℕ) (t : List ℕ) (w : Wiring) (wired : Wired n w) (x : Wires) (are : AreWires n t w x) where
  pub component-as : (r : ℕ) → r < 2 ^ n → component_by x r ≡ component n w r
  unfolding component_by component only
  component-as r l =
      let less : bit_and r x.shared < 2 ^ n = omega (arith, and_le_l r x.shared) in
      ap₂ selected are.in_f.pins (masked_row n r x.shared (shared w) less are.both)

  slot-as : (r : ℕ) → slot_by x r ≡ slot n t w r
  unfolding slot_by slot
  slot-as r =
      rw (
        changed-as n t w x.f are.in_f wired.f-four r,
        changed-as n t (exchanged w) x.g are.in_g wired.g-four r,
        are.pin,
      )

  asked-as : (v : Bool) (s e : ℕ) → asked_by t x v (2 ^ n) s e ≡ asked n t w v s e
  unfolding asked_by asked
  asked-as v s e =
      some-ext (2 ^ n) _ _
      (λ r l.
      ap₂ (λ (c k : ℕ). eqb c s && (eqb k e && not (truth t r ⊕ v))) (component-as r l) (slot-as r))

  module _ (a : List Asked) (ask : AreAsked t x (2 ^ n) a) (h : ℕ) where
    pub serves-as : (s : ℕ) → s < 16 → (k : ℕ)
        → serves_by x h (get_or (asked_ones a) s 0) (get_or (asked_zeros a) s 0) k ≡ serves n t w h s k
    unfolding serves_by serves allowed_by allowed
    serves-as s l k =
        rw (are.in_f.bridge, are.in_g.bridge)
        (ap (λ (b : Bool). (steady (bridged w) (pole_f k) && steady (bridged (exchanged w)) (pole_g k)) && b)
        (below-ext _ _ 8
        (λ e m.
        ap₂ (λ (p q : Bool). (not p || h_row h (turned k e)) && (not q || not (h_row h (turned k e))))
        (ask.ones s e l m ∙ asked-as true s e) (ask.zeros s e l m ∙ asked-as false s e))))

    choice-as : (s : ℕ) → s < 16 → choice_at x a h s ≡ choice n t w h s
    unfolding choice_by choice
    choice-as s l = first-ext 16 _ _ (λ k m. serves-as s l k)

    pub holds_as : holds_by x a h ≡ holds n t w h
    unfolding holds_by holds
    holds_as = below-ext _ _ 16 (λ s l. ap (λ (k : ℕ). ltb k 16) (choice-as s l))

    -- the rows of F; of G where v is the wiring with F and G exchanged
    module _ (v : Wiring) (s : Side) (is : IsSide n t v s) (pin : x.direct ≡ v.direct)
        (fit : every (field_fits n) v.f ≡ true) (at : ℕ) (pole : ℕ → Bool → Bool)
        (pole-at : (k : ℕ) (c : Bool) → has k (at - num c) ≡ pole k c) where
      row_as : (y : ℕ) → shown_by s.key y ≡ shown n v.f y
      row_as y = rw is.pins (shown-nine n wired.within v.f y fit)

      filled-as : (y : ℕ) → y < 16 → filled_by x s (choice_at x a h) at y
          ≡ filled n v.f v.direct (bridged v) (changes n t v)
          (λ r. pole (choice n t w h (component n w r))) y
      unfolding filled_by filled
      filled-as y l =
          let row = shown n v.f y in
          let low = shown-lt n v.f y in
          rw (
            row_as y,
            is.pins,
            is.change y l,
            component-as row low,
            choice-as (component n w row) (component-lt n t w wired row),
            is.bridge,
            pin,
            pole-at (choice n t w h (component n w row)) (bridged v && reads v.direct row),
          )

      rows_as : of_rows 16 (filled_by x s (choice_at x a h) at)
          ≡ of_rows 16
          (filled n v.f v.direct (bridged v) (changes n t v)
          (λ r. pole (choice n t w h (component n w r))))
      rows_as = of_rows-ext 16 _ _ filled-as

    pub with-as : with_table x a h
        ≡ pick (quiet 8 h (w.direct ∷ []) && holds n t w h)
        ((rows_f n t w h * 65536 + rows_g n t w h) * 256 + h) no_contents
    unfolding with_table rows_f rows_g
    with-as =
        rw (
          holds_as,
          rows_as w x.f are.in_f are.pin wired.f-fit 3 pole_f pole-f,
          rows_as (exchanged w) x.g are.in_g are.pin wired.g-fit 1 pole_g pole-g,
          are.pin,
        )
