-- The numbers of a wiring: what F keeps to itself, what it shares, whether it carries the direct pin's
-- variable. Assumes nothing.
use mathlib.Core.Path.{◌≡◌, refl, sym, ap, ap₂, ◌∙◌}
use mathlib.Core.Bool.{Bool, true, false, not, ◌&&◌, ◌||◌}
use mathlib.Core.List.{List}
use Prim.Native.Nat.{ℕ, ◌-◌, ◌*◌, ◌%◌, ◌^◌, ◌<◌, ◌≤◌}
use native.Mathlib.Omega.{arith}
use lib.Bits.{bit_and, bit_or, and_le_l}
use lib.Dec.{eqb, ltb}
use lib.Pow.{pow-lt}
use borrow.Author.Tests.{ltb-true, eqb-true}
use Rattle.bits.specs.Bits.{bit, has}
use Rattle.bits.specs.Tests.{◌⊕◌}
use Rattle.bits.proofs.SearchLaws.{some-ext}
use Rattle.bits.proofs.TestLaws.{or_cases}
use Rattle.bits.proofs.BitLaws.{has-and, has-or, has-pow, has-high}
use Rattle.bits.proofs.SetLaws.{one_shifted, has-complement, masked_row}
use Rattle.block.specs.Block.{is_open}
use Rattle.block.specs.Value.{selected}
use Rattle.block.specs.Kind.{carries}
use Rattle.subsets.specs.Masks.{pins_of_mask, key_of}
use Rattle.rows.proofs.KeyLaws.{key-pins}
use Rattle.wiring.specs.Wire.{Wiring, truth, without, private, shared, bridged}
use Rattle.wiring.specs.Test.{changes}
use Rattle.contents.specs.declared.Side.{Side}
use Rattle.contents.specs.Contents.{is_wiring, wiring_of}
use Rattle.contents.specs.Code.{changes_by, IsSide}
use Rattle.contents.proofs.ChoiceLaws.{choice-small, pieces, direct-lt, f-carries, g-carries}

module _ (n f g direct : ℕ) (tidy : is_wiring n f g direct ≡ true) where
  abbrev w : Wiring
  w = wiring_of f g direct

  nine : n ≤ 9
  nine = (pieces n f g direct tidy).within

  pub f-nine : f < 512
  f-nine = (choice-small n f nine (pieces n f g direct tidy).f-choice).nine

  -- `1 << direct`
  abbrev pin : ℕ
  pin = (1 * 2 ^ direct) % 65536

  pin-is : pin ≡ 2 ^ direct
  pin-is = one_shifted direct 16 (direct-lt n f g direct tidy)

  -- all but F's own variables
  abbrev pub keep : ℕ
  keep = bit_or (511 - f) (bit_or g pin)

  keep-bits : (v : ℕ) → v < n → has keep v ≡ not (private w v)
  keep-bits v l =
      has-or (511 - f) (bit_or g pin) v
      ∙ ap₂ ◌||◌ (has-complement 9 f v f-nine (omega (arith, nine)))
      (has-or g pin v
      ∙ ap (λ (b : Bool). has g v || b) (ap (λ (x : ℕ). has x v) pin-is ∙ has-pow direct v))
      ∙ rw (← f-carries n f g direct tidy v l, ← g-carries n f g direct tidy v l)
      (go (carries (pins_of_mask f) v) (carries (pins_of_mask g) v) (eqb v direct))
    where
      go : (p q e : Bool) → not p || (q || e) ≡ not (p && (not q && not e))
      go true true e = refl
      go true false true = refl
      go true false false = refl
      go false q e = refl

  rest-row : (r : ℕ) → r < 2 ^ n → bit_and r keep ≡ without n (private w) r
  unfolding without
  rest-row r l = masked_row n r keep (λ v. not (private w v)) (omega (arith, and_le_l r keep)) keep-bits

  changes-as : (t : List ℕ) (x : ℕ) → changes_by t (key_of f) keep (2 ^ n) x ≡ changes n t w x
  unfolding changes_by changes
  changes-as t x =
      some-ext (2 ^ n) _ _
      (λ r l.
      ap₂ (λ (pins : List ℕ) (s : ℕ). eqb (selected pins r) x && (truth t r ⊕ truth t s))
      (key-pins f) (rest-row r l))

  bridged-as : eqb (bit f direct) 1 ≡ bridged w
  unfolding has carries
  bridged-as =
      or_cases (ltb direct n) (is_open direct) (eqb (bit f direct) 1 ≡ bridged w)
      (pieces n f g direct tidy).direct
      (λ l. sym (f-carries n f g direct tidy direct (ltb-true direct n l)))
      (λ o.
      let unread = eqb-true direct 15 o in
      rw o (has-high 9 f direct f-nine (omega arith)))

  pub shared-bits : (v : ℕ) → v < n → has (bit_and f (bit_and g (65535 - pin))) v ≡ shared w v
  shared-bits v l =
      let below : 2 ^ direct < 2 ^ 16 = pow-lt (direct-lt n f g direct tidy) in
      has-and f (bit_and g (65535 - pin)) v
      ∙ ap₂ ◌&&◌ (sym (f-carries n f g direct tidy v l))
      (has-and g (65535 - pin) v
      ∙ ap₂ ◌&&◌ (sym (g-carries n f g direct tidy v l))
      (ap (λ (x : ℕ). has (65535 - x) v) pin-is
      ∙ has-complement 16 (2 ^ direct) v below (omega (arith, nine))
      ∙ ap not (has-pow direct v)))

  pub is-side : (t : List ℕ) (s : Side) → s.key ≡ key_of f
      → ((x : ℕ) → x < 16 → has s.changes x ≡ changes_by t s.key keep (2 ^ n) x)
      → s.bridged ≡ eqb (bit f direct) 1
      → IsSide n t w s
  is-side t s key found bridge =
      record {
        pins = rw key (key-pins f);
        change = λ x l. found x l ∙ rw key (changes-as t x);
        bridge = bridge ∙ bridged-as;
      }
