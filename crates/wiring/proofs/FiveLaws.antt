-- Every function of at most five variables has a block: the first of them on the direct pin, the others on
-- the pins of F and of G. Assumes nothing.
use mathlib.Core.Path.{◌≡◌, refl, sym, ◌∙◌}
use mathlib.Core.Bool.{Bool, true, not, ◌&&◌, ◌||◌, or-true}
use mathlib.Core.List.{List}
use Prim.Native.Nat.{ℕ, ◌^◌, ◌<◌, ◌≤◌}
use native.Mathlib.Omega.{arith}
use lib.Dec.{eqb, leb, ltb}
use lib.ListN.{length}
use lib.Pow.{pow_mono}
use borrow.Author.Tests.{eq-eqb, eqb-true, lt-ltb, ltb-true, ltb-false, leb-true, le-leb}
use Rattle.bits.specs.Bits.{has, of_bits}
use Rattle.bits.specs.Tests.{pick, below, first, count, every}
use Rattle.block.specs.Block.{Block, Device, open_field, is_open}
use Rattle.block.specs.Table.{most_inputs}
use Rattle.block.specs.Value.{Computes}
use Rattle.block.specs.Tidy.{field_fits, fields_fit}
use Rattle.block.specs.Kind.{carries}
use Rattle.subsets.specs.Masks.{variables_from, variables_in, pins_of_mask, Small}
use Rattle.wiring.specs.Wire.{Wiring, Wired, without}
use Rattle.wiring.specs.Fits.{depends_on}
use Rattle.bits.proofs.SearchLaws.{byBool, clash, first-is}
use Rattle.bits.proofs.TestLaws.{both_right, implied, below_at}
use Rattle.bits.proofs.ListLaws.{every-member, every_of}
use Rattle.bits.proofs.CountLaws.{count-ext, count_past}
use Rattle.bits.proofs.BitLaws.{has-high, has-of_bits, of_bits-lt}
use Rattle.subsets.proofs.PinLaws.{pins-tidy, carries-mask}
use Rattle.wiring.proofs.OnlyLaws.{has-without, without-lt}
use Rattle.wiring.proofs.ReadLaws.{carried-lt}
use Rattle.wiring.proofs.MuxLaws.{fits_one}
use Rattle.wiring.proofs.FillLaws.{Filled, block-of-fits, block_of, filled-device, filled-fields}

-- the first variable of a mask, or 9
abbrev first_of : ℕ → ℕ
first_of m = first (has m) most_inputs

-- a mask without its first variable
abbrev rest_of : ℕ → ℕ
rest_of m = without most_inputs (eqb (first_of m)) m

-- of at most five variables it leaves at most four
abbrev leaves_four : ℕ → Bool
leaves_four m = not (leb (count (has m) most_inputs) 5) || leb (length (variables_in (rest_of m))) 4

all-leave : below leaves_four 512 ≡ true
unfolding has of_bits first without variables_from variables_in
all-leave = refl

-- the pins of F, and of G: a mask without its first variable
abbrev table_pins : ℕ → List ℕ
table_pins m = pins_of_mask (rest_of m)

-- the direct pin: the first variable, or open
abbrev direct_of : ℕ → ℕ
direct_of m = pick (ltb (first_of m) most_inputs) (first_of m) open_field

-- the wiring of a mask
abbrev wiring_of : ℕ → Wiring
wiring_of m = record { f = table_pins m; g = table_pins m; direct = direct_of m }

module _ (n m : ℕ) (within : n ≤ most_inputs) (mask : m < 2 ^ n) (few : count (has m) most_inputs ≤ 5) where
  in-mask : (v : ℕ) → has m v ≡ true → v < n
  in-mask v inside =
      byBool (ltb v n) (ltb-true v n)
      (λ e. clash inside (has-high n m v mask (ltb-false v n e)))

  has_rest : (v : ℕ) → v < most_inputs
      → has (rest_of m) v ≡ (not (eqb (first_of m) v) && has m v)
  has_rest v l = has-without most_inputs (eqb (first_of m)) m v l

  small-rest : Small (rest_of m)
  small-rest =
      let l : m < 512 = omega (arith, pow_mono within) in
      let told = below_at leaves_four 512 all-leave m l in
      record {
        nine = without-lt most_inputs (eqb (first_of m)) m;
        four =
            leb-true _ 4
            (implied (leb (count (has m) most_inputs) 5) _ told (le-leb (count (has m) most_inputs) 5 few));
      }

  pins-fit : every (field_fits n) (table_pins m) ≡ true
  unfolding carries
  pins-fit =
      every_of (field_fits n) (table_pins m)
      (λ pin inside.
      byBool (is_open pin) (λ e. rw (e, or-true (ltb pin n)))
      (λ carried.
      let fit = every-member (field_fits most_inputs) (table_pins m) (pins-tidy _ small-rest).fields pin inside in
      let l = carried-lt most_inputs pin fit carried in
      let seen : carries (table_pins m) pin ≡ true = rw (carried, inside) in
      let left = sym (carries-mask _ small-rest pin l ∙ has_rest pin l) ∙ seen in
      let inside-m = both_right (not (eqb (first_of m) pin)) (has m pin) left in
      rw (lt-ltb pin n (in-mask pin inside-m))))

  direct-fits : field_fits n (direct_of m) ≡ true
  direct-fits =
      let v = first_of m in
      byBool (ltb v most_inputs)
      (λ e.
      rw (e, lt-ltb v n (in-mask v (first-is (has m) most_inputs (ltb-true v most_inputs e)))))
      (λ e. rw (e, or-true (ltb open_field n)))

  wired-mask : Wired n (wiring_of m)
  wired-mask =
      record {
        within = within;
        f-four = (pins-tidy _ small-rest).four;
        g-four = (pins-tidy _ small-rest).four;
        f-fit = pins-fit;
        g-fit = pins-fit;
        direct-fits = direct-fits;
      }

  -- F, or G, and the direct pin carry the mask
  mask-carried : (v : ℕ) → v < n → has m v ≡ true
      → (carries (table_pins m) v || eqb v (direct_of m)) ≡ true
  mask-carried v l inside =
      let head = first_of m in
      let k : v < most_inputs = omega arith in
      byBool (eqb head v)
      (λ e.
      let same = eqb-true head v e in
      let here : direct_of m ≡ v = rw (lt-ltb head most_inputs (omega arith)) same in
      rw (here, eq-eqb v v refl) (simp or-true))
      (λ e. rw (carries-mask _ small-rest v k ∙ has_rest v k, e, inside))

-- every function that depends on at most five variables has a block
module _ (n : ℕ) (t : List ℕ) (within : n ≤ most_inputs) (few : count (depends_on n t) n ≤ 5) where
  -- the mask of the variables on which it depends
  abbrev needed : ℕ
  needed = of_bits n (depends_on n t)

  needed-lt : needed < 2 ^ n
  needed-lt = of_bits-lt n (depends_on n t)

  needed-few : count (has needed) most_inputs ≤ 5
  needed-few =
      let past = count_past (has needed) n most_inputs within (λ v l. has-high n needed v needed-lt l) in
      rw (past, count-ext (has needed) (depends_on n t) n (has-of_bits n (depends_on n t))) few

  wired : Wired n (wiring_of needed)
  wired = wired-mask n needed within needed-lt needed-few

  filled : Filled n t (wiring_of needed)
  filled =
      block-of-fits n t (wiring_of needed) wired
      (fits_one n t (carries (table_pins needed)) (direct_of needed) within
      (λ v l e. mask-carried n needed within needed-lt needed-few v l (has-of_bits n (depends_on n t) v l ∙ e)))

  pub five : (b : Block) × Device b × (fields_fit n b ≡ true) × Computes n t b
  five = (
    block_of n t (wiring_of needed) filled,
    filled-device n t (wiring_of needed) wired filled,
    filled-fields n t (wiring_of needed) wired filled,
    filled.computes,
  )
