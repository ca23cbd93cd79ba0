-- The pins of the table's sets are the tidy choices of four pins: none is missed, and each is one.
-- Each law reads a test over a finite domain: all fours of fields, or all 512 masks. Assumes nothing.
use mathlib.Core.Path.{◌≡◌, refl}
use mathlib.Core.Bool.{Bool, true, not, ◌&&◌, ◌||◌, beq}
use mathlib.Core.List.{List, [], ◌∷◌}
use Prim.Native.Nat.{ℕ, ◌+◌, ◌^◌, ◌<◌}
use native.Mathlib.Omega.{arith}
use lib.Dec.{eqb}
use lib.ListN.{length, get_or}
use borrow.Author.Tests.{eqb-true, le-leb}
use Rattle.bits.specs.Bits.{has}
use Rattle.bits.specs.Tests.{below, every, pick, alike}
use Rattle.block.specs.Block.{is_open}
use Rattle.block.specs.Table.{most_inputs}
use Rattle.block.specs.Tidy.{field_fits, ordered}
use Rattle.block.specs.Kind.{carries}
use Rattle.subsets.specs.Masks.{variables_from, variables_in, pins_of_mask, Small, TidyChoice, masks}
use Rattle.block.proofs.TidyLaws.{fits_lt}
use Rattle.bits.proofs.TestLaws.{same_bool, both_left, both_right, implied, below_at}
use Rattle.bits.proofs.ListLaws.{every-at, alike-eq}
use Rattle.bits.proofs.FieldLaws.{four-of}
use Rattle.subsets.proofs.MaskLaws.{at_most_four, small, small→Small, masks-rule}

abbrev tidy_choice : List ℕ → Bool
tidy_choice pins = every (field_fits most_inputs) pins && ordered pins

-- the mask of the carried pins
abbrev mask_of : List ℕ → ℕ
mask_of [] = 0
mask_of (pin ∷ pins) = pick (is_open pin) 0 (2 ^ pin) + mask_of pins

-- the pins are those of a small mask
abbrev pins_of_small : List ℕ → Bool
pins_of_small pins = small (mask_of pins) && alike (pins_of_mask (mask_of pins)) pins

abbrev found : ℕ → ℕ → ℕ → ℕ → Bool
found a b c d = not (tidy_choice (a ∷ b ∷ c ∷ d ∷ [])) || pins_of_small (a ∷ b ∷ c ∷ d ∷ [])

abbrev found_abc : ℕ → ℕ → ℕ → Bool
found_abc a b c = below (found a b c) 16

abbrev found_ab : ℕ → ℕ → Bool
found_ab a b = below (found_abc a b) 16

abbrev found_a : ℕ → Bool
found_a a = below (found_ab a) 16

all_found : below found_a 16 ≡ true
unfolding has variables_from variables_in pins_of_mask ordered
all_found = refl

module _ (a b c d : ℕ) (fields : every (field_fits most_inputs) (a ∷ b ∷ c ∷ d ∷ []) ≡ true) where
  field_lt : (k : ℕ) → k < 4 → get_or (a ∷ b ∷ c ∷ d ∷ []) k 0 < 16
  field_lt k l =
      fits_lt most_inputs _ (omega arith) (every-at (field_fits most_inputs) (a ∷ b ∷ c ∷ d ∷ []) fields k l)

  found_at : found a b c d ≡ true
  found_at =
      let at_a = below_at found_a 16 all_found a (field_lt 0 (omega arith)) in
      let at_b = below_at (found_ab a) 16 at_a b (field_lt 1 (omega arith)) in
      let at_c = below_at (found_abc a b) 16 at_b c (field_lt 2 (omega arith)) in
      below_at (found a b c) 16 at_c d (field_lt 3 (omega arith))

  -- every tidy choice of four pins is that of an entry, so a search over the table misses none
  pub listed : ordered (a ∷ b ∷ c ∷ d ∷ []) ≡ true
      → (k : ℕ) × (k < 256) × (pins_of_mask (get_or masks k 0) ≡ a ∷ b ∷ c ∷ d ∷ [])
  listed order =
      let pins = a ∷ b ∷ c ∷ d ∷ [] in
      let tidy : tidy_choice pins ≡ true = rw (fields, order) in
      let told : pins_of_small pins ≡ true = implied (tidy_choice pins) (pins_of_small pins) found_at tidy in
      let same = alike-eq (pins_of_mask (mask_of pins)) pins (both_right (small (mask_of pins)) _ told) in
      let entry = masks-rule.complete (mask_of pins) (small→Small _ (both_left _ _ told)) in
      (entry.0, entry.1, rw entry.2 same)

pub listed-choice : (pins : List ℕ) → TidyChoice pins
    → (k : ℕ) × (k < 256) × (pins_of_mask (get_or masks k 0) ≡ pins)
listed-choice pins tidy =
    let same = four-of pins tidy.four in
    rw same
    (listed (get_or pins 0 0) (get_or pins 1 0) (get_or pins 2 0) (get_or pins 3 0) (rw same at tidy.fields)
    (rw same at tidy.order))

-- of a mask of at most four variables, the pins are a tidy choice and carry the variables of the mask
abbrev pins_right : ℕ → Bool
pins_right m = eqb (length (pins_of_mask m)) 4 && tidy_choice (pins_of_mask m)

abbrev carries_right : ℕ → ℕ → Bool
carries_right m v = beq (carries (pins_of_mask m) v) (has m v)

abbrev mask_right : ℕ → Bool
mask_right m = pins_right m && below (carries_right m) most_inputs

abbrev right_if_small : ℕ → Bool
right_if_small m = not (at_most_four m) || mask_right m

all_right : below right_if_small 512 ≡ true
unfolding has variables_from variables_in pins_of_mask ordered carries
all_right = refl

module _ (m : ℕ) (small-m : Small m) where
  right-at : mask_right m ≡ true
  right-at =
      let told = below_at right_if_small 512 all_right m small-m.nine in
      implied (at_most_four m) _ told (le-leb _ 4 small-m.four)

  pub pins-tidy : TidyChoice (pins_of_mask m)
  pins-tidy =
      let told = both_left (pins_right m) _ right-at in
      let tidy = both_right (eqb (length (pins_of_mask m)) 4) _ told in
      record {
        four = eqb-true _ 4 (both_left _ _ told);
        fields = both_left _ _ tidy;
        order = both_right (every (field_fits most_inputs) (pins_of_mask m)) _ tidy;
      }

  pub carries-mask : (v : ℕ) → v < most_inputs → carries (pins_of_mask m) v ≡ has m v
  carries-mask v l =
      same_bool _ _ (below_at (carries_right m) most_inputs (both_right (pins_right m) _ right-at) v l)

pub sound-pins : (k : ℕ) → k < 256 → TidyChoice (pins_of_mask (get_or masks k 0))
sound-pins k l = pins-tidy (get_or masks k 0) (masks-rule.sound k l)
