-- What one pin reads: the value of its variable, or, if it is open, a level, whichever that is. What
-- pins carry: the fields that are not open. Assumes nothing.
use mathlib.Core.Path.{◌≡◌, sym, ◌∙◌}
use mathlib.Core.Bool.{true, false, not}
use mathlib.Core.List.{List}
use Prim.Native.Nat.{ℕ, ◌<◌, ◌≤◌}
use native.Mathlib.Omega.{arith}
use lib.Dec.{ltb}
use lib.ListN.{length, get_or}
use borrow.Author.Tests.{ne_eqb, ltb-true, not-true}
use Rattle.bits.specs.Bits.{has, num}
use Rattle.bits.specs.Tests.{every, member}
use Rattle.bits.proofs.TestLaws.{both_left, both_right, or_cases}
use Rattle.bits.proofs.SearchLaws.{byBool, clash}
use Rattle.bits.proofs.ListLaws.{at-member, every-member}
use Rattle.bits.proofs.BitLaws.{num-has}
use Rattle.block.specs.Block.{open_field, is_open}
use Rattle.block.specs.Table.{most_inputs}
use Rattle.block.specs.Value.{pin_value}
use Rattle.block.specs.Tidy.{field_fits}
use Rattle.block.specs.Kind.{carries}
use Rattle.wiring.specs.Wire.{reads}

pub variable-carried : (n v : ℕ) → n ≤ most_inputs → v < n → is_open v ≡ false
variable-carried n v within l = ne_eqb v open_field (omega arith)

pub carried-lt : (n pin : ℕ) → field_fits n pin ≡ true → is_open pin ≡ false → pin < n
carried-lt n pin fit carried =
    or_cases (ltb pin n) (is_open pin) (pin < n) fit (ltb-true pin n) (λ opened. clash opened carried)

pub pin_value-num : (pin r : ℕ) → pin_value pin r ≡ num (reads pin r)
unfolding reads pin_value has
pin_value-num pin r = byBool (is_open pin) (λ e. rw e) (λ e. rw e (sym (num-has r pin)))

reads-open : (pin r s : ℕ) → is_open pin ≡ true → reads pin r ≡ reads pin s
unfolding reads pin_value
reads-open pin r s opened = rw opened

pub reads-carried : (pin r : ℕ) → is_open pin ≡ false → reads pin r ≡ has r pin
unfolding reads pin_value has
reads-carried pin r carried = rw carried

pub reads-ext : (pin r s : ℕ) → (is_open pin ≡ false → has r pin ≡ has s pin) → reads pin r ≡ reads pin s
reads-ext pin r s same =
    byBool (is_open pin) (reads-open pin r s)
    (λ e. reads-carried pin r e ∙ same e ∙ sym (reads-carried pin s e))

-- where the variable is cleared, the pin does not read 1 for 0
pub reads-low : (pin r s : ℕ) → (is_open pin ≡ false → has s pin ≡ false → has r pin ≡ false)
    → reads pin s ≡ false → reads pin r ≡ false
reads-low pin r s low off =
    byBool (is_open pin) (λ e. reads-open pin r s e ∙ off)
    (λ e. reads-carried pin r e ∙ low e (sym (reads-carried pin s e) ∙ off))

pub carries-at : (pins : List ℕ) (k : ℕ) → k < length pins → is_open (get_or pins k 0) ≡ false
    → carries pins (get_or pins k 0) ≡ true
unfolding carries
carries-at pins k l e = rw (e, at-member pins k l)

pub carried-closed : (pins : List ℕ) (v : ℕ) → carries pins v ≡ true → is_open v ≡ false
unfolding carries
carried-closed pins v h = not-true (is_open v) (both_left (not (is_open v)) (member v pins) h)

pub carried-member : (pins : List ℕ) (v : ℕ) → carries pins v ≡ true → member v pins ≡ true
unfolding carries
carried-member pins v h = both_right (not (is_open v)) (member v pins) h

pub carried-below : (n : ℕ) (pins : List ℕ) → every (field_fits n) pins ≡ true
    → (v : ℕ) → carries pins v ≡ true → v < n
carried-below n pins fit v h =
    carried-lt n v (every-member (field_fits n) pins fit v (carried-member pins v h))
    (carried-closed pins v h)
