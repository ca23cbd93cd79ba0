-- `shown` reads back, from the table row that pins select, what they see of a row. Assumes nothing.
use mathlib.Core.Path.{◌≡◌, refl, sym, ◌∙◌}
use mathlib.Core.Bool.{false, ◌&&◌}
use mathlib.Core.List.{List, [], ◌∷◌}
use Prim.Native.Nat.{ℕ, suc, ◌+◌, ◌%◌, ◌^◌, ◌<◌, ◌≤◌}
use native.Mathlib.Nat.{mod-lt, mod-eq_of_lt}
use native.Mathlib.Omega.{arith}
use lib.Dec.{eqb}
use lib.ListN.{length}
use lib.Pow.{pow_pos, mod-pow-add}
use borrow.Author.Tests.{eqb-true}
use Rattle.bits.specs.Bits.{has}
use Rattle.bits.specs.Tests.{member}
use Rattle.bits.proofs.TestLaws.{or-absorb}
use Rattle.bits.proofs.SearchLaws.{byBool}
use Rattle.bits.proofs.BitLaws.{num-has, has-of_bits, of_bits-lt, of_bits-ext}
use Rattle.bits.proofs.RowLaws.{heads}
use Rattle.block.specs.Block.{is_open}
use Rattle.block.specs.Table.{most_inputs}
use Rattle.block.specs.Value.{selected}
use Rattle.block.specs.Kind.{carries}
use Rattle.wiring.specs.Wire.{reads, only, shows, shown}
use Rattle.wiring.proofs.OnlyLaws.{Agree}
use Rattle.wiring.proofs.ReadLaws.{variable-carried, pin_value-num, reads-carried}
use Rattle.wiring.proofs.ReadLaws.{carried-closed, carried-member}
use Rattle.wiring.proofs.SelectLaws.{selected-lt}

-- x ends in what the pins select in row r
abbrev pub Ends : (pins : List ℕ) (r x : ℕ) → Type 0
Ends pins r x = x % 2 ^ length pins ≡ selected pins r

pub ends-selected : (pins : List ℕ) (r : ℕ) → Ends pins r (selected pins r)
ends-selected pins r = mod-eq_of_lt (selected-lt pins r)

-- it has there what the first pin reads, and then what the others select
pub ends-cons : (pin : ℕ) (pins : List ℕ) (r x : ℕ) → Ends (pin ∷ pins) r x
    → (has x (length pins) ≡ reads pin r) × Ends pins r x
unfolding selected
ends-cons pin pins r x ends =
    let k = length pins in
    let long : 1 + k ≡ suc k = omega arith in
    let split = rw long at (mod-pow-add x 1 k) in
    heads k (has x k) (reads pin r) (x % 2 ^ k) (selected pins r)
    (mod-lt x (pow_pos k)) (selected-lt pins r)
    (rw (num-has x k, ← pin_value-num pin r) (sym split ∙ ends))

shows-ends : (pins : List ℕ) (r x v : ℕ) → is_open v ≡ false → Ends pins r x
    → shows pins x v ≡ (member v pins && has r v)
unfolding shows
shows-ends [] r x v carried ends = refl
shows-ends (pin ∷ pins) r x v carried ends =
    let here = ends-cons pin pins r x ends in
    let rest = shows-ends pins r x v carried here.1 in
    byBool (eqb v pin)
    (λ e.
    let same = eqb-true v pin e in
    let seen : has x (length pins) ≡ has r v = cc (here.0, reads-carried v r carried, same) in
    rw (e, seen, rest) (or-absorb (has r v) (member v pins)))
    (λ e. rw (e, rest))

module _ (n : ℕ) (pins : List ℕ) where
  pub shown-lt : (x : ℕ) → shown n pins x < 2 ^ n
  unfolding shown
  shown-lt x = of_bits-lt n (shows pins x)

  -- what is shown to the pins is what they see of every row that they select it in
  pub shown-selected : (r : ℕ) → n ≤ most_inputs
      → shown n pins (selected pins r) ≡ only n (carries pins) r
  unfolding shown only carries
  shown-selected r within =
      of_bits-ext n _ _
      (λ v l.
      let carried = variable-carried n v within l in
      shows-ends pins r (selected pins r) v carried (ends-selected pins r) ∙ rw carried)

  pub shown-agrees : (r : ℕ) → Agree n (carries pins) (shown n pins (selected pins r)) r
  unfolding shown
  shown-agrees r v l c =
      has-of_bits n (shows pins (selected pins r)) v l
      ∙ shows-ends pins r (selected pins r) v (carried-closed pins v c) (ends-selected pins r)
      ∙ rw (carried-member pins v c)
