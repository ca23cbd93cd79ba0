-- The table row that pins select is the number of what they read, the first pin most significant. So it
-- says just the values of the carried variables, and falls where they are cleared. Assumes nothing.
use mathlib.Core.Path.{◌≡◌, refl, sym, ◌∙◌}
use mathlib.Core.Bool.{Bool, true, false}
use mathlib.Core.List.{List, [], ◌∷◌}
use Prim.Native.Nat.{ℕ, ◌^◌, ◌<◌, ◌≤◌}
use native.Mathlib.Omega.{arith}
use lib.ListN.{length, get_or}
use Rattle.bits.specs.Bits.{has, of_rows}
use Rattle.bits.specs.Tests.{every}
use Rattle.bits.proofs.SearchLaws.{clash}
use Rattle.bits.proofs.ListLaws.{every-at, member-at}
use Rattle.bits.proofs.RowLaws.{of_rows-lt, of_rows-ext, of_rows-injective, before-le}
use Rattle.block.specs.Block.{is_open}
use Rattle.block.specs.Value.{selected}
use Rattle.block.specs.Tidy.{field_fits}
use Rattle.block.specs.Kind.{carries}
use Rattle.wiring.specs.Wire.{reads, only}
use Rattle.wiring.proofs.OnlyLaws.{Agree, only-in}
use Rattle.wiring.proofs.ReadLaws.{carried-lt, pin_value-num, reads-carried, reads-ext, reads-low}
use Rattle.wiring.proofs.ReadLaws.{carries-at, carried-closed, carried-member}

-- what pin k of the pins reads in row r
abbrev read : (pins : List ℕ) (r k : ℕ) → Bool
read pins r k = reads (get_or pins k 0) r

selected-rows : (pins : List ℕ) (r : ℕ) → selected pins r ≡ of_rows (length pins) (read pins r)
unfolding selected of_rows
selected-rows [] r = refl
selected-rows (pin ∷ pins) r = rw (pin_value-num pin r, selected-rows pins r)

pub selected-lt : (pins : List ℕ) (r : ℕ) → selected pins r < 2 ^ length pins
selected-lt pins r = rw (selected-rows pins r) (of_rows-lt (length pins) (read pins r))

pub selected-four : (pins : List ℕ) → length pins ≡ 4 → (r : ℕ) → selected pins r < 16
selected-four pins four r = rw four at (selected-lt pins r)

-- where the pins select one table row, the rows agree on the carried variables
pub selected-agree : (n : ℕ) (pins : List ℕ) (r s : ℕ) → selected pins r ≡ selected pins s
    → Agree n (carries pins) r s
selected-agree n pins r s e v l c =
    let at = member-at v pins (carried-member pins v c) in
    let closed = carried-closed pins v c in
    let rows = sym (selected-rows pins r) ∙ e ∙ selected-rows pins s in
    let same = of_rows-injective (length pins) (read pins r) (read pins s) rows at.0 at.1 in
    cc (same, at.2, reads-carried v r closed, reads-carried v s closed)

module _ (n : ℕ) (pins : List ℕ) (fit : every (field_fits n) pins ≡ true) where
  pin-lt : (k : ℕ) → k < length pins → is_open (get_or pins k 0) ≡ false → get_or pins k 0 < n
  pin-lt k l = carried-lt n (get_or pins k 0) (every-at (field_fits n) pins fit k l)

  -- and conversely
  pub selected-same : (r s : ℕ) → Agree n (carries pins) r s → selected pins r ≡ selected pins s
  selected-same r s agree =
      selected-rows pins r
      ∙ of_rows-ext (length pins) (read pins r) (read pins s)
      (λ k l.
      reads-ext (get_or pins k 0) r s
      (λ closed. agree (get_or pins k 0) (pin-lt k l closed) (carries-at pins k l closed)))
      ∙ sym (selected-rows pins s)

  pub selected-only : (r : ℕ) → selected pins (only n (carries pins) r) ≡ selected pins r
  selected-only r = selected-same (only n (carries pins) r) r (only-in n (carries pins) r)

  module _ (r s : ℕ) (low : (v : ℕ) → v < n → has s v ≡ false → has r v ≡ false) where
    -- the table row does not rise where variables are cleared
    pub selected-le : selected pins r ≤ selected pins s
    selected-le =
        rw (selected-rows pins r, selected-rows pins s)
        (before-le (length pins) (read pins r) (read pins s)
        (λ k l same.
        reads-low (get_or pins k 0) r s (λ closed. low (get_or pins k 0) (pin-lt k l closed))))

    -- and falls where one of them is carried and was 1
    pub selected-less : (v : ℕ) → v < n → carries pins v ≡ true → has r v ≡ false → has s v ≡ true
        → selected pins r < selected pins s
    selected-less v l c x y =
        let apart : selected pins r ≡ selected pins s → ⊥ =
        λ e. clash y (sym (selected-agree n pins r s e v l c) ∙ x) in
        omega (arith, selected-le)
